-- The elements of a list after a part of it was written.
use Rattle.std.proofs.Common.{◌≡◌, ℕ, ◌+◌, ◌-◌, ◌<◌, ◌≤◌, List, get_or, length, take, drop, inl}
use Rattle.std.proofs.Common.{inr, arith, ap, ◌∙◌}
use Rattle.std.proofs.lemmas.List.{get_or_append_left, get_or-append_right, get_or-drop}
use Rattle.std.proofs.lemmas.List.{get_or-take, length-take, length-drop}
use Rattle.std.proofs.lemmas.Bool.{cases_lt}
use borrow.Rule.Slice.PartMut.{put_mid, post_of}

taken : (a : ℕ) (xs : List ℕ) → a ≤ length xs → length (take a xs) ≡ a
taken a xs h = omega (arith, length-take a xs)

pub put_below : (a m : ℕ) (xs ys : List ℕ) (k : ℕ) → a ≤ length xs → k < a
    → get_or (put_mid a m xs ys) k 0 ≡ get_or xs k 0
put_below a m xs ys k room h =
    get_or_append_left (take a xs) _ 0 k (omega (arith, taken a xs room)) ∙ get_or-take a xs k 0 h

pub put_within : (a m : ℕ) (xs ys : List ℕ) (k : ℕ) → a ≤ length xs → a ≤ k → k - a < length ys
    → get_or (put_mid a m xs ys) k 0 ≡ get_or ys (k - a) 0
put_within a m xs ys k room h within =
    get_or-append_right (take a xs) _ a k 0 (taken a xs room) h
    ∙ get_or_append_left ys _ 0 (k - a) within

pub put_above : (a m : ℕ) (xs ys : List ℕ) (k : ℕ) → a ≤ length xs → length ys ≡ m → a + m ≤ k
    → get_or (put_mid a m xs ys) k 0 ≡ get_or xs k 0
put_above a m xs ys k room long h =
    get_or-append_right (take a xs) _ a k 0 (taken a xs room) (omega arith)
    ∙ get_or-append_right ys (post_of a m xs) m (k - a) 0 long (omega arith)
    ∙ get_or-drop m _ (k - a - m) 0 ∙ get_or-drop a xs (m + (k - a - m)) 0
    ∙ ap (λ j. get_or xs j 0) (omega arith)

-- The elements before a were made by h, those from a on are as they were, and the part that is
-- written at a was made by h: then so are all up to the part's end
module _ (h : ℕ → ℕ → ℕ) (old xs ys : List ℕ) (a m : ℕ) (room : a + m ≤ length xs)
    (kept : (k : ℕ) → a ≤ k → get_or xs k 0 ≡ get_or old k 0)
    (long : length ys ≡ length (take m (drop a xs))) where
  whole : length ys ≡ m
  whole = omega (arith, long, length-take m (drop a xs), length-drop a xs)

  pub part_made : ((k : ℕ) → k < a → get_or xs k 0 ≡ h k (get_or old k 0))
      → ((i : ℕ) → i < length ys → get_or ys i 0 ≡ h (a + i) (get_or (take m (drop a xs)) i 0))
      → (k : ℕ) → k < a + m → get_or (put_mid a m xs ys) k 0 ≡ h k (get_or old k 0)
  part_made done each k below = elim (cases_lt k a) [
    | inl l ↦ put_below a m xs ys k (omega arith) l ∙ done k l
    | inr g ↦
        let i = k - a in
        let in_part : i < m = omega arith in
        let at : a + i ≡ k = omega arith in
        let was =
        get_or-take m (drop a xs) i 0 in_part ∙ get_or-drop a xs i 0
        ∙ kept (a + i) (omega arith) in
        put_within a m xs ys k (omega arith) g (omega (arith, whole))
        ∙ each i (omega (arith, whole))
        ∙ ap (h (a + i)) was ∙ ap (λ j. h j (get_or old j 0)) at
  ]

  pub part_kept : (k : ℕ) → a + m ≤ k → get_or (put_mid a m xs ys) k 0 ≡ get_or old k 0
  part_kept k above = put_above a m xs ys k (omega arith) whole above ∙ kept k (omega arith)
