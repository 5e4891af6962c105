-- The matrix of a part that begins at a pixel, and lists into which what is made of it is put.
use Rattle.std.proofs.Common.{◌≡◌, ℕ, ◌+◌, ◌-◌, ◌*◌, ◌/◌, ◌%◌, ◌<◌, ◌≤◌, ◌==◌, if◌then◌else◌, List, get_or}
use Rattle.std.proofs.Common.{length, take, drop, inl, inr, arith, ap, ◌∙◌}
use Rattle.std.proofs.lemmas.Bool.{cases_lt}
use Rattle.std.proofs.lemmas.List.{get_or-append_right, get_or-drop, get_or-take}
use Rattle.std.proofs.lemmas.List.{get_or_append_left, length-drop, length-take}
use borrow.Rule.Slice.PartMut.{put_mid}
use Rattle.lane_kernels.specs.Formulas.{cb, cr, luma, video_data}
use Rattle.lane_kernels.specs.Pixels.{ycc_at}
use Rattle.lane_kernels.proofs.Stored.{Below}

-- m samples from number a on
module _ (rgb : List ℕ) (a m i : ℕ) (begins : a % 3 ≡ 0) (ends : m % 3 ≡ 0) (within : i < m) where
  of_pixel : (c : ℕ) → c < 3
      → get_or (take m (drop a rgb)) (3 * (i / 3) + c) 0 ≡ get_or rgb (3 * ((a + i) / 3) + c) 0
  of_pixel c h =
      get_or-take m (drop a rgb) (3 * (i / 3) + c) 0 (omega arith)
      ∙ get_or-drop a rgb (3 * (i / 3) + c) 0
      ∙ ap (λ j. get_or rgb j 0) (omega arith)

  pub ycc_part : (n : ℕ) → ycc_at n (take m (drop a rgb)) i ≡ ycc_at n rgb (a + i)
  ycc_part n =
      let turn : i % 3 ≡ (a + i) % 3 = omega arith in
      let r = of_pixel 0 (omega arith) in
      let g = of_pixel 1 (omega arith) in
      let b = of_pixel 2 (omega arith) in
      λ j. if turn j == 0 then video_data n (cb n (r j) (g j) (b j))
      else (if turn j == 1 then video_data n (luma (r j) (g j) (b j))
      else video_data n (cr n (r j) (g j) (b j)))

-- what bounds a list bounds a part of it
pub part_below : (xs : List ℕ) (a m b : ℕ) → ((k : ℕ) → k < length xs → get_or xs k 0 < b)
    → (k : ℕ) → k < length (take m (drop a xs)) → get_or (take m (drop a xs)) k 0 < b
part_below xs a m b each k h =
    let room : k < m = omega (arith, length-take m (drop a xs)) in
    let within : a + k < length xs =
    omega (arith, h, length-take m (drop a xs), length-drop a xs) in
    omega (
      arith,
      get_or-take m (drop a xs) k 0 room ∙ get_or-drop a xs k 0,
      each (a + k) within,
    )

-- ys is put into xs at a, of which all below a is made
pub Below-part : (f : ℕ → ℕ) (xs ys : List ℕ) (a m : ℕ) → a ≤ length xs → length ys ≡ m
    → Below f a xs → ((i : ℕ) → i < length ys → get_or ys i 0 ≡ f (a + i))
    → Below f (a + m) (put_mid a m xs ys)
Below-part f xs ys a m room long below each k h =
    let front : length (take a xs) ≡ a = omega (arith, length-take a xs) in
    elim (cases_lt k a) [
      | inl l ↦
          get_or_append_left (take a xs) _ 0 k (omega (arith, front)) ∙ get_or-take a xs k 0 l
          ∙ below k l
      | inr g ↦
          let at : a + (k - a) ≡ k = omega arith in
          get_or-append_right (take a xs) _ a k 0 front g
          ∙ get_or_append_left ys _ 0 (k - a) (omega arith)
          ∙ each (k - a) (omega arith) ∙ ap f at
    ]
