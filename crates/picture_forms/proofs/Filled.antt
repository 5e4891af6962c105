-- Samples of a plane put one after another.
use Rattle.std.proofs.Common.{◌≡◌, ℕ, zero, suc, ◌+◌, ◌*◌, ◌/◌, ◌%◌, ◌<◌, ◌≤◌, List, [], ◌∷◌}
use Rattle.std.proofs.Common.{◌++◌, length}
use Rattle.std.proofs.Common.{set, refl, ap, ◌∙◌, arith}
use Rattle.std.proofs.lemmas.List.{get_or-set_other, get_or-set_same, length-set}
use Rattle.picture_forms.specs.declared.planes.Spelling.{Spelling}
use Rattle.picture_forms.specs.declared.planes.Spelling.TheVariants.{Little, Big}
use Rattle.picture_forms.specs.Planes.{Inside, KeepsOthers, every, every_text, sample_text}
use Rattle.picture_forms.proofs.Texts.{every_more, inside_at}

-- the same samples have the same octets
pub every_same : (s : Spelling) (xs ys : List ℕ) (first step a n : ℕ)
    → ((k : ℕ) → a ≤ k → k < a + n → every xs first step k ≡ every ys first step k)
    → every_text s xs first step a n ≡ every_text s ys first step a n
unfolding every_text
every_same s xs ys first step a zero h = refl
every_same s xs ys first step a (suc n) h =
    ap (λ (v : ℕ). sample_text s v ++ every_text s xs first step (a + 1) n)
    (h a (omega arith) (omega arith))
    ∙ ap (λ (t : List ℕ). sample_text s (every ys first step a) ++ t)
    (every_same s xs ys first step (a + 1) n (λ k le lt. h k (omega arith) (omega arith)))

-- samples of other numbers stand elsewhere
pub elsewhere : (first step j k : ℕ) → 0 < step → j < k
    → first + step * j ≡ first + step * k → ⊥
elsewhere first step j k some lt e = grind arith

-- one more sample is put
pub put_more : (s : Spelling) (xs t u : List ℕ) (first step start i v n : ℕ)
    → Inside xs first step n → start + i < n
    → every_text s xs first step start i ≡ t → sample_text s v ≡ u
    → every_text s (set xs (first + step * (start + i)) v) first step start (i + 1) ≡ t ++ u
put_more s xs t u first step start i v n is lt so_far new =
    let at : ℕ = first + step * (start + i) in
    let low : first < step = is.low in
    let here : at < length xs = inside_at xs first step n (start + i) is lt in
    every_more s (set xs at v) first step start i
    ∙ ap (λ (w : ℕ). every_text s (set xs at v) first step start i ++ sample_text s w)
    (get_or-set_same xs at v 0 here)
    ∙ ap (λ (w : List ℕ). every_text s (set xs at v) first step start i ++ w) new
    ∙ ap (λ (w : List ℕ). w ++ u)
    (every_same s (set xs at v) xs first step start i
    (λ k le below. get_or-set_other xs at (first + step * k) v 0
    (elsewhere first step k (start + i) (omega arith) (omega arith)))
    ∙ so_far)

pub keeps_none : (xs : List ℕ) (first step start : ℕ) → KeepsOthers xs xs first step start 0
keeps_none xs first step start = record { long = refl; others = λ j h. refl }

pub keeps_more : (old xs : List ℕ) (first step start i v : ℕ)
    → KeepsOthers old xs first step start i
    → KeepsOthers old (set xs (first + step * (start + i)) v) first step start (i + 1)
keeps_more old xs first step start i v p = record {
  long = length-set xs (first + step * (start + i)) v ∙ p.long;
  others =
      λ j h. get_or-set_other xs (first + step * (start + i)) j v 0
      (h (start + i) (omega arith) (omega arith))
      ∙ p.others j (λ k le lt. h k le (omega arith));
}

pub little_text : (a b v : ℕ) → a < 256 → b < 256 → v ≡ a + b * 256
    → sample_text Little v ≡ a ∷ b ∷ []
little_text a b v ha hb e =
    let low : v % 256 ≡ a = omega arith in
    let high : v / 256 ≡ b = omega arith in
    rw (low, high) refl

pub big_text : (a b v : ℕ) → a < 256 → b < 256 → v ≡ a * 256 + b
    → sample_text Big v ≡ a ∷ b ∷ []
big_text a b v ha hb e =
    let low : v % 256 ≡ b = omega arith in
    let high : v / 256 ≡ a = omega arith in
    rw (low, high) refl

pub put_none : (s : Spelling) (xs : List ℕ) (first step start : ℕ)
    → every_text s xs first step start 0 ≡ []
unfolding every_text
put_none s xs first step start = refl

pub inside_long : (old xs : List ℕ) (first step n : ℕ) → Inside old first step n
    → length xs ≡ length old → Inside xs first step n
inside_long old xs first step n is long = record {
  low = is.low;
  within = let h : step * n ≤ length old = is.within in omega (arith, h, long);
}
