-- What a mask of lanes tells of them.
use Rattle.std.proofs.Common.{◌≡◌, ◌≢◌, ℕ, zero, suc, ◌+◌, ◌*◌, ◌<◌, ◌≤◌, ◌==◌, List, [], ◌∷◌, Bool}
use Rattle.std.proofs.Common.{true, false, true≢false, cond, not, length, get_or, map, inl, inr}
use Rattle.std.proofs.Common.{refl, sym, ap, ◌∙◌, arith}
use Rattle.std.specs.List.{prefix_len}
use Rattle.std.proofs.lemmas.Bool.{cases_lt}
use Rattle.std.proofs.lemmas.Bool.Decides.{nat_tests}
use Rattle.std.proofs.lemmas.Simd.{get_or-chunk, length-chunk, run_in_chunk_fails}
use Rattle.std.proofs.lemmas.Simd.{run_in_chunk_stops, trailing_mask_l}
use lib.Count.{count_trailing_zeros}
use lib.Lanes.{chunk, mask_l}

bit_none : (b : Bool) (m : ℕ) → cond b 1 0 + 2 * m ≡ 0 → (b ≡ false) × (m ≡ 0)
bit_none true m h = absurd (omega arith)
bit_none false m h = (refl, omega arith)

-- where no bit of a mask is set, no lane passes
pub none_set : (p : ℕ → Bool) (v : List ℕ) → mask_l (map p v) ≡ 0 → (k : ℕ) → k < length v
    → p (get_or v k 0) ≡ false
none_set p [] h k within = absurd (omega arith)
none_set p (x ∷ v) h zero within = (bit_none (p x) (mask_l (map p v)) h).0
none_set p (x ∷ v) h (suc k) within =
    none_set p v (bit_none (p x) (mask_l (map p v)) h).1 k (omega arith)

-- a lane passes
abbrev pub OnePasses : (ℕ → Bool) → List ℕ → Type 0
OnePasses p v = (k : ℕ) × (k < length v) × (p (get_or v k 0) ≡ true)

one_of : (p : ℕ → Bool) (x : ℕ) (v : List ℕ) (b : Bool) → p x ≡ b
    → (cond b 1 0 + 2 * mask_l (map p v) ≡ 0 → ⊥)
    → ((mask_l (map p v) ≡ 0 → ⊥) → OnePasses p v) → OnePasses p (x ∷ v)
one_of p x v true e h more = (0, omega arith, e)
one_of p x v false e h more =
    let r = more (λ z. h (omega arith)) in
    (suc r.0, omega (arith, r.1), r.2)

-- where a bit is set, a lane passes
pub one_set : (p : ℕ → Bool) (v : List ℕ) → (mask_l (map p v) ≡ 0 → ⊥) → OnePasses p v
one_set p [] h = absurd (h refl)
one_set p (x ∷ v) h = one_of p x v (p x) refl h (one_set p v)

-- what a test for no bit of a mask tells
pub told_none : (m : ℕ) → not (not (m == 0)) ≡ true → m ≡ 0
told_none m h = grind (arith, nat_tests)

pub told_one : (m : ℕ) → not (not (m == 0)) ≡ false → m ≡ 0 → ⊥
told_one m h z = grind (arith, nat_tests)

-- r is how many elements from i on come before the first that passes
pub record IsRun (p : ℕ → Bool) (xs : List ℕ) (i r : ℕ) : Type 0 where
  pub within : i + r < length xs
  pub before : (k : ℕ) → i ≤ k → k < i + r → p (get_or xs k 0) ≡ false
  pub here : p (get_or xs (i + r) 0) ≡ true

-- where a bit of a load's mask is set, the lowest tells how far the first lane that passes is
pub lowest_set : (p : ℕ → Bool) (xs : List ℕ) (i n r : ℕ) → i + n ≤ length xs → n ≤ 64
    → (mask_l (map p (chunk i n xs)) ≡ 0 → ⊥)
    → r ≡ count_trailing_zeros 64 (mask_l (map p (chunk i n xs))) → IsRun p xs i r
lowest_set p xs i n r room small some is =
    let v : List ℕ = chunk i n xs in
    let long : length v ≡ n = length-chunk i n xs room in
    let one = one_set p v some in
    let other : mask_l (map p v) ≢ 0 = some in
    let counted : r ≡ prefix_len (λ x. not (p x)) v =
    is ∙ trailing_mask_l p 64 v (omega arith) (omega arith) in
    let fails = run_in_chunk_fails p xs i n r 0 room counted in
    let passes : p (get_or xs (i + one.0) 0) ≡ true =
    ap p (sym (get_or-chunk i n xs one.0 0 (omega (arith, one.1)))) ∙ one.2 in
    let near : r ≤ one.0 = elim (cases_lt one.0 r) [
      | inl l ↦ absurd (true≢false (sym passes ∙ fails (i + one.0) (omega arith) (omega arith)))
      | inr g ↦ g
    ] in
    let in_load : r < n = omega (arith, one.1) in
    record {
      within = omega arith;
      before = fails;
      here = run_in_chunk_stops p xs i n r 0 room counted in_load;
    }
