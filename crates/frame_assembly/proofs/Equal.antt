-- Lists whose elements are equal one by one.
use Rattle.std.proofs.Common.{◌≡◌, ℕ, ◌+◌, ◌%◌, ◌<◌, List, get_or, max, bit_or, bit_xor, sym, ap}
use Rattle.std.proofs.Common.{◌∙◌, subst, inl, inr, arith}
use Rattle.std.specs.Int.{bit_at}
use Rattle.std.proofs.lemmas.Bool.{cases_eq}
use Rattle.std.proofs.lemmas.Nat.Bits.{bit_at-lt, bit_at-zero, bit_at_or, bit_at_xor}
use Rattle.std.proofs.lemmas.Nat.Bits.{same_from_bits}

xor_zero : (a b : ℕ) → bit_xor a b ≡ 0 → a ≡ b
xor_zero a b e = same_from_bits a b (λ i.
    let sum : (bit_at a i + bit_at b i) % 2 ≡ 0 =
    sym (bit_at_xor a b i) ∙ ap (λ (x : ℕ). bit_at x i) e ∙ bit_at-zero i in
    omega (arith, bit_at-lt a i, bit_at-lt b i))

or_zero : (a b : ℕ) → bit_or a b ≡ 0 → (i : ℕ) → max (bit_at a i) (bit_at b i) ≡ 0
or_zero a b e i = sym (bit_at_or a b i) ∙ ap (λ (x : ℕ). bit_at x i) e ∙ bit_at-zero i

or_first : (a b : ℕ) → bit_or a b ≡ 0 → a ≡ 0
or_first a b e =
    same_from_bits a 0
    (λ i. let none = or_zero a b e i in let zero_is : bit_at a i ≡ 0 =
    omega arith in zero_is ∙ sym (bit_at-zero i))

or_second : (a b : ℕ) → bit_or a b ≡ 0 → b ≡ 0
or_second a b e =
    same_from_bits b 0
    (λ i. let none = or_zero a b e i in let zero_is : bit_at b i ≡ 0 =
    omega arith in zero_is ∙ sym (bit_at-zero i))

-- one more, of which the bits that differ are gathered
pub same_more : (xs ys : List ℕ) (i unlike : ℕ)
    → (unlike ≡ 0 → (k : ℕ) → k < i → get_or xs k 0 ≡ get_or ys k 0)
    → bit_or unlike (bit_xor (get_or xs i 0) (get_or ys i 0)) ≡ 0 → (k : ℕ) → k < i + 1
    → get_or xs k 0 ≡ get_or ys k 0
same_more xs ys i unlike so_far e k lt = elim (cases_eq k i) [
  | inl at ↦ subst (λ (j : ℕ). get_or xs j 0 ≡ get_or ys j 0) (sym at)
      (xor_zero (get_or xs i 0) (get_or ys i 0)
      (or_second unlike (bit_xor (get_or xs i 0) (get_or ys i 0)) e))
  | inr ne ↦ so_far (or_first unlike (bit_xor (get_or xs i 0) (get_or ys i 0)) e) k (omega arith)
]
