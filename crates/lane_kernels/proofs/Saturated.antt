-- The distance of two lanes by signed lanes of 32 bits, which pack to 16 bits in one step.
use Rattle.std.proofs.Common.{◌≡◌, ℕ, suc, inl, inr, ◌+◌, ◌-◌, ◌%◌, ◌^◌, ◌<◌, min, Bool, cond, ltb}
use Rattle.std.proofs.Common.{to_z, w16, w32, Fits, ap, sym, subst, arith, ◌∙◌}
use Rattle.std.specs.Prelude.{pos, negsuc}
use Rattle.std.specs.Int.Signed.{lt_z}
use Rattle.std.proofs.lemmas.Bool.{cases_lt}
use Rattle.std.proofs.lemmas.Bool.Decides.{nat_tests}
use Rattle.std.proofs.lemmas.Int.{to_z_pos}
use Rattle.std.proofs.Math.Facts.{to_z-neg}
use lib.Dec.{T}
use lib.IntN.{nat_abs}
use lib.Signed.{non_neg}

-- the comparison of two signed numbers of 32 bits
abbrev pub less : ℕ → ℕ → Bool
less x y = lt_z (to_z w32 x) (to_z w32 y)

-- a less b and 32768 more, as signed lanes hold it
abbrev pub far : ℕ → ℕ → ℕ
far a b = (a + (2 ^ 32 - (b + 32768) % 2 ^ 32)) % 2 ^ 32

-- within -32768 and 32767
abbrev pub raised : ℕ → ℕ
raised x = cond (less x 4294934528) 4294934528 x

abbrev pub lowered : ℕ → ℕ
lowered x = cond (less x 32767) x 32767

abbrev pub near : ℕ → ℕ → ℕ
near a b = (lowered (raised (far a b)) + 32768) % 2 ^ 32

above_low : (m x : ℕ) → 32767 < m → cond (ltb 32767 m) 4294934528 x ≡ 4294934528
above_low m x h = grind (arith, nat_tests)

not_below : (m x : ℕ) → m < 32768 → cond (ltb 32767 m) 4294934528 x ≡ x
not_below m x h = grind (arith, nat_tests)

least : (x : ℕ) → cond (ltb x 32767) x 32767 ≡ min 32767 x
least x = grind (arith, nat_tests)

of_near : (x y : ℕ) → raised x ≡ y
    → (lowered (raised x) + 32768) % 2 ^ 32 ≡ (lowered y + 32768) % 2 ^ 32
of_near x y e = ap (λ v. (lowered v + 32768) % 2 ^ 32) e

pub near_is : (a b : ℕ) → a < 1048576 → b < 1048576 → near a b ≡ min 65535 (a - b)
near_is a b p q = elim (cases_lt a (b + 32768)) [
  | inr g ↦
      let x : ℕ = a - b - 32768 in
      let d : far a b ≡ x = omega arith in
      let z = to_z_pos w32 x (omega arith) in
      let one : raised x ≡ x = λ i. cond (lt_z (z i) (negsuc 32767)) 4294934528 x in
      let two : lowered x ≡ min 32767 x =
      (λ i. cond (lt_z (z i) (pos 32767)) x 32767) ∙ least x in
      ap (λ v. (lowered (raised v) + 32768) % 2 ^ 32) d ∙ of_near x x one
      ∙ ap (λ v. (v + 32768) % 2 ^ 32) two ∙ omega arith
  | inl l ↦
      let m : ℕ = b + 32767 - a in
      let x : ℕ = 2 ^ 32 - suc m in
      let d : far a b ≡ x = omega arith in
      let z = to_z-neg w32 m (omega arith) in
      let one : raised x ≡ cond (ltb 32767 m) 4294934528 x =
      λ i. cond (lt_z (z i) (negsuc 32767)) 4294934528 x in
      ap (λ v. (lowered (raised v) + 32768) % 2 ^ 32) d ∙ elim (cases_lt 32767 m) [
        | inl big ↦ of_near x 4294934528 (one ∙ above_low m x big) ∙ omega arith
        | inr small ↦
            let two : lowered x ≡ x = λ i. cond (lt_z (z i) (pos 32767)) x 32767 in
            of_near x x (one ∙ not_below m x (omega arith))
            ∙ ap (λ v. (v + 32768) % 2 ^ 32) two ∙ omega arith
      ]
]

-- a signed number that 16 bits hold without a sign
pub near_fits : (s : ℕ) → s < 65536 → T (non_neg (to_z w32 s)) × Fits w16 (nat_abs (to_z w32 s))
near_fits s h =
    subst (λ z. T (non_neg z) × Fits w16 (nat_abs z)) (sym (to_z_pos w32 s (omega arith)))
    (tt, record { fits = h })

pub near_same : (s : ℕ) → s < 65536 → nat_abs (to_z w32 s) ≡ s
near_same s h = ap nat_abs (to_z_pos w32 s (omega arith))
