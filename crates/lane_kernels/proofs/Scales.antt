-- The scale of a depth, its centre and its greatest value.
use Rattle.std.proofs.Common.{◌≡◌, ℕ, ◌+◌, ◌-◌, ◌*◌, ◌^◌, ◌≤◌, arith, ap, ◌∙◌}
use Rattle.std.proofs.lemmas.Nat.{pow-add, pow_pos}
use Rattle.std.proofs.Math.Nat.{pow-le-pow_right}
use Rattle.lane_kernels.specs.Formulas.{centre, scale}

pub centre_is : (n : ℕ) → 8 ≤ n → centre n ≡ 128 * scale n
centre_is n h = let is : n - 1 ≡ 7 + (n - 8) =
    omega arith in ap (λ k. 2 ^ k) is ∙ pow-add 2 7 (n - 8)

pub whole_is : (n : ℕ) → 8 ≤ n → 2 ^ n ≡ 256 * scale n
whole_is n h = let is : n ≡ 8 + (n - 8) = omega arith in ap (λ k. 2 ^ k) is ∙ pow-add 2 8 (n - 8)

pub scale_least : (n : ℕ) → 1 ≤ scale n
scale_least n = pow_pos (n - 8)

pub scale_narrow : (n : ℕ) → n ≤ 12 → scale n ≤ 16
scale_narrow n h = let j : n - 8 ≤ 4 = omega arith in pow-le-pow_right (omega arith) j

pub scale_most : (n : ℕ) → n ≤ 16 → scale n ≤ 256
scale_most n h = let j : n - 8 ≤ 8 = omega arith in pow-le-pow_right (omega arith) j
