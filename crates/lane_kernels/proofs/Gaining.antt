-- Gain, raised by three times the value that it keeps, so that nothing lies below 0.
use Rattle.std.proofs.Common.{◌≡◌, ℕ, suc, inl, inr, ◌+◌, ◌-◌, ◌*◌, ◌/◌, ◌%◌, ◌^◌, ◌<◌, ◌≤◌, arith}
use Rattle.std.proofs.Common.{ap, ◌∙◌}
use Rattle.std.specs.Prelude.{pos, negsuc, ◌+ℤ◌, ◌-ℤ◌, ◌*ℤ◌}
use Rattle.std.proofs.lemmas.Bool.{cases_lt}
use Rattle.std.proofs.lemmas.Int.{ints}
use Rattle.std.proofs.lemmas.Nat.{mul-le}
use Rattle.lane_kernels.specs.Formulas.{gain}
use Rattle.lane_kernels.proofs.Floor.{floor_biased}

-- g and what 16384 is above it share z
shared : (z g : ℕ) → g ≤ 16384 → z * (16384 - g) + z * g ≡ 16384 * z
shared z g h = let d = 16384 - g in let is : d + g ≡ 16384 =
    omega arith in omega (arith, ap (λ x. z * x) is, split z d g)
  where
    split : (a b c : ℕ) → a * (b + c) ≡ a * b + a * c
    split a b c = omega arith

pub times : (v z g : ℕ) → (pos v -ℤ pos z) *ℤ pos g +ℤ pos (z * g) ≡ pos (v * g)
times v z g = elim (cases_lt v z) [
  | inl l ↦
      let d = z - v - 1 in
      let is : pos v -ℤ pos z ≡ negsuc d = omega (arith, ints) in
      let sum : suc d + v ≡ z = omega arith in
      ap (λ x. x *ℤ pos g +ℤ pos (z * g)) is
      ∙ below d (omega (arith, ap (λ x. x * g) sum, share (suc d) v g))
  | inr m ↦
      let d = v - z in
      let is : pos v -ℤ pos z ≡ pos d = omega (arith, ints) in
      let sum : d + z ≡ v = omega arith in
      ap (λ x. x *ℤ pos g +ℤ pos (z * g)) is
      ∙ ap pos (omega (arith, ap (λ x. x * g) sum, share d z g))
]
  where
    share : (a b c : ℕ) → (a + b) * c ≡ a * c + b * c
    share a b c = omega arith

    below : (d : ℕ) → suc d * g + v * g ≡ z * g → negsuc d *ℤ pos g +ℤ pos (z * g) ≡ pos (v * g)
    below d e = omega (arith, ints)

pub gain_natural : (z g v : ℕ) → g ≤ 16384
    → gain z g v +ℤ pos (3 * z) ≡ pos ((v * g + (z * (16384 - g) + 2048)) / 4096)
gain_natural z g v h =
    let m = v * g + (z * (16384 - g) + 2048) in
    let e : ((pos v -ℤ pos z) *ℤ pos g +ℤ pos 2048) +ℤ pos (4 * z * 4096) ≡ pos m =
    omega (arith, ints, times v z g, shared z g h) in
    let is = floor_biased ((pos v -ℤ pos z) *ℤ pos g +ℤ pos 2048) 4096 (4 * z) m (omega arith) e in
    omega (arith, ints)

pub gain_small : (z g v : ℕ) → g ≤ 16384 → z < 65536 → v < 65536
    → v * g + (z * (16384 - g) + 2048) < 1073743872
gain_small z g v h p q =
    omega (
      arith,
      mul-le v g 65535 g (omega arith) (omega arith),
      mul-le z (16384 - g) 65535 (16384 - g) (omega arith) (omega arith),
    )

pub gain_fits : (z g v : ℕ) → g ≤ 16384 → z < 65536 → v < 65536
    → (v * g % 2 ^ 32 + (z * (16384 - g) % 2 ^ 32 + 2048) % 2 ^ 32) % 2 ^ 32 / 4096
    ≡ (v * g + (z * (16384 - g) + 2048)) / 4096
gain_fits z g v h p q = omega (arith, gain_small z g v h p q)
