-- The bits of a choice by a mask.
use Rattle.std.proofs.Common.{◌≡◌, ℕ, zero, suc, ◌+◌, ◌%◌, ◌<◌, ◌==◌, if◌then◌else◌, min, bit_and}
use Rattle.std.proofs.Common.{bit_xor, ap, ◌∙◌, arith}
use Rattle.std.specs.Int.{bit_at}
use Rattle.std.proofs.lemmas.Nat.Bits.{bit_at-lt, bit_at_and, bit_at_xor}
use Rattle.lane_kernels.specs.Octets.{IsSelected}

-- a bit of b, turned where the mask's bit is set and the bits differ
turned : (m a b : ℕ) → m < 2 → a < 2 → b < 2
    → (b + min m ((a + b) % 2)) % 2 ≡ (if m == 1 then a else b)
turned zero a b of_m of_a of_b = omega arith
turned (suc zero) a b of_m of_a of_b = omega arith
turned (suc (suc m)) a b of_m of_a of_b = absurd (omega arith)

-- b, turned where the mask has a bit and a another one
pub xor_selected : (m a b : ℕ) → IsSelected m a b (bit_xor b (bit_and m (bit_xor a b)))
xor_selected m a b i =
    bit_at_xor b (bit_and m (bit_xor a b)) i
    ∙ ap (λ (x : ℕ). (bit_at b i + x) % 2)
    (bit_at_and m (bit_xor a b) i ∙ ap (λ (x : ℕ). min (bit_at m i) x) (bit_at_xor a b i))
    ∙ turned (bit_at m i) (bit_at a i) (bit_at b i) (bit_at-lt m i) (bit_at-lt a i) (bit_at-lt b i)
