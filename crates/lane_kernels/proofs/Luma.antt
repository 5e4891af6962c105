-- Luma in 32 bits, which does not wrap.
use Rattle.std.proofs.Common.{◌≡◌, ℕ, ◌+◌, ◌*◌, ◌/◌, ◌%◌, ◌^◌, ◌<◌, arith}
use Rattle.std.specs.Prelude.{pos}
use Rattle.lane_kernels.specs.Formulas.{luma}
use Rattle.lane_kernels.proofs.Floor.{nearest_natural}

pub luma_natural : (r g b : ℕ) → luma r g b ≡ pos ((1063 * r + 3576 * g + 361 * b + 2500) / 5000)
luma_natural r g b = nearest_natural (1063 * r + 3576 * g + 361 * b) 5000 (omega arith)

pub luma_fits : (r g b : ℕ) → r < 65536 → g < 65536 → b < 65536
    → (((r * 1063 % 2 ^ 32 + g * 3576 % 2 ^ 32) % 2 ^ 32 + b * 361 % 2 ^ 32) % 2 ^ 32
    + 2500) % 2 ^ 32 / 5000
    ≡ (1063 * r + 3576 * g + 361 * b + 2500) / 5000
luma_fits r g b p q s = omega arith
