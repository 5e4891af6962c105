-- Cb and Cr as one formula of coefficients (ITU-R BT.709, 3.5).
use Rattle.std.specs.Prelude.{ℕ, ◌+◌, ◌*◌, ℤ, pos, ◌+ℤ◌, ◌-ℤ◌, ◌*ℤ◌}
use Rattle.lane_kernels.specs.declared.matrix.Coefficients.{Coefficients}
use Rattle.lane_kernels.specs.declared.matrix.Difference.{Difference}
use Rattle.lane_kernels.specs.declared.matrix.Difference.TheVariants.{Cb, Cr}
use Rattle.lane_kernels.specs.Formulas.{centre, nearest}

-- of its own component, of the two others, and the divisor
abbrev pub coefficients : Difference → Coefficients
coefficients Cb = record { main = 4639; first = 1063; second = 3576; divisor = 1015941 }
coefficients Cr = record { main = 3937; first = 3576; second = 361; divisor = 862203 }

-- c of n bits: of x, its own component, and of y and z, the two others
abbrev pub difference : Difference → ℕ → ℕ → ℕ → ℕ → ℤ
difference c n x y z =
    let k = coefficients c in
    nearest (pos 112 *ℤ (pos (k.main * x) -ℤ pos (k.first * y + k.second * z))) k.divisor
    +ℤ pos (centre n)
