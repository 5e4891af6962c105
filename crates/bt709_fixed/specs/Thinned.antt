-- Which samples 4:2:2 keeps of 4:4:4 (own; orders of samples: RFC 4175, 4.3).
use Rattle.std.specs.Prelude.{ℕ, ◌+◌, ◌*◌, ◌/◌, ◌%◌, ◌==◌, if◌then◌else◌}

-- The number in 4:4:4 of sample number k of 4:2:2: a pair of columns is Cb Y Cr Cb Y Cr there, Cb Y
-- Cr Y here
abbrev pub thinned_number : ℕ → ℕ
thinned_number k = k / 4 * 6 + (if k % 4 == 3 then 4 else k % 4)
