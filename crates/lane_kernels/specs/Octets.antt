-- Octets bit by bit.
use Rattle.std.specs.Prelude.{◌≡◌, ℕ, ◌==◌, if◌then◌else◌}
use Rattle.std.specs.Int.{bit_at}

-- (a and mask) or (b and not mask): each bit is a's where the mask's is set, else b's
abbrev pub IsSelected : ℕ → ℕ → ℕ → ℕ → Type 0
IsSelected mask a b octet = (i : ℕ)
    → bit_at octet i ≡ (if bit_at mask i == 1 then bit_at a i else bit_at b i)
