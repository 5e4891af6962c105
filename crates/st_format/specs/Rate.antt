-- Fractions in lowest terms.
use Rattle.std.specs.Prelude.{◌≡◌, ℕ, zero, suc, ◌%◌, ◌&&◌, ◌==◌, if◌then◌else◌}

-- the greatest number up to this limit that divides both
unfoldable pub greatest_up_to : ℕ → ℕ → ℕ → ℕ
greatest_up_to zero n d = 1
greatest_up_to (suc limit) n d =
    if n % suc limit == 0 && d % suc limit == 0 then suc limit else greatest_up_to limit n d

-- the greatest number that divides both
abbrev pub common_divisor : ℕ → ℕ → ℕ
common_divisor n d = greatest_up_to d n d

-- n / d is in lowest terms: no number but 1 divides both
abbrev pub IsLowest : ℕ → ℕ → Type 0
IsLowest n d = common_divisor n d ≡ 1
