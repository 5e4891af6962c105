-- A list of flags that is kept as bits: the flag of place k is bit k mod 64 of word k / 64.
use Rattle.std.specs.Prelude.{ℕ, ◌/◌, ◌%◌, ◌==◌, Bool, ◌||◌, List, map, slice_index, zip}
use Rattle.std.specs.Int.{bit_at}
use Rattle.std.specs.List.{range_with_len}

-- the flag of place k: bit k mod 64 of word k / 64
abbrev pub flag_at : List ℕ → ℕ → Bool
flag_at words place = bit_at (slice_index words (place / 64)) (place % 64) == 1

-- the flags of the first places
abbrev pub flags_of : List ℕ → ℕ → List Bool
flags_of words count = map (flag_at words) (range_with_len 0 count)

-- set where the one or the other is
abbrev pub union_of_flags : List Bool → List Bool → List Bool
union_of_flags xs ys = map (λ p. p.0 || p.1) (zip xs ys)
