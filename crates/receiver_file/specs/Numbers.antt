-- Numbers at the front of octets (own).
use Rattle.std.specs.Prelude.{ℕ, List, slice_index, Result, Ok}
use Rattle.std.specs.Int.{w32, from_be_bytes}
use Rattle.media_file.specs.declared.fault.FileFault.{FileFault}
use Rattle.media_file.specs.Fields.{field_at}
use Rattle.st_format.specs.Reading.{◌>>=◌}

-- the number that the next octet is, and what is behind it
unfoldable pub octet_at : List ℕ → Result (ℕ × List ℕ) FileFault
octet_at octets = field_at 1 octets >>= λ x. Ok (slice_index x.0 0, x.1)

-- the number that the next four octets are, most significant first, and what is behind them
unfoldable pub number_at : List ℕ → Result (ℕ × List ℕ) FileFault
number_at octets = field_at 4 octets >>= λ x. Ok (from_be_bytes w32 x.0, x.1)
