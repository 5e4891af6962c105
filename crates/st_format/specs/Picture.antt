-- Pictures: a value for each position (SMPTE ST 2110-20, pixel groups; RFC 4175, 4.3).
use Rattle.std.specs.Prelude.{◌≡◌, ◌≢◌, ℕ, ◌+◌, ◌*◌, ◌/◌, ◌%◌, ◌^◌, ◌<◌, List, length, map}
use Rattle.std.specs.Prelude.{slice_index}
use Rattle.std.specs.List.{AllByRecursion}
use Rattle.st_format.specs.declared.format.Format.{Format}
use Rattle.st_format.specs.Pgroup.{bits_of}
use Rattle.st_format.specs.Position.{Position, IsPosition, places, number_of, sample_count}

-- A raster of values: one for each position, in raster order
pub record Values : Type 0 where
  pub format : Format
  pub samples : List ℕ

-- a value of a sample fits its depth
abbrev pub FitsDepth : Format → ℕ → Type 0
FitsDepth f v = v < 2 ^ bits_of f.depth

-- each position has its value, and each value fits the depth
pub record IsPicture (p : Values) : Type 0 where
  pub whole : length p.samples ≡ sample_count p.format
  pub fit : AllByRecursion (FitsDepth p.format) p.samples

-- the value at a position, by its number in raster order
abbrev pub value_at : Values → Position → ℕ
value_at v p = slice_index v.samples (number_of v.format p)

-- one value for each component
abbrev pub filled_picture : Format → List ℕ → Values
filled_picture f fill =
    record { format = f; samples = map (λ p. slice_index fill p.component) (places f) }

-- one position has another value, and each other position the one that it had
pub record SetsOne (old new : Values) (p : Position) (value : ℕ) : Type 0 where
  pub format : new.format ≡ old.format
  pub changed : value_at new p ≡ value
  pub others : (q : Position) → IsPosition q old.format → q ≢ p → value_at new q ≡ value_at old q

-- The timestamp of frame k of a sender whose first frame has the timestamp base: a clock of 90,000
-- ticks a second, modulo 2 ^ 32 (SMPTE ST 2110-10, RTP timestamps; RFC 4175, 4.1)
abbrev pub timestamp_of : Format → ℕ → ℕ → ℕ
timestamp_of f base k = (base + k * 90000 * f.d / f.n) % 2 ^ 32
