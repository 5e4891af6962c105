-- The cells of a pgroup as octets of a receiver's file (own).
use Rattle.std.specs.Prelude.{◌≡◌, ℕ, zero, suc, ◌+◌, ◌*◌, ◌/◌, ◌%◌, ◌^◌, ◌<◌, ◌≤◌, Bool, true, not}
use Rattle.std.specs.Prelude.{◌&&◌, ◌||◌, ◌==◌, nat_lt, if◌then◌else◌, List, [], ◌∷◌, ◌++◌, ◌⊎◌}
use Rattle.std.specs.Prelude.{length, map, replicate, ⊤, Result, Ok, Err}
use Rattle.std.specs.Int.{w16, from_be_bytes, to_be_bytes}
use Rattle.std.specs.List.{AllByRecursion, flat_map, list_all}
use Rattle.st_format.specs.declared.cell.Cell.{Cell}
use Rattle.st_format.specs.declared.cell.Cell.TheVariants.{Missing, Value, Contested}
use Rattle.st_format.specs.declared.sampling.Sampling.{Sampling}
use Rattle.st_format.specs.declared.sampling.Depth.{Depth}
use Rattle.st_format.specs.Cell.{is_missing, known_value}
use Rattle.st_format.specs.Pgroup.{bits_of, pixel_group}
use Rattle.st_format.specs.Samples.{octets_in, values_in}
use Rattle.media_file.specs.declared.fault.FileFault.{FileFault}
use Rattle.media_file.specs.declared.fault.FileFault.TheVariants.{BadField, MixedGroup, Truncated}
use Rattle.media_file.specs.Fields.{field_at}
use Rattle.st_format.specs.Reading.{◌>>=◌}

-- the octets and samples of a pgroup, and the bits of a sample
pub record Shape : Type 0 where
  pub octets : ℕ
  pub samples : ℕ
  pub bits : ℕ

-- the shape of a format's pgroups (RFC 4175, 4.3)
abbrev pub shape_of : Sampling → Depth → Shape
shape_of s b =
    record {
      octets = (pixel_group s b).octets;
      samples = (pixel_group s b).samples;
      bits =
          bits_of b;
    }

-- a sample's bit of the mask
abbrev pub contested_bit : Cell → ℕ
contested_bit Missing = 0
contested_bit (Value v) = 0
contested_bit Contested = 1

-- bit i, counted from the least significant, says that sample i is contested
unfoldable pub mask_of : List Cell → ℕ
mask_of [] = 0
mask_of (c ∷ cs) = contested_bit c + 2 * mask_of cs

-- the octets of a group's samples: 0 for one that is missing or contested
abbrev pub samples_text : Shape → List Cell → List ℕ
samples_text s cells = octets_in s.bits (map known_value cells)

-- A group: 0 where all samples are missing; 1 and the octets where all have values; 2, the mask and
-- the octets where some are contested.
unfoldable pub group_text : Shape → List Cell → List ℕ
group_text s cells =
    if list_all is_missing cells then 0 ∷ []
    else (if mask_of cells == 0 then 1 ∷ samples_text s cells
    else 2 ∷ (to_be_bytes w16 (mask_of cells) ++ samples_text s cells))

-- a cell that isn't missing, and whose value has so many bits
abbrev pub IsHad : ℕ → Cell → Type 0
IsHad bits Missing = ⊥
IsHad bits (Value v) = v < 2 ^ bits
IsHad bits Contested = ⊤

-- The cells of a group: all missing, or none. So a frame holds them, since a segment carries whole
-- groups.
pub record IsGroup (s : Shape) (cells : List Cell) : Type 0 where
  pub whole : length cells ≡ s.samples
  pub alike : (cells ≡ replicate s.samples Missing) ⊎ AllByRecursion (IsHad s.bits) cells

-- what holds of the shape of each format
pub record IsShape (s : Shape) : Type 0 where
  pub some : 0 < s.samples
  pub few : s.samples ≤ 12
  pub some_bits : 0 < s.bits
  pub octets : s.bits * s.samples ≡ 8 * s.octets

-- the cells of a mask and values
unfoldable pub cells_by : ℕ → List ℕ → List Cell
cells_by m [] = []
cells_by m (v ∷ vs) = (if m % 2 == 1 then Contested else Value v) ∷ cells_by (m / 2) vs

-- a contested sample is written as 0
unfoldable pub are_zeroed : ℕ → List ℕ → Bool
are_zeroed m [] = true
are_zeroed m (v ∷ vs) = (not (m % 2 == 1) || v == 0) && are_zeroed (m / 2) vs

-- a group some of whose samples are contested
abbrev pub mixed_by : Shape → ℕ → List ℕ → List ℕ → Result (List Cell × List ℕ) FileFault
mixed_by s mask values rest =
    if mask == 0 || not (nat_lt mask (2 ^ s.samples))
    || not (are_zeroed mask values) then Err MixedGroup else Ok (cells_by mask values, rest)

-- a group, by its state (own): missing, whole, or with a mask of contested samples
unfoldable pub group_at : Shape → List ℕ → Result (List Cell × List ℕ) FileFault
group_at s [] = Err Truncated
group_at s (state ∷ octets) =
    if state == 0 then Ok (replicate s.samples Missing, octets)
    else (if state == 1
    then (field_at s.octets octets >>= λ x. Ok (map Value (values_in s.bits x.0), x.1))
    else (if state == 2
    then (field_at 2 octets >>= λ m. field_at s.octets m.1 >>=
    λ x. mixed_by s (from_be_bytes w16 m.0) (values_in s.bits x.0) x.1)
    else Err BadField))

-- groups, one after the other
abbrev pub groups_text : Shape → List (List Cell) → List ℕ
groups_text s groups = flat_map (group_text s) groups

-- so many groups
unfoldable pub groups_at : Shape → ℕ → List ℕ → Result (List (List Cell) × List ℕ) FileFault
groups_at s zero octets = Ok ([], octets)
groups_at s (suc n) octets =
    group_at s octets >>= λ x. groups_at s n x.1 >>= λ y. Ok (x.0 ∷ y.0, y.1)
