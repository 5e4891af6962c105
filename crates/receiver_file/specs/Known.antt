-- The pgroups of a format, and those of a frame's rows (own).
use Rattle.std.specs.Prelude.{◌≡◌, ℕ, ◌*◌, ◌^◌, ◌<◌, true, List, [], ◌∷◌, ◌++◌, map}
use Rattle.std.specs.Prelude.{replicate, drop, ⊤, Result}
use Rattle.std.specs.Int.{w16, from_be_bytes, to_be_bytes}
use Rattle.st_format.specs.declared.cell.Cell.{Cell}
use Rattle.st_format.specs.declared.cell.Cell.TheVariants.{Missing, Value}
use Rattle.st_format.specs.declared.format.Format.{Format}
use Rattle.st_format.specs.Raster.{Raster}
use Rattle.frame_assembly.specs.declared.state.GroupState.{GroupState}
use Rattle.frame_assembly.specs.declared.state.GroupState.TheVariants.{Gone, Whole, Mixed}
use Rattle.st_format.specs.Samples.{values_in}
use Rattle.st_format.specs.Position.{group_start, row_groups}
use Rattle.media_file.specs.declared.fault.FileFault.{FileFault}
use Rattle.media_file.specs.Fields.{field_at}
use Rattle.st_format.specs.Reading.{◌>>=◌}
use Rattle.media_file.specs.Groups.{Shape, are_zeroed, cells_by, mixed_by, shape_of}
use Rattle.media_file.specs.StateFile.{cut_cells}

-- the shape of a format's pgroups: their octets and samples, and the bits of a sample
abbrev pub shape_in : Format → Shape
shape_in f = shape_of f.sampling f.depth

-- the cells of a row, pgroup by pgroup
abbrev pub row_cut : Raster → ℕ → List (List Cell)
row_cut r row =
    cut_cells (shape_in r.format).samples (row_groups r.format)
    (drop (group_start r.format row 0) r.cells)

-- the groups of so many first rows
abbrev pub rows_cut : Raster → ℕ → List (List Cell)
rows_cut r rows = cut_cells (shape_in r.format).samples (rows * row_groups r.format) r.cells

-- a group of a state, and octets that are told where it isn't missing
abbrev pub known_text : GroupState → List ℕ → List ℕ
known_text Gone octets = 0 ∷ []
known_text Whole octets = 1 ∷ octets
known_text (Mixed mask) octets = 2 ∷ (to_be_bytes w16 mask ++ octets)

-- the cells that a group's state and its octets say
abbrev pub cells_known : Shape → GroupState → List ℕ → List Cell
cells_known s Gone octets = replicate s.samples Missing
cells_known s Whole octets = map Value (values_in s.bits octets)
cells_known s (Mixed mask) octets = cells_by mask (values_in s.bits octets)

-- a mask has no bit beyond the group's samples, and a contested sample is 0
abbrev pub IsKnownGroup : Shape → GroupState → List ℕ → Type 0
IsKnownGroup s Gone octets = ⊤
IsKnownGroup s Whole octets = ⊤
IsKnownGroup s (Mixed mask) octets =
    (mask < 2 ^ s.samples) × (are_zeroed mask (values_in s.bits octets) ≡ true)

-- the mask and the octets of a group some of whose samples are contested
unfoldable pub mixed_at : Shape → List ℕ → Result (List Cell × List ℕ) FileFault
mixed_at s octets =
    field_at 2 octets >>= λ m. field_at s.octets m.1 >>=
    λ x. mixed_by s (from_be_bytes w16 m.0) (values_in s.bits x.0) x.1
