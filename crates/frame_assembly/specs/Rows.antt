-- What a frame tells of its rows and pgroups, in the words of its cells (own).
use Rattle.std.specs.Prelude.{◌≡◌, ◌≢◌, ◌⊎◌, ℕ, ◌+◌, ◌*◌, ◌<◌, ◌≤◌, ◌==◌, Bool, true, false}
use Rattle.std.specs.Prelude.{if◌then◌else◌, List, [], ◌∷◌, ◌++◌, length, take, drop}
use Rattle.std.specs.Prelude.{slice_index_or, replicate}
use Rattle.std.specs.Int.{bit_at}
use Rattle.st_format.specs.declared.cell.Cell.{Cell}
use Rattle.st_format.specs.declared.cell.Cell.TheVariants.{Missing, Value, Contested}
use Rattle.st_format.specs.Cell.{is_contested, is_missing, is_present}
use Rattle.st_format.specs.Pgroup.{pixel_group}
use Rattle.st_format.specs.Position.{group_start, row_groups, row_samples}
use Rattle.st_format.specs.Raster.{Raster}
use Rattle.frame_assembly.specs.declared.state.GroupState.{GroupState}
use Rattle.frame_assembly.specs.declared.state.GroupState.TheVariants.{Gone, Whole, Mixed}

-- the cells of a row, in the order in which its samples are sent
abbrev pub row_cells : Raster → ℕ → List Cell
row_cells r row = take (row_samples r.format) (drop (row * row_samples r.format) r.cells)

-- the cells of a row's group
abbrev pub group_cells : Raster → ℕ → ℕ → List Cell
group_cells r row group =
    take (pixel_group r.format.sampling r.format.depth).samples
    (drop (group_start r.format row group) r.cells)

-- A mark word of a group's cells: bit 15 is clear where they are missing, bit i is set where cell i
-- is contested, and no other bit is set.
pub record IsMarkOf (mark : ℕ) (cells : List Cell) : Type 0 where
  pub missing : (i : ℕ) → i < length cells
      → is_missing (slice_index_or cells i Missing) ≡ (bit_at mark 15 == 0)
  pub contested : (i : ℕ) → i < length cells
      → is_contested (slice_index_or cells i Missing) ≡ (bit_at mark i == 1)
  pub others : (i : ℕ) → length cells ≤ i → i < 15 → bit_at mark i ≡ 0

-- What a group's state says of its cells: none has a value, each has one, or bit i of the mask says
-- that cell i is contested, and none is missing.
abbrev pub IsStateOf : GroupState → List Cell → Type 0
IsStateOf Gone cells = (i : ℕ) → i < length cells
    → is_missing (slice_index_or cells i Missing) ≡ true
IsStateOf Whole cells = (i : ℕ) → i < length cells
    → is_present (slice_index_or cells i Missing) ≡ true
IsStateOf (Mixed mask) cells =
    (mask ≢ 0) × ((i : ℕ) → i < length cells → is_missing (slice_index_or cells i Missing) ≡ false)
    × ((i : ℕ) → i < length cells
    → is_contested (slice_index_or cells i Missing) ≡ (bit_at mask i == 1))
    × ((i : ℕ) → length cells ≤ i → bit_at mask i ≡ 0)

-- the cells of a group: all are missing, or none is
abbrev pub IsAllOrNone : List Cell → Type 0
IsAllOrNone cells =
    ((i : ℕ) → i < length cells → is_missing (slice_index_or cells i Missing) ≡ true)
    ⊎ ((i : ℕ) → i < length cells → is_missing (slice_index_or cells i Missing) ≡ false)

-- each group of each row is missing as a whole, or has no missing sample
abbrev pub GroupsAreWhole : Raster → Type 0
GroupsAreWhole r = (row group : ℕ) → row < r.format.height → group < row_groups r.format
    → IsAllOrNone (group_cells r row group)

-- cells of values, the first of number i: contested where the bit of the mask is set
unfoldable pub given_from : ℕ → ℕ → List ℕ → List Cell
given_from mask i [] = []
given_from mask i (v ∷ vs) =
    (if bit_at mask i == 1 then Contested else Value v) ∷ given_from mask (i + 1) vs

-- the cells that a group is given: of its values, or missing
abbrev pub given_cells : Bool → ℕ → List ℕ → List Cell
given_cells present mask vs =
    if present then given_from mask 0 vs else replicate (length vs) Missing

-- cells with some of them replaced, from a number on
abbrev pub replaced_cells : ℕ → List Cell → List Cell → List Cell
replaced_cells k new cells = take k cells ++ (new ++ drop (length new) (drop k cells))
