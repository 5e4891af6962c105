-- How a frame keeps its cells: packed octets, and a mark word for each pgroup (own).
use Rattle.std.specs.Prelude.{◌≡◌, ℕ, ◌+◌, ◌*◌, ◌<◌, ◌≤◌, ◌==◌, if◌then◌else◌, List, [], ◌∷◌}
use Rattle.std.specs.Prelude.{◌++◌, ◌⊎◌, length, map, take, drop, replicate}
use Rattle.std.specs.Int.{bit_at}
use Rattle.std.specs.List.{AllByRecursion}
use Rattle.st_format.specs.declared.cell.Cell.{Cell}
use Rattle.st_format.specs.declared.cell.Cell.TheVariants.{Missing, Value, Contested}
use Rattle.st_format.specs.declared.format.Format.{Format}
use Rattle.st_format.specs.Cell.{known_value}
use Rattle.st_format.specs.Fit.{IsFrame}
use Rattle.st_format.specs.Pgroup.{bits_of, pixel_group}
use Rattle.st_format.specs.Position.{group_count}
use Rattle.st_format.specs.Raster.{joined_cells}
use Rattle.st_format.specs.Samples.{values_in}

-- Of a mark word, bit 15 says that the group has no missing sample, and bit i that its sample i is
-- contested: the cell of sample i, by its group's mark word and the value that the octets spell for
-- it.
unfoldable pub marked : ℕ → ℕ → ℕ → Cell
marked mark i v =
    if bit_at mark 15 == 1 then (if bit_at mark i == 1 then Contested else Value v) else Missing

-- the cells of one group's samples, the first of them of number i
unfoldable pub cells_from : ℕ → ℕ → List ℕ → List Cell
cells_from mark i [] = []
cells_from mark i (v ∷ vs) = marked mark i v ∷ cells_from mark (i + 1) vs

-- the cells of groups, one after the other: n bits a sample, size octets a group
unfoldable pub packed_cells : ℕ → ℕ → List ℕ → List ℕ → List Cell
packed_cells n size [] octets = []
packed_cells n size (mark ∷ marks) octets =
    cells_from mark 0 (values_in n (take size octets)) ++ packed_cells n size marks
    (drop size octets)

-- 0 for a missing group; else bit 15 and no bit of a sample that the group hasn't
unfoldable pub IsMark : ℕ → ℕ → Type 0
IsMark samples mark =
    (mark ≡ 0) ⊎ ((bit_at mark 15 ≡ 1) × ((i : ℕ) → samples ≤ i → i < 15 → bit_at mark i ≡ 0))

-- Groups as a frame keeps them. There is one list of octets and marks for each list of cells.
pub record IsPacked (n size samples : ℕ) (marks octets : List ℕ) : Type 0 where
  pub long : length octets ≡ size * length marks
  pub words : AllByRecursion (IsMark samples) marks
  pub known : values_in n octets ≡ map known_value (packed_cells n size marks octets)

-- Groups, others' groups, and the joins of their cells
pub record Joins (n size samples : ℕ)
    (marks octets other_marks others new_marks new_octets : List ℕ) : Type 0 where
  pub packed : IsPacked n size samples new_marks new_octets
  pub long : length new_marks ≡ length marks
  pub cells : packed_cells n size new_marks new_octets
      ≡ joined_cells (packed_cells n size marks octets) (packed_cells n size other_marks others)

-- The same of a format's groups
abbrev pub cells_in : Format → List ℕ → List ℕ → List Cell
cells_in f marks octets =
    packed_cells (bits_of f.depth) (pixel_group f.sampling f.depth).octets marks octets

-- mark words and octets are those of whole groups of a format
abbrev pub ArePacked : Format → List ℕ → List ℕ → Type 0
ArePacked f marks octets =
    IsPacked (bits_of f.depth) (pixel_group f.sampling f.depth).octets
    (pixel_group f.sampling f.depth).samples marks octets

-- groups after others of the format were joined to them
abbrev pub AreJoined : Format → List ℕ → List ℕ → List ℕ → List ℕ → List ℕ → List ℕ → Type 0
AreJoined f marks octets other_marks others new_marks new_octets =
    Joins (bits_of f.depth) (pixel_group f.sampling f.depth).octets
    (pixel_group f.sampling f.depth).samples marks octets other_marks others new_marks
    new_octets

-- the marks of groups of which each sample is offered
abbrev pub whole_marks : ℕ → List ℕ
whole_marks count = replicate count 32768

-- What a frame keeps: all groups of its raster; so its cells are a frame's
pub record HasAllGroups (f : Format) (marks octets : List ℕ) : Type 0 where
  pub groups : length marks ≡ group_count f
  pub packed : ArePacked f marks octets
  pub frame : IsFrame (record { format = f; cells = cells_in f marks octets })
