-- The contested samples of a row (own).
use Rattle.std.specs.Prelude.{◌≡◌, ℕ, ◌+◌, ◌-◌, ◌*◌, ◌<◌, ◌≤◌, ◌==◌, true, List, [], ◌∷◌, ◌++◌}
use Rattle.std.specs.Prelude.{MatchOption, Option, length, map, slice_index}
use Rattle.std.specs.Int.{bit_at}
use Rattle.std.specs.List.{filter, flat_map, range_with_len}
use Rattle.st_format.specs.declared.format.Format.{Format}
use Rattle.st_format.specs.declared.sampling.Sampling.{Sampling}
use Rattle.st_format.specs.Cell.{is_contested}
use Rattle.st_format.specs.Position.{IsPosition, Position, group_positions, place_in_row}
use Rattle.st_format.specs.Position.{row_groups}
use Rattle.st_format.specs.Raster.{Raster, cell_at}
use Rattle.frame_assembly.specs.Missing.{in_column}

-- the sample there is one of the raster, and values were offered for it that differ
pub record IsContestedSample (r : Raster) (row column component : ℕ) : Type 0 where
  pub position : IsPosition (in_column row column component) r.format
  pub contested : is_contested (cell_at r (in_column row column component)) ≡ true

-- the positions of a row, in the order in which its samples are sent
abbrev pub row_positions : Format → ℕ → List Position
row_positions f row = flat_map (group_positions f row) (range_with_len 0 (row_groups f))

-- column and component of a position
abbrev pub spot_of : Position → ℕ × ℕ
spot_of p = (p.column, p.component)

-- the contested samples of a row, in that order, each by its column and its component
abbrev pub contested_spots : Raster → ℕ → List (ℕ × ℕ)
contested_spots r row =
    map spot_of (filter (λ p. is_contested (cell_at r p)) (row_positions r.format row))

-- A call of `next` gave the first of the samples that were left, and left the others; or there was
-- none.
abbrev pub GivesSample : List (ℕ × ℕ) → Option (ℕ × ℕ) → List (ℕ × ℕ) → Type 0
GivesSample samples given rest =
    MatchOption given ((samples ≡ []) × (rest ≡ []))
    (λ spot. (samples ≡ spot ∷ rest) × (spot.1 < 3))

-- The same of mark words, for the code's own clauses: the samples of a group, from one on, of which
-- the word's bit is set. The group's first sample has this number in its row.
abbrev pub spots_of_mark : Sampling → ℕ → ℕ → ℕ → ℕ → List (ℕ × ℕ)
spots_of_mark s first size mark at =
    map (λ i. place_in_row s (first + i))
    (filter (λ i. bit_at mark i == 1) (range_with_len at (size - at)))

-- those of groups of so many samples, the first of this number
abbrev pub spots_of_marks : Sampling → ℕ → ℕ → List ℕ → List (ℕ × ℕ)
spots_of_marks s size group [] = []
spots_of_marks s size group (mark ∷ marks) =
    spots_of_mark s (size * group) size mark 0 ++ spots_of_marks s size (group + 1) marks

-- a mark word has a bit of one of its group's samples
abbrev pub HasContested : ℕ → ℕ → Type 0
HasContested size mark = (i : ℕ) × (i < size) × (bit_at mark i ≡ 1)

-- the first sample at or behind one that has its bit set; or how many there are, where none has
pub record IsNextSet (mark at size next : ℕ) : Type 0 where
  pub least : at ≤ next
  pub most : next ≤ size
  pub none : (i : ℕ) → at ≤ i → i < next → bit_at mark i ≡ 1 → ⊥
  pub set : next < size → bit_at mark next ≡ 1

-- so many first groups have no contested sample, and the next one has
pub record AreEven (size count : ℕ) (marks : List ℕ) : Type 0 where
  pub within : count ≤ length marks
  pub none : (group : ℕ) → group < count → HasContested size (slice_index marks group) → ⊥
  pub some : count < length marks → HasContested size (slice_index marks count)
