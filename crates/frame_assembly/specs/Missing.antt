-- The runs of a row's columns of which nothing is known (own).
use Rattle.std.specs.Prelude.{◌≡◌, ◌↔◌, ℕ, ◌+◌, ◌-◌, ◌*◌, ◌<◌, ◌≤◌, Bool, true, false, List, map}
use Rattle.std.specs.Prelude.{[], ◌∷◌, MatchOption, Option, length, not, slice_index}
use Rattle.std.specs.List.{list_all, range_with_len}
use Rattle.std.specs.List.Sorted.{IsStrictlyIncreasing}
use Rattle.std.specs.declared.ops.Range.{Range}
use Rattle.st_format.specs.Cell.{is_missing}
use Rattle.st_format.specs.Member.{IsMember}
use Rattle.st_format.specs.Pgroup.{pixel_group}
use Rattle.st_format.specs.Position.{IsPosition, Position, row_groups}
use Rattle.st_format.specs.Raster.{Raster, cell_at}
use Rattle.frame_assembly.specs.Marks.{is_group_present, state_of_mark}
use Rattle.frame_assembly.specs.Rows.{group_cells}
use Rattle.packet_numbers.specs.Numbers.{Numbers, missing_runs_of, runs_from}

-- the position of a row's column and component
abbrev pub in_column : ℕ → ℕ → ℕ → Position
in_column row column component = record { row = row; column = column; component = component }

-- nothing is known of a column of a row: each of its samples is missing
abbrev pub IsUnknown : Raster → ℕ → ℕ → Type 0
IsUnknown r row column = (component : ℕ) → IsPosition (in_column row column component) r.format
    → is_missing (cell_at r (in_column row column component)) ≡ true

-- none of its samples is missing
abbrev pub IsKnown : Raster → ℕ → ℕ → Type 0
IsKnown r row column = (component : ℕ) → IsPosition (in_column row column component) r.format
    → is_missing (cell_at r (in_column row column component)) ≡ false

-- A maximal run of unknown columns, from its first to the one behind its last: nothing is known of
-- each of its columns, and those before and behind it are known, where there are such columns.
pub record IsUnknownRun (r : Raster) (row : ℕ) (run : Range ℕ) : Type 0 where
  pub some : run.start < run.end
  pub within : run.end ≤ r.format.width
  pub unknown : (column : ℕ) → run.start ≤ column → column < run.end → IsUnknown r row column
  pub before : 0 < run.start → IsKnown r row (run.start - 1)
  pub behind : run.end < r.format.width → IsKnown r row run.end

-- The runs are the maximal runs of unknown columns of a row, no other and each once, from the left.
pub record AreUnknownRuns (r : Raster) (row : ℕ) (runs : List (Range ℕ)) : Type 0 where
  pub each : (run : Range ℕ) → IsMember run runs ↔ IsUnknownRun r row run
  pub order : IsStrictlyIncreasing (map (λ run. run.start) runs)

-- A call of `next` gave the first of the runs that were left, which has a column, and left the
-- others; or there was none.
abbrev pub GivesRun : List (Range ℕ) → Option (Range ℕ) → List (Range ℕ) → Type 0
GivesRun runs given rest =
    MatchOption given ((runs ≡ []) × (rest ≡ []))
    (λ run. (runs ≡ run ∷ rest) × (run.start < run.end))

-- The same list pgroup by pgroup. Of a row's pgroups, from the left, whether something is known of
-- them: a group is missing where all its samples are.
abbrev pub known_groups : Raster → ℕ → Numbers
known_groups r row = record {
  first = 0;
  noted =
      map (λ group. not (list_all is_missing (group_cells r row group)))
      (range_with_len 0 (row_groups r.format));
}

-- the maximal runs of missing groups of a row, from the left, each by its first group and how many
-- there are (AreMissingRuns says it as a relation)
abbrev pub missing_runs_in : Raster → ℕ → List (ℕ × ℕ)
missing_runs_in r row = missing_runs_of (known_groups r row)

-- the columns of a run of groups, of so many columns each
abbrev pub columns_of : ℕ → (ℕ × ℕ) → Range ℕ
columns_of columns run =
    record { start = columns * run.0; end = columns * (run.0 + run.1) }

-- the columns of the missing runs of a row
abbrev pub unknown_runs : Raster → ℕ → List (Range ℕ)
unknown_runs r row =
    map (columns_of (pixel_group r.format.sampling r.format.depth).pixels) (missing_runs_in r row)

-- The same of mark words, for the code's own clauses: whether a group is known
abbrev pub is_known_mark : ℕ → Bool
is_known_mark mark = is_group_present (state_of_mark mark)

-- which groups are known, each by its mark word
abbrev pub flags_in : List ℕ → List Bool
flags_in marks = map is_known_mark marks

-- the columns of the missing runs of groups, the first of this number
abbrev pub runs_of_marks : ℕ → ℕ → List ℕ → List (Range ℕ)
runs_of_marks columns group marks =
    map (columns_of columns) (runs_from group group (flags_in marks))

-- so many first groups are known, or are not, and the next one differs
pub record IsStretch (known : Bool) (count : ℕ) (marks : List ℕ) : Type 0 where
  pub within : count ≤ length marks
  pub same : (group : ℕ) → group < count → is_known_mark (slice_index marks group) ≡ known
  pub next : count < length marks → is_known_mark (slice_index marks count) ≡ not known
