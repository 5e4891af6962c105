-- The lines of the missing pgroups of a frame (own).
use Rattle.std.specs.Prelude.{ℕ, ◌+◌, ◌-◌, ◌*◌, List, ◌++◌, codes}
use Rattle.std.specs.List.{flat_map, range_with_len}
use Rattle.std.specs.declared.ops.Range.{Range}
use Rattle.st_format.specs.Pgroup.{pixel_group}
use Rattle.st_format.specs.Raster.{Raster}
use Rattle.frame_assembly.specs.Missing.{missing_runs_in}
use Rattle.frame_report.specs.Gathers.{numbered_word}

-- `missing row R columns A to B`
abbrev pub run_text : ℕ → ℕ → ℕ → List ℕ
run_text row first last =
    numbered_word (codes "missing row ") row ++ (numbered_word (codes " columns ") first
    ++ (numbered_word (codes " to ") last ++ codes "\n"))

-- of a run: from the first column of its first group to the last of its last, of so many columns a
-- group
abbrev pub missing_line : ℕ → ℕ → (ℕ × ℕ) → List ℕ
missing_line columns row run = run_text row (columns * run.0) (columns * (run.0 + run.1) - 1)

-- a line for each run of a row, from the left
abbrev pub missing_in_row : Raster → ℕ → List ℕ
missing_in_row r row =
    flat_map (missing_line (pixel_group r.format.sampling r.format.depth).pixels row)
    (missing_runs_in r row)

-- the lines of all rows, from the top
abbrev pub missing_lines : Raster → List ℕ
missing_lines r = flat_map (missing_in_row r) (range_with_len 0 r.format.height)

-- The same of a run of columns, for the code's own clauses
abbrev pub columns_line : ℕ → Range ℕ → List ℕ
columns_line row columns = run_text row columns.start (columns.end - 1)
