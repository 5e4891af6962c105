-- The lines of a row's missing runs, and of frames that miss nothing.
use Rattle.std.proofs.Common.{◌≡◌, ℕ, zero, suc, ◌+◌, ◌-◌, ◌<◌, Bool, true, false, not}
use Rattle.std.proofs.Common.{List, [], ◌∷◌, ◌++◌, length, map, drop, get_or, refl, ap, ◌∙◌}
use Rattle.std.proofs.Common.{cond, count_by, min, arith}
use Rattle.std.specs.List.{flat_map, list_all}
use Rattle.std.specs.declared.ops.Range.{Range}
use Rattle.std.proofs.lemmas.List.{get_or-drop, get_or-take, length-drop, length-take}
use Rattle.std.proofs.lemmas.List.FromFn.{get_or-map-range_with_len, length-map-range_with_len}
use Rattle.std.proofs.lemmas.List.Sums.{sum_by-cons}
use Rattle.st_format.specs.declared.cell.Cell.{Cell}
use Rattle.st_format.specs.declared.cell.Cell.TheVariants.{Missing, Value, Contested}
use Rattle.st_format.specs.Cell.{is_missing}
use Rattle.st_format.specs.Pgroup.{pixel_group}
use Rattle.st_format.specs.Position.{group_start, row_groups}
use Rattle.st_format.specs.Raster.{IsWhole, Raster}
use Rattle.frame_assembly.specs.Missing.{columns_of, known_groups, missing_runs_in}
use Rattle.frame_assembly.specs.Missing.{unknown_runs}
use Rattle.frame_assembly.specs.Rows.{group_cells}
use Rattle.frame_assembly.proofs.MissingFlags.{all_same, group_long}
use Rattle.packet_numbers.specs.Numbers.{numbered_run, runs_from}
use Rattle.packet_numbers.proofs.Runs.{closed_none}
use Rattle.frame_report.specs.Missing.{columns_line, missing_in_row, missing_line, missing_lines}
use Rattle.frame_report.proofs.Ranges.{texts_none}

-- ---- the lines of a row

lines_of : (columns row : ℕ) (runs : List (ℕ × ℕ))
    → flat_map (columns_line row) (map (columns_of columns) runs)
    ≡ flat_map (missing_line columns row) runs
lines_of columns row [] = refl
lines_of columns row (run ∷ runs) =
    ap (λ (t : List ℕ). missing_line columns row run ++ t) (lines_of columns row runs)

-- the lines of a row's runs, as the code goes through them
pub row_lines : (r : Raster) (row : ℕ) (runs : List (Range ℕ)) → runs ≡ unknown_runs r row
    → flat_map (columns_line row) runs ≡ missing_in_row r row
row_lines r row runs same =
    ap (flat_map (columns_line row)) same
    ∙ lines_of (pixel_group r.format.sampling r.format.depth).pixels row (missing_runs_in r row)

-- one run of those that are left, and those behind it
pub line_here : (row : ℕ) (run : Range ℕ) (runs rest : List (Range ℕ)) → runs ≡ run ∷ rest
    → flat_map (columns_line row) runs
    ≡ columns_line row run ++ flat_map (columns_line row) rest
line_here row run runs rest e = ap (flat_map (columns_line row)) e

pub line_end : (row : ℕ) (runs : List (Range ℕ)) → runs ≡ []
    → flat_map (columns_line row) runs ≡ []
line_end row runs e = ap (flat_map (columns_line row)) e

-- ---- frames of which nothing is missing

abbrev one_if : Bool → ℕ
one_if b = cond b 1 0

counted : (c : Cell) (cells : List Cell)
    → count_by is_missing (c ∷ cells) ≡ one_if (is_missing c) + count_by is_missing cells
counted c cells = sum_by-cons (λ x. one_if (is_missing x)) c cells

not_counted : (c : Cell) → one_if (is_missing c) ≡ 0 → is_missing c ≡ false
not_counted Missing e = absurd (omega (arith, e))
not_counted (Value v) e = refl
not_counted Contested e = refl

all_known : (cells : List Cell) (k : ℕ) → count_by is_missing cells ≡ 0 → k < length cells
    → is_missing (get_or cells k Missing) ≡ false
all_known [] k e lt = absurd (omega (arith, lt))
all_known (c ∷ cells) zero e lt = not_counted c (omega (arith, e, counted c cells))
all_known (c ∷ cells) (suc k) e lt =
    all_known cells k (omega (arith, e, counted c cells)) (omega (arith, lt))

-- a group's samples are cells
group_inside : (r : Raster) (row group i : ℕ)
    → length (group_cells r row group) ≡ (pixel_group r.format.sampling r.format.depth).samples
    → i < length (group_cells r row group)
    → group_start r.format row group + i < length r.cells
group_inside r row group i long within =
    let at : ℕ = group_start r.format row group in
    let n : ℕ = (pixel_group r.format.sampling r.format.depth).samples in
    let t : length (group_cells r row group) ≡ min n (length (drop at r.cells)) =
    length-take n (drop at r.cells) in
    let d : length (drop at r.cells) ≡ length r.cells - at = length-drop at r.cells in
    omega (arith, within, t, d)

some_known : (r : Raster) (row group : ℕ) → IsWhole r → row < r.format.height
    → group < row_groups r.format
    → 0 < (pixel_group r.format.sampling r.format.depth).samples
    → count_by is_missing r.cells ≡ 0 → not (list_all is_missing (group_cells r row group)) ≡ true
some_known r row group whole lt below some e =
    let n : ℕ = (pixel_group r.format.sampling r.format.depth).samples in
    let at : ℕ = group_start r.format row group in
    let long : length (group_cells r row group) ≡ n = group_long r row group whole lt below in
    ap not
    (all_same false (group_cells r row group)
    (λ i within.
    (let short : i < n = omega (arith, within, long) in
    let inside : at + i < length r.cells =
    group_inside r row group i long within in
    ap is_missing
    (get_or-take n (drop at r.cells) i Missing short ∙ get_or-drop at r.cells i Missing)
    ∙ all_known r.cells (at + i) e inside))
    (omega (arith, long, some)))

known_runs : (flags : List Bool) (place : ℕ)
    → ((k : ℕ) → k < length flags → get_or flags k false ≡ true) → runs_from place place flags ≡ []
known_runs [] place each = closed_none place place (omega arith)
known_runs (false ∷ flags) place each =
    let e : false ≡ true = each 0 (omega arith) in absurd cc
known_runs (true ∷ flags) place each =
    ap (λ xs. xs ++ runs_from (place + 1) (place + 1) flags)
    (closed_none place place (omega arith))
    ∙ known_runs flags (place + 1) (λ k lt. each (suc k) (omega (arith, lt)))

row_none : (r : Raster) (row : ℕ) → IsWhole r → row < r.format.height
    → 0 < (pixel_group r.format.sampling r.format.depth).samples
    → count_by is_missing r.cells ≡ 0 → missing_in_row r row ≡ []
row_none r row whole lt some e =
    let known : ℕ → Bool = λ group. not (list_all is_missing (group_cells r row group)) in
    let n : ℕ = row_groups r.format in
    ap (λ runs. flat_map
    (missing_line (pixel_group r.format.sampling r.format.depth).pixels row)
    (map (numbered_run 0) runs))
    (known_runs (known_groups r row).noted 0
    (λ k below.
    (let wide : length (known_groups r row).noted ≡ n = length-map-range_with_len known 0 n in
    let inside : k < n = omega (arith, below, wide) in
    get_or-map-range_with_len known 0 n k k false inside (omega arith)
    ∙ some_known r row k whole lt inside some e)))

pub rows_none : (r : Raster) → IsWhole r
    → 0 < (pixel_group r.format.sampling r.format.depth).samples
    → count_by is_missing r.cells ≡ 0 → missing_lines r ≡ []
rows_none r whole some e =
    texts_none (missing_in_row r) 0 r.format.height
    (λ row from to. row_none r row whole (omega (arith, to)) some e)
