-- The flags of a row's mark words are those of its pgroups' cells.
use Rattle.std.proofs.Common.{◌≡◌, ℕ, suc, ◌+◌, ◌-◌, ◌*◌, ◌/◌, ◌%◌, ◌^◌, ◌<◌, ◌≤◌}
use Rattle.std.proofs.Common.{Bool, true, false}
use Rattle.std.proofs.Common.{not, List, [], ◌∷◌, ◌++◌, ◌&&◌, length, map, drop, get_or, sym}
use Rattle.std.proofs.Common.{ap, ◌∙◌, inl, inr, arith}
use Rattle.std.specs.List.{list_all}
use Rattle.std.proofs.lemmas.Bool.{cases_lt}
use Rattle.std.proofs.lemmas.List.{get_or-map, length-drop, length-map, length-take-le}
use Rattle.std.proofs.lemmas.List.{map-append, same_lists}
use Rattle.std.proofs.lemmas.List.FromFn.{get_or-map-range_with_len, length-map-range_with_len}
use Rattle.st_format.specs.declared.cell.Cell.{Cell}
use Rattle.st_format.specs.declared.cell.Cell.TheVariants.{Missing}
use Rattle.st_format.specs.declared.sampling.Sampling.{Sampling}
use Rattle.st_format.specs.declared.sampling.Sampling.TheVariants.{Ycc422, Ycc444, Rgb}
use Rattle.st_format.specs.declared.sampling.Depth.{Depth}
use Rattle.st_format.specs.declared.sampling.Depth.TheVariants.{D8, D10, D12, D16}
use Rattle.st_format.specs.Cell.{is_missing}
use Rattle.st_format.specs.Limits.{IsWidth}
use Rattle.st_format.specs.Pgroup.{pixel_group}
use Rattle.st_format.specs.Position.{group_start, row_groups}
use Rattle.st_format.specs.Raster.{IsWhole, Raster}
use Rattle.st_format.proofs.Columns.{some_samples}
use Rattle.frame_assembly.specs.declared.state.GroupState.{GroupState}
use Rattle.frame_assembly.specs.declared.state.GroupState.TheVariants.{Gone, Whole, Mixed}
use Rattle.frame_assembly.specs.Marks.{is_group_present, state_of_mark}
use Rattle.frame_assembly.specs.Missing.{columns_of, flags_in, is_known_mark, known_groups}
use Rattle.frame_assembly.specs.Missing.{missing_runs_in, runs_of_marks, unknown_runs}
use Rattle.frame_assembly.specs.Rows.{IsStateOf, group_cells}
use Rattle.frame_assembly.proofs.MarkLemmas.{has_value}
use Rattle.frame_assembly.proofs.Segments.{sample_count_groups}
use Rattle.packet_numbers.specs.Numbers.{AreMissingRuns, closed_run, numbered_run, runs_from}
use Rattle.packet_numbers.proofs.Runs.{are_missing_runs, closed_none, closed_some}

-- ---- how long a group is

pub group_long : (r : Raster) (row group : ℕ) → IsWhole r → row < r.format.height
    → group < row_groups r.format
    → length (group_cells r row group) ≡ (pixel_group r.format.sampling r.format.depth).samples
group_long r row group whole lt below =
    let h : ℕ = r.format.height in
    let size : ℕ = (pixel_group r.format.sampling r.format.depth).samples in
    let per : ℕ = row_groups r.format in
    let d : ℕ = h - (row + 1) in
    let e : ℕ = (per - (group + 1)) + d * per in
    let up : h ≡ row + (1 + d) = omega (arith, lt) in
    let rows : h * per ≡ (row * per + per) + d * per = ap (λ (k : ℕ). k * per) up ∙ omega arith in
    let all : h * per ≡ (row * per + group) + (1 + e) = omega (arith, rows, below) in
    let split : size * ((row * per + group) + (1 + e))
    ≡ size * (row * per + group) + (size + size * e) = omega arith in
    let total : length r.cells ≡ size * (row * per + group) + (size + size * e) =
    whole ∙ sym (sample_count_groups r.format) ∙ ap (λ (n : ℕ). size * n) all ∙ split in
    length-take-le size (drop (group_start r.format row group) r.cells)
    (omega (arith, length-drop (group_start r.format row group) r.cells, total))

pub group_some : (r : Raster) (row group : ℕ) → IsWhole r → row < r.format.height
    → group < row_groups r.format → 0 < length (group_cells r row group)
group_some r row group whole lt below =
    omega (
      arith,
      group_long r row group whole lt below,
      some_samples r.format.sampling r.format.depth,
    )

-- ---- runs that are told by numbers from 0 on

closed_same : (start end : ℕ) → end < 2 ^ 32
    → map (numbered_run 0) (closed_run start end) ≡ closed_run start end
closed_same start end small =
    elim (cases_lt start end) [
      | inl lt ↦
          let e : (0 + start) % 2 ^ 32 ≡ start = omega (arith, lt, small) in
          ap (map (numbered_run 0)) (closed_some start end lt)
          ∙ ap (λ (k : ℕ). (k, end - start) ∷ []) e ∙ sym (closed_some start end lt)
      | inr le ↦ ap (map (numbered_run 0)) (closed_none start end le)
          ∙ sym (closed_none start end le)
    ]

runs_same : (start place : ℕ) (flags : List Bool) → place + length flags < 2 ^ 32
    → map (numbered_run 0) (runs_from start place flags) ≡ runs_from start place flags
runs_same start place [] small = closed_same start place (omega (arith, small))
runs_same start place (true ∷ flags) small =
    map-append (numbered_run 0) (closed_run start place) (runs_from (place + 1) (place + 1) flags)
    ∙ ap (λ xs. xs ++ map (numbered_run 0) (runs_from (place + 1) (place + 1) flags))
    (closed_same start place (omega (arith, small)))
    ∙ ap (λ xs. closed_run start place ++ xs)
    (runs_same (place + 1) (place + 1) flags (omega (arith, small)))
runs_same start place (false ∷ flags) small =
    runs_same start (place + 1) flags (omega (arith, small))

-- ---- the flags of a row's cells

pub all_same : (b : Bool) (cells : List Cell)
    → ((i : ℕ) → i < length cells → is_missing (get_or cells i Missing) ≡ b) → 0 < length cells
    → list_all is_missing cells ≡ b
all_same b [] each some = absurd (omega (arith, some))
all_same false (x ∷ cells) each some =
    ap (λ (t : Bool). t && list_all is_missing cells) (each 0 (omega arith))
all_same true (x ∷ []) each some =
    ap (λ (t : Bool). t && list_all is_missing []) (each 0 (omega arith))
all_same true (x ∷ y ∷ cells) each some =
    ap (λ (t : Bool). t && list_all is_missing (y ∷ cells)) (each 0 (omega arith))
    ∙ all_same true (y ∷ cells) (λ i lt. each (suc i) (omega (arith, lt))) (omega arith)

flag_of_cells : (state : GroupState) (cells : List Cell) → IsStateOf state cells
    → 0 < length cells → is_group_present state ≡ not (list_all is_missing cells)
flag_of_cells Gone cells is some = ap not (sym (all_same true cells is some))
flag_of_cells Whole cells is some =
    ap not (sym (all_same false cells
    (λ i lt. has_value (get_or cells i Missing) (is i lt)) some))
flag_of_cells (Mixed mask) cells is some = ap not (sym (all_same false cells is.1 some))

flags_are : (r : Raster) (row : ℕ) (marks : List ℕ) → length marks ≡ row_groups r.format
    → ((group : ℕ) → group < row_groups r.format
    → IsStateOf (state_of_mark (get_or marks group 0)) (group_cells r row group))
    → ((group : ℕ) → group < row_groups r.format → 0 < length (group_cells r row group))
    → flags_in marks ≡ (known_groups r row).noted
flags_are r row marks long each some =
    let known : ℕ → Bool = λ group. not (list_all is_missing (group_cells r row group)) in
    let n : ℕ = row_groups r.format in
    same_lists (flags_in marks) (known_groups r row).noted
    (length-map marks is_known_mark ∙ long ∙ sym (length-map-range_with_len known 0 n))
    (λ k d lt.
    (let below : k < length marks = omega (arith, lt, length-map marks is_known_mark) in
    let inside : k < n = omega (arith, below, long) in
    get_or-map is_known_mark marks k 0 d below
    ∙ flag_of_cells (state_of_mark (get_or marks k 0)) (group_cells r row k)
    (each k inside) (some k inside)
    ∙ sym (get_or-map-range_with_len known 0 n k k d inside (omega arith))))

-- the runs of a row's mark words are those of its cells
pub row_is : (r : Raster) (row columns : ℕ) (marks : List ℕ) → length marks ≡ row_groups r.format
    → length marks ≤ 8192
    → ((group : ℕ) → group < row_groups r.format
    → IsStateOf (state_of_mark (get_or marks group 0)) (group_cells r row group))
    → ((group : ℕ) → group < row_groups r.format → 0 < length (group_cells r row group))
    → columns ≡ (pixel_group r.format.sampling r.format.depth).pixels
    → runs_of_marks columns 0 marks ≡ unknown_runs r row
row_is r row columns marks long few each some e =
    let small : 0 + length (flags_in marks) < 2 ^ 32 =
    omega (arith, few, length-map marks is_known_mark) in
    ap (λ (c : ℕ). map (columns_of c) (runs_from 0 0 (flags_in marks))) e
    ∙ ap (map (columns_of (pixel_group r.format.sampling r.format.depth).pixels))
    (sym (runs_same 0 0 (flags_in marks) small)
    ∙ ap (λ (fs : List Bool). map (numbered_run 0) (runs_from 0 0 fs))
    (flags_are r row marks long each some))

-- ---- the runs of a row's groups are the maximal ones

-- so many columns have at least one pgroup, and at most one for each
groups_of : (s : Sampling) (d : Depth) (w : ℕ) → 2 ≤ w → w % 2 ≡ 0
    → w % (pixel_group s d).pixels ≡ 0
    → (1 ≤ w / (pixel_group s d).pixels) × (w / (pixel_group s d).pixels ≤ w)
groups_of Ycc422 D8 w some even whole = (omega arith, omega arith)
groups_of Ycc422 D10 w some even whole = (omega arith, omega arith)
groups_of Ycc422 D12 w some even whole = (omega arith, omega arith)
groups_of Ycc422 D16 w some even whole = (omega arith, omega arith)
groups_of Ycc444 D8 w some even whole = (omega arith, omega arith)
groups_of Ycc444 D10 w some even whole = (omega arith, omega arith)
groups_of Ycc444 D12 w some even whole = (omega arith, omega arith)
groups_of Ycc444 D16 w some even whole = (omega arith, omega arith)
groups_of Rgb D8 w some even whole = (omega arith, omega arith)
groups_of Rgb D10 w some even whole = (omega arith, omega arith)
groups_of Rgb D12 w some even whole = (omega arith, omega arith)
groups_of Rgb D16 w some even whole = (omega arith, omega arith)

-- a row has few of them
pub groups_few : (r : Raster) → (1 ≤ row_groups r.format) × (row_groups r.format ≤ 8192)
groups_few r =
    let w : ℕ = r.format.width in
    let is : IsWidth r.format.sampling r.format.depth w = r.format.whole_width in
    let around = groups_of r.format.sampling r.format.depth w is.least is.even is.whole_groups in
    (around.0, omega (arith, around.1, is.most))

pub maximal : (r : Raster) (row : ℕ) → AreMissingRuns (known_groups r row) (missing_runs_in r row)
maximal r row =
    let known : ℕ → Bool = λ group. not (list_all is_missing (group_cells r row group)) in
    let n : ℕ = row_groups r.format in
    let few : (1 ≤ n) × (n ≤ 8192) = groups_few r in
    let long : length (known_groups r row).noted ≡ n = length-map-range_with_len known 0 n in
    are_missing_runs (known_groups r row)
    (record {
      first = omega arith;
      count = record { some = omega (arith, long, few.0); most = omega (arith, long, few.1) };
    })
