-- The groups of a row, and the rows of a frame, one after the other.
use Rattle.std.proofs.Common.{◌≡◌, ℕ, ◌+◌, ◌-◌, ◌*◌, ◌<◌, List, ◌++◌, length}
use Rattle.std.proofs.Common.{drop, Option, None, Some, append-nil, sym, ap, ◌∙◌, subst, arith}
use Rattle.std.specs.Io.KnownBytes.{Appends}
use Rattle.std.proofs.lemmas.List.{length-drop, length-take-le}
use Rattle.st_format.specs.Raster.{IsWhole, Raster}
use Rattle.frame_assembly.specs.Rows.{group_cells}
use Rattle.frame_assembly.proofs.Segments.{sample_count_groups}
use Rattle.receiver_file.specs.Known.{shape_in}
use Rattle.st_format.specs.declared.cell.Cell.{Cell}
use Rattle.st_format.specs.Device.{AppendsPrefix}
use Rattle.st_format.specs.Position.{group_start, row_groups}
use Rattle.media_file.specs.Groups.{Shape, groups_text}
use Rattle.media_file.specs.StateFile.{cut_cells}
use Rattle.receiver_file.proofs.CutCells.{cut_add, cut_three}
use Rattle.receiver_file.proofs.GroupRuns.{texts_cut, texts_more}

-- the cells of a row
abbrev pub row_from : ℕ → ℕ → List Cell → List Cell
row_from size a cells = drop (size * (a + 0)) cells

-- ---- written

pub written_none : (s : Shape) (size : ℕ) (cells : List Cell) (known : Option (List ℕ))
    → Appends known known (groups_text s (cut_cells size 0 cells))
unfolding cut_cells
written_none s size cells None = tt
written_none s size cells (Some o) = sym (append-nil o)

-- rows
pub rows_next : (size per row : ℕ) (cells : List Cell)
    → cut_cells size ((row + 1) * per) cells
    ≡ cut_cells size (row * per) cells ++ cut_cells size per (row_from size (row * per) cells)
rows_next size per row cells =
    let e : (row + 1) * per ≡ row * per + per = omega arith in
    let z : size * (row * per) ≡ size * (row * per + 0) = omega arith in
    ap (λ (n : ℕ). cut_cells size n cells) e ∙ cut_add size (row * per) per cells
    ∙ ap (λ (n : ℕ). cut_cells size (row * per) cells ++ cut_cells size per (drop n cells)) z

rows_rest : ℕ → ℕ → ℕ → ℕ → List Cell → List (List Cell)
rows_rest size per row h cells =
    cut_cells size ((h - (row + 1)) * per) (drop (size * (row * per + per)) cells)

pub sum_rows : (per row h k : ℕ) → h ≡ (row + 1) + k → (row * per + per) + k * per ≡ h * per
sum_rows per row h k e = let m : ((row + 1) + k) * per ≡ h * per =
    ap (λ (n : ℕ). n * per) (sym e) in let l : (row * per + per) + k * per
    ≡ ((row + 1) + k) * per = omega arith in l ∙ m

cut_rows : (size per row h : ℕ) (cells : List Cell) → row < h
    → cut_cells size (h * per) cells
    ≡ (cut_cells size (row * per) cells ++ cut_cells size per (row_from size (row * per) cells))
    ++ rows_rest size per row h cells
unfolding rows_rest
cut_rows size per row h cells lt =
    let k : ℕ = h - (row + 1) in
    let z : size * (row * per) ≡ size * (row * per + 0) = omega arith in
    cut_three size (row * per) per (k * per) (h * per) cells (sum_rows per row h k (omega arith))
    ∙ ap
    (λ (n : ℕ).
    (cut_cells size (row * per) cells ++ cut_cells size per (drop n cells)) ++ cut_cells size
    (k * per) (drop (size * (row * per + per)) cells)) z

pub rows_none : (s : Shape) (size per : ℕ) (cells : List Cell) (known : Option (List ℕ))
    → Appends known known (groups_text s (cut_cells size (0 * per) cells))
rows_none s size per cells known = let e : 0 ≡ 0 * per =
    omega arith in subst
    (λ (n : ℕ). Appends known known (groups_text s (cut_cells size n cells))) e
    (written_none s size cells known)

pub rows_more : (s : Shape) (size per row : ℕ) (cells : List Cell) (old mid new : Option (List ℕ))
    → Appends old mid (groups_text s (cut_cells size (row * per) cells))
    → Appends mid new (groups_text s (cut_cells size per (row_from size (row * per) cells)))
    → Appends old new (groups_text s (cut_cells size ((row + 1) * per) cells))
rows_more s size per row cells old mid new p q =
    texts_more s (cut_cells size (row * per) cells)
    (cut_cells size per (row_from size (row * per) cells))
    (cut_cells size ((row + 1) * per) cells) old mid new (rows_next size per row cells) p q

pub rows_stop : (s : Shape) (size per row h : ℕ) (cells : List Cell)
    (old mid new : Option (List ℕ)) → row < h
    → Appends old mid (groups_text s (cut_cells size (row * per) cells))
    → AppendsPrefix mid new (groups_text s (cut_cells size per (row_from size (row * per) cells)))
    → AppendsPrefix old new (groups_text s (cut_cells size (h * per) cells))
rows_stop s size per row h cells old mid new lt p q =
    texts_cut s (cut_cells size (row * per) cells)
    (cut_cells size per (row_from size (row * per) cells)) (rows_rest size per row h cells)
    (cut_cells size (h * per) cells) old mid new (cut_rows size per row h cells lt) p q

-- ---- how long a group is

pub group_long : (r : Raster) (row group : ℕ) → IsWhole r → row < r.format.height
    → group < row_groups r.format → length (group_cells r row group) ≡ (shape_in r.format).samples
group_long r row group whole lt below =
    let h : ℕ = r.format.height in
    let size : ℕ = (shape_in r.format).samples in
    let per : ℕ = row_groups r.format in
    let d : ℕ = h - (row + 1) in
    let e : ℕ = (per - (group + 1)) + d * per in
    let rows : (row * per + per) + d * per ≡ h * per = sum_rows per row h d (omega arith) in
    let all : h * per ≡ (row * per + group) + (1 + e) = omega (arith, rows, below) in
    let split : size * ((row * per + group) + (1 + e))
    ≡ size * (row * per + group) + (size + size * e) = omega arith in
    let total : length r.cells ≡ size * (row * per + group) + (size + size * e) =
    whole ∙ sym (sample_count_groups r.format) ∙ ap (λ (n : ℕ). size * n) all ∙ split in
    length-take-le size (drop (group_start r.format row group) r.cells)
    (omega (arith, length-drop (group_start r.format row group) r.cells, total))
