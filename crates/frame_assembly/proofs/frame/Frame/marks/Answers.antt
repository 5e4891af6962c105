use Rattle.std.proofs.Common.{ℕ, ◌<◌, List, length, get_or, sym, ap, ◌∙◌, subst}
use Rattle.st_format.specs.Position.{row_groups}
use Rattle.st_format.specs.Raster.{Raster}
use Rattle.frame_assembly.specs.Packed.{ArePacked, cells_in}
use Rattle.frame_assembly.specs.Marks.{state_of_mark}
use Rattle.frame_assembly.specs.Rows.{IsMarkOf, IsStateOf, group_cells}
use Rattle.frame_assembly.proofs.Kept.{frame_view}
use Rattle.frame_assembly.proofs.frame.Frame.marks.Goals as goal

pub marks_of_row-requires-clause-whole : goal.marks_of_row-requires-clause-whole
marks_of_row-requires-clause-whole g c =
    ap length c.as_slice.ensures.value ∙ c.self.invariant.groups

pub marks_of_row-requires-clause-packed : goal.marks_of_row-requires-clause-packed
marks_of_row-requires-clause-packed g c =
    subst (λ (ms : List ℕ). ArePacked c.self.inside.format ms c.as_slice-2.result.now)
    (sym c.as_slice.ensures.value)
    (subst (λ (os : List ℕ). ArePacked c.self.inside.format c.self.inside.marks.items os)
    (sym c.as_slice-2.ensures.value) c.self.invariant.packed)

pub marks_of_row-requires-clause-row : goal.marks_of_row-requires-clause-row
marks_of_row-requires-clause-row g c =
    subst (λ (r : Raster). c.args.row < r.format.height) (sym c.self.view_is) c.requires

pub returns-clause-long : goal.returns-clause-long
returns-clause-long g c =
    c.marks_of_row.ensures.long ∙ ap (λ (r : Raster). row_groups r.format) c.self.view_is

pub returns-clause-marks : goal.returns-clause-marks
returns-clause-marks g c =
    subst (λ (r : Raster). (group : ℕ) → group < row_groups r.format
    → IsMarkOf (get_or c.marks_of_row.result.now group 0) (group_cells r c.args.row group))
    (ap (λ (ms : List ℕ). frame_view c.self.inside.format
    (cells_in c.self.inside.format ms c.as_slice-2.result.now)) c.as_slice.ensures.value
    ∙ ap (λ (os : List ℕ). frame_view c.self.inside.format
    (cells_in c.self.inside.format c.self.inside.marks.items os)) c.as_slice-2.ensures.value
    ∙ c.self.view_is) c.marks_of_row.ensures.marks

pub returns-clause-states : goal.returns-clause-states
returns-clause-states g c =
    subst (λ (r : Raster). (group : ℕ) → group < row_groups r.format
    → IsStateOf (state_of_mark (get_or c.marks_of_row.result.now group 0))
    (group_cells r c.args.row group))
    (ap (λ (ms : List ℕ). frame_view c.self.inside.format
    (cells_in c.self.inside.format ms c.as_slice-2.result.now)) c.as_slice.ensures.value
    ∙ ap (λ (os : List ℕ). frame_view c.self.inside.format
    (cells_in c.self.inside.format c.self.inside.marks.items os)) c.as_slice-2.ensures.value
    ∙ c.self.view_is) c.marks_of_row.ensures.states
