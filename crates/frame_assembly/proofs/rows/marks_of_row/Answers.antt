use Rattle.std.proofs.Common.{◌≡◌, ◌+◌, ◌*◌, ◌-◌, ◌<◌, ◌∙◌, ℕ, List, get_or, take, drop}
use Rattle.std.proofs.Common.{subst, sym, arith}
use Rattle.std.proofs.lemmas.List.{get_or-drop, get_or-take}
use Rattle.frame_assembly.proofs.MarkLemmas.{state_is}
use Rattle.frame_assembly.proofs.RowLemmas.{group_few, row_marks}
use Rattle.frame_assembly.proofs.rows.marks_of_row.Goals as goal

pub returns-clause-marks : goal.returns-clause-marks
returns-clause-marks c =
    row_marks c.args.format.now c.args.marks.now c.args.octets.now c.args.row
    c.row_groups-count.result c.row_groups-count.ensures.value c.requires.whole c.requires.packed
    c.requires.row

pub returns-clause-states : goal.returns-clause-states
returns-clause-states c = λ group below.
    let ms : List ℕ = c.args.marks.now in
    let n : ℕ = c.row_groups-count.result in
    let at : ℕ = c.args.row * n in
    let lt : group < at + n - at = omega (arith, below, c.row_groups-count.ensures.value) in
    let read : get_or (take (at + n - at) (drop at ms)) group 0 ≡ get_or ms (at + group) 0 =
    get_or-take (at + n - at) (drop at ms) group 0 lt ∙ get_or-drop at ms group 0 in
    let small : get_or ms (at + group) 0 < 65536 = omega (arith, c.type_inv.marks (at + group)) in
    state_is _ _ (group_few c.args.format.now ms c.args.octets.now c.args.row group)
    (subst (λ (m : ℕ). m < 65536) (sym read) small)
    (row_marks c.args.format.now ms c.args.octets.now c.args.row n
    c.row_groups-count.ensures.value c.requires.whole c.requires.packed c.requires.row group below)
