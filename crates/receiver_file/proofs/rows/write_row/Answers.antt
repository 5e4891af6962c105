use Rattle.std.proofs.Common.{ℕ, ◌*◌, sym}
use Rattle.std.proofs.Math.Nat.{mul_comm}
use Rattle.st_format.specs.Position.{row_groups}
use Rattle.std.proofs.Common.{◌≡◌, ◌∙◌, ap}
use Rattle.st_format.specs.declared.format.Format.{Format}
use Rattle.media_file.specs.Groups.{groups_text}
use Rattle.receiver_file.specs.Known.{row_cut, shape_in}
use Rattle.receiver_file.specs.Marked.{marked_text}
use Rattle.receiver_file.proofs.MarkedRows.{row_is}
use Rattle.receiver_file.proofs.rows.write_row.Goals as goal

pub returns-clause-ok : goal.returns-clause-ok
returns-clause-ok g c =
    let r = c.args.frame.now in
    let size : c.pgroup.result.octets ≡ (shape_in r.format).octets =
    c.pgroup.ensures.octets
    ∙ ap (λ (f : Format). (shape_in f).octets) c.format.ensures.format in
    let e : marked_text c.pgroup.result.octets c.marks-marks.result.now
    c.packed_row-octets.result.now ≡ groups_text (shape_in r.format) (row_cut r c.args.row) =
    row_is r c.args.row c.pgroup.result.octets c.marks-marks.result.now
    c.packed_row-octets.result.now c.format.ensures.whole c.requires.row size
    c.marks-marks.ensures.long c.packed_row-octets.ensures.long c.marks-marks.ensures.states
    c.are_octets.ensures.all c.packed_row-octets.ensures.spelled in
    rw (← e) c.write_marked.ensures.ok

pub returns-clause-fault : goal.returns-clause-fault
returns-clause-fault g c =
    let r = c.args.frame.now in
    let size : c.pgroup.result.octets ≡ (shape_in r.format).octets =
    c.pgroup.ensures.octets
    ∙ ap (λ (f : Format). (shape_in f).octets) c.format.ensures.format in
    let e : marked_text c.pgroup.result.octets c.marks-marks.result.now
    c.packed_row-octets.result.now ≡ groups_text (shape_in r.format) (row_cut r c.args.row) =
    row_is r c.args.row c.pgroup.result.octets c.marks-marks.result.now
    c.packed_row-octets.result.now c.format.ensures.whole c.requires.row size
    c.marks-marks.ensures.long c.packed_row-octets.ensures.long c.marks-marks.ensures.states
    c.are_octets.ensures.all c.packed_row-octets.ensures.spelled in
    rw (← e) c.write_marked.ensures.fault

pub marks-marks-requires : goal.marks-marks-requires
marks-marks-requires g c = c.requires.row

pub packed_row-octets-requires : goal.packed_row-octets-requires
packed_row-octets-requires g c = c.requires.row

pub write_marked-requires-clause-few : goal.write_marked-requires-clause-few
write_marked-requires-clause-few g c = c.pgroup.ensures.most.0

pub write_marked-requires-clause-octets : goal.write_marked-requires-clause-octets
write_marked-requires-clause-octets g c =
    let f : Format = c.args.frame.now.format in
    let size : c.pgroup.result.octets ≡ (shape_in f).octets =
    c.pgroup.ensures.octets
    ∙ ap (λ (f : Format). (shape_in f).octets) c.format.ensures.format in
    c.packed_row-octets.ensures.long
    ∙ mul_comm (row_groups f) (shape_in f).octets
    ∙ ap (λ (n : ℕ). n * row_groups f) (sym size)
    ∙ ap (λ (n : ℕ). c.pgroup.result.octets * n) (sym c.marks-marks.ensures.long)

pub write_marked-requires-clause-room : goal.write_marked-requires-clause-room
write_marked-requires-clause-room g c = c.requires.room

pub returns-clause-counted : goal.returns-clause-counted
returns-clause-counted g c = c.write_marked.ensures.counted

pub returns-clause-took : goal.returns-clause-took
returns-clause-took g c =
    let r = c.args.frame.now in
    let size : c.pgroup.result.octets ≡ (shape_in r.format).octets =
    c.pgroup.ensures.octets
    ∙ ap (λ (f : Format). (shape_in f).octets) c.format.ensures.format in
    let e : marked_text c.pgroup.result.octets c.marks-marks.result.now
    c.packed_row-octets.result.now ≡ groups_text (shape_in r.format) (row_cut r c.args.row) =
    row_is r c.args.row c.pgroup.result.octets c.marks-marks.result.now
    c.packed_row-octets.result.now c.format.ensures.whole c.requires.row size
    c.marks-marks.ensures.long c.packed_row-octets.ensures.long c.marks-marks.ensures.states
    c.are_octets.ensures.all c.packed_row-octets.ensures.spelled in
    rw (← e) c.write_marked.ensures.took

pub returns-clause-took_part : goal.returns-clause-took_part
returns-clause-took_part g c =
    let r = c.args.frame.now in
    let size : c.pgroup.result.octets ≡ (shape_in r.format).octets =
    c.pgroup.ensures.octets
    ∙ ap (λ (f : Format). (shape_in f).octets) c.format.ensures.format in
    let e : marked_text c.pgroup.result.octets c.marks-marks.result.now
    c.packed_row-octets.result.now ≡ groups_text (shape_in r.format) (row_cut r c.args.row) =
    row_is r c.args.row c.pgroup.result.octets c.marks-marks.result.now
    c.packed_row-octets.result.now c.format.ensures.whole c.requires.row size
    c.marks-marks.ensures.long c.packed_row-octets.ensures.long c.marks-marks.ensures.states
    c.are_octets.ensures.all c.packed_row-octets.ensures.spelled in
    rw (← e) c.write_marked.ensures.took_part
