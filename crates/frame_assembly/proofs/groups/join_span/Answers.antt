use Rattle.std.proofs.Common.{ℕ, ◌-◌, ◌≤◌, length, refl, sym, ap, take, arith}
use Rattle.frame_assembly.proofs.PackedLemmas.{sizes}
use Rattle.frame_assembly.proofs.GroupJoins.{copy_joined, same_joined}
use Rattle.frame_assembly.proofs.FrontJoins.{first_joined, first_packed, rest_same}
use Rattle.frame_assembly.proofs.Runs.{are_alike, joined_all, left_long, left_packed, part_behind}
use Rattle.frame_assembly.proofs.Runs.{part_joined, part_packed}
use Rattle.frame_assembly.proofs.groups.join_span.Goals as goal

pub returns-then-same_octets : goal.returns-then-same_octets
returns-then-same_octets c =
    same_joined _ _ _ c.args.marks.now c.args.octets.now c.args.other_marks.now c.args.others.now
    c.requires.packed (c.if-has_marks.ensures.0 refl) (c.if-same_octets.ensures.0 refl)

pub returns-then-are_missing : goal.returns-then-are_missing
returns-then-are_missing c =
    copy_joined _ _ _ _ _ _ _ _ _
    (sizes c.args.format.now.sampling c.args.format.now.depth) c.requires.packed
    c.requires.other c.requires.alike
    (c.if-are_missing.ensures refl) c.copy_from_slice.ensures.after
    c.copy_from_slice-then-are_missing.ensures.after

pub join_block-requires-clause-packed : goal.join_block-requires-clause-packed
join_block-requires-clause-packed c =
    first_packed _ _ c.pgroup.result.octets _ c.min-middle.result c.args.marks.now
    c.args.octets.now c.pgroup.ensures.octets
    (sizes c.args.format.now.sampling c.args.format.now.depth) (omega arith) c.requires.packed

pub join_block-requires-clause-other : goal.join_block-requires-clause-other
join_block-requires-clause-other c =
    first_packed _ _ c.pgroup.result.octets _ c.min-middle.result c.args.other_marks.now
    c.args.others.now c.pgroup.ensures.octets
    (sizes c.args.format.now.sampling c.args.format.now.depth)
    (omega (arith, c.requires.alike)) c.requires.other

pub join_block-requires-clause-marks : goal.join_block-requires-clause-marks
join_block-requires-clause-marks c = λ same.
    ap (take c.min-middle.result) (sym (c.same_words-has_marks.ensures.0 same))

pub join_block-requires-2-clause-packed : goal.join_block-requires-2-clause-packed
join_block-requires-2-clause-packed c =
    let are =
    are_alike c.args.format.now.sampling c.args.format.now.depth _ _ _ _ c.requires.packed
    c.requires.other c.requires.alike in
    let le : c.min-middle.result ≤ length c.args.marks.now = omega arith in
    let so_far =
    first_joined _ _ c.pgroup.result.octets _ c.min-middle.result c.args.marks.now
    c.args.octets.now c.args.other_marks.now c.args.others.now c.join_block.new.marks
    c.join_block.new.octets c.pgroup.ensures.octets are le c.join_block.ensures in
    let rest : ℕ = length c.args.marks.now - c.min-middle.result in
    left_packed _ _ _
    c.min-middle.result rest _ _ _ _ c.args.marks.now c.args.octets.now c.args.other_marks.now
    c.args.others.now _ _
    (part_behind _ _ c.min-middle.result c.min-middle.result rest
    _ _ c.pgroup.ensures.octets refl
    (omega (arith, so_far.marks_long))
    (left_long _ _ _ _ _ _ _ _ _ _ are so_far))
    are (omega arith) so_far

pub join_block-requires-2-clause-other : goal.join_block-requires-2-clause-other
join_block-requires-2-clause-other c =
    let rest : ℕ = length c.args.marks.now - c.min-middle.result in
    part_packed _ _ _ c.min-middle.result rest _ _ _ _ c.args.other_marks.now c.args.others.now
    (part_behind _ _ c.min-middle.result c.min-middle.result rest
    (length c.args.other_marks.now) (length c.args.others.now) c.pgroup.ensures.octets
    refl (omega (arith, c.requires.alike)) c.requires.other.long)
    (sizes c.args.format.now.sampling c.args.format.now.depth)
    (omega (arith, c.requires.alike)) c.requires.other

pub join_block-requires-2-clause-marks : goal.join_block-requires-2-clause-marks
join_block-requires-2-clause-marks c = λ same.
    let are =
    are_alike c.args.format.now.sampling c.args.format.now.depth _ _ _ _ c.requires.packed
    c.requires.other c.requires.alike in
    let le : c.min-middle.result ≤ length c.args.marks.now = omega arith in
    let so_far =
    first_joined _ _ c.pgroup.result.octets _ c.min-middle.result c.args.marks.now
    c.args.octets.now c.args.other_marks.now c.args.others.now c.join_block.new.marks
    c.join_block.new.octets c.pgroup.ensures.octets are le c.join_block.ensures in
    rest_same c.min-middle.result c.args.marks.now c.args.other_marks.now _
    (c.same_words-has_marks.ensures.0 same) so_far.marks_long so_far.marks_left

pub returns : goal.returns
returns c =
    let are =
    are_alike c.args.format.now.sampling c.args.format.now.depth _ _ _ _ c.requires.packed
    c.requires.other c.requires.alike in
    let le : c.min-middle.result ≤ length c.args.marks.now = omega arith in
    let so_far =
    first_joined _ _ c.pgroup.result.octets _ c.min-middle.result c.args.marks.now
    c.args.octets.now c.args.other_marks.now c.args.others.now c.join_block.new.marks
    c.join_block.new.octets c.pgroup.ensures.octets are le c.join_block.ensures in
    let rest : ℕ = length c.args.marks.now - c.min-middle.result in
    joined_all _ _ _ (length c.args.marks.now) _ _ _ _ _ _ are refl
    (part_joined _ _ _ c.min-middle.result rest
    (length c.args.marks.now) _ _ _ _ _ _ _ _ c.args.marks.now c.args.octets.now
    c.args.other_marks.now c.args.others.now _ _
    c.join_block-2.new.marks c.join_block-2.new.octets
    (part_behind _ _ c.min-middle.result c.min-middle.result rest
    _ _ c.pgroup.ensures.octets refl
    (omega (arith, so_far.marks_long))
    (left_long _ _ _ _ _ _ _ _ _ _ are so_far))
    (part_behind _ _ c.min-middle.result c.min-middle.result rest
    (length c.args.other_marks.now) (length c.args.others.now) c.pgroup.ensures.octets
    refl (omega (arith, c.requires.alike)) c.requires.other.long)
    are (omega arith) (omega arith) so_far c.join_block-2.ensures)
