use Rattle.std.proofs.Common.{◌+◌, length, refl, arith}
use Rattle.frame_assembly.proofs.PackedLemmas.{sizes}
use Rattle.frame_assembly.proofs.Runs.{are_alike, end_below, none_joined_to, part_between}
use Rattle.frame_assembly.proofs.Runs.{one_joined}
use Rattle.frame_assembly.proofs.Runs.{one_packed, one_left, joined_all}
use Rattle.frame_assembly.proofs.groups.join_groups.Goals as goal

pub loop-i-init : goal.loop-i-init
loop-i-init c =
    none_joined_to _ _ _ _ _ _ _ (sizes c.args.format.now.sampling c.args.format.now.depth)

pub join_group-requires-clause-packed : goal.join_group-requires-clause-packed
join_group-requires-clause-packed c =
    one_left _ _ _ c.loop-i.i _ _ c.args.marks.now c.args.octets.now c.args.other_marks.now
    c.args.others.now c.loop-i.marks c.loop-i.octets
    (part_between _ _ c.loop-i.i 1 (c.loop-i.i + 1) c.pgroup-size.ensures.octets refl)
    (are_alike c.args.format.now.sampling c.args.format.now.depth _ _ _ _ c.requires.packed
    c.requires.other c.requires.alike)
    (omega arith) c.loop-i.invariant

pub join_group-requires-clause-other : goal.join_group-requires-clause-other
join_group-requires-clause-other c =
    one_packed _ _ _ c.loop-i.i _ _ c.args.other_marks.now c.args.others.now
    (part_between _ _ c.loop-i.i 1 (c.loop-i.i + 1) c.pgroup-size.ensures.octets refl)
    (sizes c.args.format.now.sampling c.args.format.now.depth)
    (omega (arith, c.requires.alike)) c.requires.other

pub loop-i-preserved : goal.loop-i-preserved
loop-i-preserved c =
    one_joined _ _ _ c.loop-i.i _ _ c.args.marks.now c.args.octets.now c.args.other_marks.now
    c.args.others.now c.loop-i.marks c.loop-i.octets
    c.join_group.result c.join_group.new.octets
    (part_between _ _ c.loop-i.i 1 (c.loop-i.i + 1) c.pgroup-size.ensures.octets refl)
    (are_alike c.args.format.now.sampling c.args.format.now.depth _ _ _ _ c.requires.packed
    c.requires.other c.requires.alike)
    (omega arith) c.loop-i.invariant c.join_group.ensures

pub returns : goal.returns
returns c =
    joined_all _ _ _ c.loop-i.i _ _ _ _ _ _
    (are_alike c.args.format.now.sampling c.args.format.now.depth _ _ _ _ c.requires.packed
    c.requires.other c.requires.alike)
    (omega (arith, c.loop-i.invariant.marks_long)) c.loop-i.invariant

pub overflow_mul-start : goal.overflow_mul-start
overflow_mul-start c =
    omega (
      arith,
      end_below _ _ c.loop-i.i (length c.args.marks.now) (length c.args.octets.now)
          c.pgroup-size.ensures.octets (omega arith)
          c.requires.packed.long,
    )

pub overflow_add-end : goal.overflow_add-end
overflow_add-end c = omega arith

pub overflow_mul-end : goal.overflow_mul-end
overflow_mul-end c =
    omega (
      arith,
      end_below _ _ (c.loop-i.i + 1) (length c.args.marks.now) (length c.args.octets.now)
          c.pgroup-size.ensures.octets (omega arith)
          c.requires.packed.long,
    )

pub offset_bounds-marks-i : goal.offset_bounds-marks-i
offset_bounds-marks-i c = omega arith

pub bounds-marks-i : goal.bounds-marks-i
bounds-marks-i c = omega arith

pub slice_bounds-join_group-count : goal.slice_bounds-join_group-count
slice_bounds-join_group-count c = omega arith

pub slice_bounds-join_group-start : goal.slice_bounds-join_group-start
slice_bounds-join_group-start c = omega arith

pub slice_bounds-join_group-end : goal.slice_bounds-join_group-end
slice_bounds-join_group-end c =
    omega (
      arith,
      end_below _ _ (c.loop-i.i + 1) (length c.args.marks.now) (length c.args.octets.now)
          c.pgroup-size.ensures.octets (omega arith)
          c.requires.packed.long,
    )

pub offset_bounds-other_marks-i : goal.offset_bounds-other_marks-i
offset_bounds-other_marks-i c = omega arith

pub bounds-other_marks-i : goal.bounds-other_marks-i
bounds-other_marks-i c = omega arith

pub slice_bounds-join_group-count-in-loop-i : goal.slice_bounds-join_group-count-in-loop-i
slice_bounds-join_group-count-in-loop-i c = omega arith

pub slice_bounds-join_group-start-in-loop-i : goal.slice_bounds-join_group-start-in-loop-i
slice_bounds-join_group-start-in-loop-i c = omega arith

pub slice_bounds-join_group-end-in-loop-i : goal.slice_bounds-join_group-end-in-loop-i
slice_bounds-join_group-end-in-loop-i c =
    omega (
      arith,
      end_below _ _ (c.loop-i.i + 1) (length c.args.other_marks.now) (length c.args.others.now)
          c.pgroup-size.ensures.octets
          (omega (arith, c.requires.alike)) c.requires.other.long,
    )

pub offset_bounds-marks-i-in-loop-i : goal.offset_bounds-marks-i-in-loop-i
offset_bounds-marks-i-in-loop-i c = omega arith

pub bounds-marks-i-in-loop-i : goal.bounds-marks-i-in-loop-i
bounds-marks-i-in-loop-i c = omega arith
