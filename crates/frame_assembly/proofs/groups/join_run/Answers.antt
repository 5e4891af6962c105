use Rattle.std.proofs.Common.{ℕ, ◌+◌, ◌-◌, ◌*◌, ◌/◌, length, refl, arith}
use Rattle.frame_assembly.proofs.PackedLemmas.{sizes}
use Rattle.frame_assembly.proofs.Runs.{are_alike, end_below, none_joined_to, part_between}
use Rattle.frame_assembly.proofs.Runs.{part_behind}
use Rattle.frame_assembly.proofs.Runs.{part_packed, left_packed, left_long, part_joined, joined_all}
use Rattle.frame_assembly.proofs.groups.join_run.Goals as goal

pub loop-i-init : goal.loop-i-init
loop-i-init c =
    none_joined_to _ _ _ _ _ _ _ (sizes c.args.format.now.sampling c.args.format.now.depth)

pub join_span-requires-clause-packed : goal.join_span-requires-clause-packed
join_span-requires-clause-packed c =
    left_packed _ _ _
    (128 * c.loop-i.i) 128 _ _ _ _ c.args.marks.now c.args.octets.now c.args.other_marks.now
    c.args.others.now c.loop-i.marks c.loop-i.octets
    (part_between _ _ (128 * c.loop-i.i) 128 (128 * (c.loop-i.i + 1)) c.pgroup-size.ensures.octets
    (omega arith))
    (are_alike c.args.format.now.sampling c.args.format.now.depth _ _ _ _ c.requires.packed
    c.requires.other c.requires.alike)
    (omega arith) c.loop-i.invariant

pub join_span-requires-clause-other : goal.join_span-requires-clause-other
join_span-requires-clause-other c =
    part_packed _ _ _ (128 * c.loop-i.i) 128 _ _ _ _ c.args.other_marks.now c.args.others.now
    (part_between _ _ (128 * c.loop-i.i) 128 (128 * (c.loop-i.i + 1)) c.pgroup-size.ensures.octets
    (omega arith))
    (sizes c.args.format.now.sampling c.args.format.now.depth) (omega arith) c.requires.other

pub loop-i-preserved : goal.loop-i-preserved
loop-i-preserved c =
    part_joined _ _ _ (128 * c.loop-i.i) 128
    (128 *
    (c.loop-i.i + 1)) _ _ _ _ _ _ _ _ c.args.marks.now c.args.octets.now c.args.other_marks.now
    c.args.others.now c.loop-i.marks c.loop-i.octets
    c.join_span.new.marks c.join_span.new.octets
    (part_between _ _ (128 * c.loop-i.i) 128 (128 * (c.loop-i.i + 1)) c.pgroup-size.ensures.octets
    (omega arith))
    (part_between _ _ (128 * c.loop-i.i) 128 (128 * (c.loop-i.i + 1)) c.pgroup-size.ensures.octets
    (omega arith))
    (are_alike c.args.format.now.sampling c.args.format.now.depth _ _ _ _ c.requires.packed
    c.requires.other c.requires.alike)
    (omega arith) (omega arith) c.loop-i.invariant c.join_span.ensures

pub join_span-requires-2-clause-packed : goal.join_span-requires-2-clause-packed
join_span-requires-2-clause-packed c =
    let are =
    are_alike c.args.format.now.sampling c.args.format.now.depth _ _ _ _ c.requires.packed
    c.requires.other c.requires.alike in
    let rest : ℕ = length c.args.marks.now - 128 * (length c.args.marks.now / 128) in
    left_packed _ _ _
    (128 * c.loop-i.i) rest _ _ _ _ c.args.marks.now c.args.octets.now c.args.other_marks.now
    c.args.others.now c.loop-i.marks c.loop-i.octets
    (part_behind _ _ (128 * c.loop-i.i) (128 * (length c.args.marks.now / 128)) rest
    (length c.loop-i.marks) (length c.loop-i.octets) c.pgroup-size.ensures.octets (omega arith)
    (omega (arith, c.loop-i.invariant.marks_long))
    (left_long _ _ _ _ _ _ _ _ _ _ are c.loop-i.invariant))
    are (omega arith) c.loop-i.invariant

pub join_span-requires-2-clause-other : goal.join_span-requires-2-clause-other
join_span-requires-2-clause-other c =
    let rest : ℕ = length c.args.marks.now - 128 * (length c.args.marks.now / 128) in
    part_packed _ _ _ (128 * c.loop-i.i) rest _ _ _ _ c.args.other_marks.now c.args.others.now
    (part_behind _ _ (128 * c.loop-i.i) (128 * (length c.args.marks.now / 128)) rest
    (length c.args.other_marks.now) (length c.args.others.now) c.pgroup-size.ensures.octets
    (omega arith)
    (omega (arith, c.requires.alike)) c.requires.other.long)
    (sizes c.args.format.now.sampling c.args.format.now.depth)
    (omega (arith, c.requires.alike)) c.requires.other

pub returns : goal.returns
returns c =
    let are =
    are_alike c.args.format.now.sampling c.args.format.now.depth _ _ _ _ c.requires.packed
    c.requires.other c.requires.alike in
    let rest : ℕ = length c.args.marks.now - 128 * (length c.args.marks.now / 128) in
    joined_all _ _ _ (length c.args.marks.now) _ _ _ _ _ _ are refl
    (part_joined _ _ _ (128 * c.loop-i.i) rest
    (length c.args.marks.now) _ _ _ _ _ _ _ _ c.args.marks.now c.args.octets.now
    c.args.other_marks.now c.args.others.now c.loop-i.marks c.loop-i.octets
    c.join_span-2.new.marks c.join_span-2.new.octets
    (part_behind _ _ (128 * c.loop-i.i) (128 * (length c.args.marks.now / 128)) rest
    (length c.loop-i.marks) (length c.loop-i.octets) c.pgroup-size.ensures.octets (omega arith)
    (omega (arith, c.loop-i.invariant.marks_long))
    (left_long _ _ _ _ _ _ _ _ _ _ are c.loop-i.invariant))
    (part_behind _ _ (128 * c.loop-i.i) (128 * (length c.args.marks.now / 128)) rest
    (length c.args.other_marks.now) (length c.args.others.now) c.pgroup-size.ensures.octets
    (omega arith)
    (omega (arith, c.requires.alike)) c.requires.other.long)
    are (omega arith) (omega arith) c.loop-i.invariant c.join_span-2.ensures)

pub overflow_mul-from : goal.overflow_mul-from
overflow_mul-from c = omega arith

pub overflow_add-to : goal.overflow_add-to
overflow_add-to c = omega arith

pub overflow_mul-to : goal.overflow_mul-to
overflow_mul-to c = omega arith

pub overflow_mul-start : goal.overflow_mul-start
overflow_mul-start c =
    omega (
      arith,
      end_below _ _ (128 * c.loop-i.i) (length c.args.marks.now) (length c.args.octets.now)
          c.pgroup-size.ensures.octets (omega arith)
          c.requires.packed.long,
    )

pub overflow_mul-end : goal.overflow_mul-end
overflow_mul-end c =
    omega (
      arith,
      end_below _ _ (128 * (c.loop-i.i + 1)) (length c.args.marks.now) (length c.args.octets.now)
          c.pgroup-size.ensures.octets (omega arith)
          c.requires.packed.long,
    )

pub offset_bounds-marks-from : goal.offset_bounds-marks-from
offset_bounds-marks-from c = omega arith

pub slice_bounds-join_span-count : goal.slice_bounds-join_span-count
slice_bounds-join_span-count c = omega arith

pub slice_bounds-join_span-start : goal.slice_bounds-join_span-start
slice_bounds-join_span-start c = omega arith

pub slice_bounds-join_span-end : goal.slice_bounds-join_span-end
slice_bounds-join_span-end c = omega arith

pub slice_bounds-join_span-count-in-loop-i : goal.slice_bounds-join_span-count-in-loop-i
slice_bounds-join_span-count-in-loop-i c = omega arith

pub slice_bounds-join_span-start-in-loop-i : goal.slice_bounds-join_span-start-in-loop-i
slice_bounds-join_span-start-in-loop-i c = omega arith

pub slice_bounds-join_span-end-in-loop-i : goal.slice_bounds-join_span-end-in-loop-i
slice_bounds-join_span-end-in-loop-i c =
    omega (
      arith,
      end_below _ _ (128 * (c.loop-i.i + 1)) (length c.args.marks.now) (length c.args.octets.now)
          c.pgroup-size.ensures.octets (omega arith)
          c.requires.packed.long,
    )

pub offset_bounds-other_marks-from : goal.offset_bounds-other_marks-from
offset_bounds-other_marks-from c = omega arith

pub slice_bounds-join_span-count-in-loop-i-2 : goal.slice_bounds-join_span-count-in-loop-i-2
slice_bounds-join_span-count-in-loop-i-2 c = omega arith

pub slice_bounds-join_span-start-in-loop-i-2 : goal.slice_bounds-join_span-start-in-loop-i-2
slice_bounds-join_span-start-in-loop-i-2 c = omega arith

pub slice_bounds-join_span-end-in-loop-i-2 : goal.slice_bounds-join_span-end-in-loop-i-2
slice_bounds-join_span-end-in-loop-i-2 c = omega arith

pub slice_bounds-join_span-count-in-loop-i-3 : goal.slice_bounds-join_span-count-in-loop-i-3
slice_bounds-join_span-count-in-loop-i-3 c = omega arith

pub slice_bounds-join_span-start-in-loop-i-3 : goal.slice_bounds-join_span-start-in-loop-i-3
slice_bounds-join_span-start-in-loop-i-3 c = omega arith

pub slice_bounds-join_span-end-in-loop-i-3 : goal.slice_bounds-join_span-end-in-loop-i-3
slice_bounds-join_span-end-in-loop-i-3 c =
    omega (
      arith,
      end_below _ _ (128 * (c.loop-i.i + 1)) (length c.args.other_marks.now)
          (length c.args.others.now) c.pgroup-size.ensures.octets
          (omega (arith, c.requires.alike)) c.requires.other.long,
    )

pub overflow_mul-from-2 : goal.overflow_mul-from-2
overflow_mul-from-2 c = omega arith

pub overflow_mul-start-2 : goal.overflow_mul-start-2
overflow_mul-start-2 c =
    omega (
      arith,
      end_below _ _ (128 * (length c.args.marks.now / 128)) (length c.args.marks.now)
          (length c.args.octets.now) c.pgroup-size.ensures.octets (omega arith)
          c.requires.packed.long,
    )

pub offset_bounds-marks-from-2 : goal.offset_bounds-marks-from-2
offset_bounds-marks-from-2 c = omega arith

pub slice_bounds-join_span-count-2 : goal.slice_bounds-join_span-count-2
slice_bounds-join_span-count-2 c = omega arith

pub slice_bounds-join_span-start-2 : goal.slice_bounds-join_span-start-2
slice_bounds-join_span-start-2 c = omega arith

pub slice_bounds-join_span-end-2 : goal.slice_bounds-join_span-end-2
slice_bounds-join_span-end-2 c = omega arith

pub slice_bounds-join_span-count-3 : goal.slice_bounds-join_span-count-3
slice_bounds-join_span-count-3 c =
    omega (
      arith,
      end_below _ _ (128 * (length c.args.marks.now / 128)) (length c.args.marks.now)
          (length c.args.octets.now) c.pgroup-size.ensures.octets (omega arith)
          c.requires.packed.long,
    )

pub slice_bounds-join_span-start-3 : goal.slice_bounds-join_span-start-3
slice_bounds-join_span-start-3 c =
    omega (
      arith,
      end_below _ _ (128 * (length c.args.marks.now / 128)) (length c.args.marks.now)
          (length c.args.octets.now) c.pgroup-size.ensures.octets (omega arith)
          c.requires.packed.long,
    )

pub slice_bounds-join_span-end-3 : goal.slice_bounds-join_span-end-3
slice_bounds-join_span-end-3 c = omega arith

pub offset_bounds-other_marks-from-2 : goal.offset_bounds-other_marks-from-2
offset_bounds-other_marks-from-2 c = omega arith

pub slice_bounds-join_span-count-4 : goal.slice_bounds-join_span-count-4
slice_bounds-join_span-count-4 c = omega arith

pub slice_bounds-join_span-start-4 : goal.slice_bounds-join_span-start-4
slice_bounds-join_span-start-4 c = omega arith

pub slice_bounds-join_span-end-4 : goal.slice_bounds-join_span-end-4
slice_bounds-join_span-end-4 c = omega arith

pub slice_bounds-join_span-count-5 : goal.slice_bounds-join_span-count-5
slice_bounds-join_span-count-5 c =
    omega (
      arith,
      end_below _ _ (128 * (length c.args.marks.now / 128)) (length c.args.other_marks.now)
          (length c.args.others.now) c.pgroup-size.ensures.octets
          (omega (arith, c.requires.alike)) c.requires.other.long,
    )

pub slice_bounds-join_span-start-5 : goal.slice_bounds-join_span-start-5
slice_bounds-join_span-start-5 c =
    omega (
      arith,
      end_below _ _ (128 * (length c.args.marks.now / 128)) (length c.args.other_marks.now)
          (length c.args.others.now) c.pgroup-size.ensures.octets
          (omega (arith, c.requires.alike)) c.requires.other.long,
    )

pub slice_bounds-join_span-end-5 : goal.slice_bounds-join_span-end-5
slice_bounds-join_span-end-5 c = omega arith
