use Rattle.std.proofs.Common.{ℕ, List, map, sym, subst, arith}
use Rattle.st_format.specs.Pgroup.{bits_of}
use Rattle.st_format.specs.Samples.{Spells}
use Rattle.st_format.specs.Cell.{known_value}
use Rattle.frame_assembly.specs.Rows.{group_cells}
use Rattle.frame_assembly.proofs.RowLemmas.{group_few, group_marks, group_spelled, octets_inside}
use Rattle.frame_assembly.proofs.RowLemmas.{raster_in}
use Rattle.frame_assembly.proofs.rows.group_of.Goals as goal

pub returns-clause-spelled : goal.returns-clause-spelled
returns-clause-spelled c =
    subst (λ (os : List ℕ). Spells (bits_of c.args.format.now.depth) os
    (map known_value
    (group_cells (raster_in c.args.format.now c.args.marks.now c.args.octets.now) c.args.row
    c.args.group))) (sym c.copy_from_slice.ensures.after)
    (group_spelled c.args.format.now c.args.marks.now c.args.octets.now c.args.row c.args.group
    c.pgroup-size.result.octets c.group_place-at.result c.pgroup-size.ensures.octets
    c.group_place-at.ensures.place
    c.requires.whole c.requires.packed c.requires.row c.requires.group)

pub returns-clause-state : goal.returns-clause-state
returns-clause-state c =
    c.of_mark.ensures.cells _
    (group_few c.args.format.now c.args.marks.now c.args.octets.now c.args.row c.args.group)
    (group_marks c.args.format.now c.args.marks.now c.args.octets.now c.args.row c.args.group
    c.group_place-at.result c.group_place-at.ensures.place c.requires.whole c.requires.packed
    c.requires.row c.requires.group)

pub overflow_mul-size : goal.overflow_mul-size
overflow_mul-size c =
    omega (
      arith,
      octets_inside c.args.format.now c.args.marks.now c.args.octets.now c.group_place-at.result 1
          c.pgroup-size.result.octets c.requires.packed
          (omega (arith, c.group_place-at.ensures.limit, c.requires.whole))
          c.pgroup-size.ensures.octets,
    )

pub overflow_add-at : goal.overflow_add-at
overflow_add-at c = omega arith

pub overflow_mul-size-2 : goal.overflow_mul-size-2
overflow_mul-size-2 c =
    omega (
      arith,
      octets_inside c.args.format.now c.args.marks.now c.args.octets.now c.group_place-at.result 1
          c.pgroup-size.result.octets c.requires.packed
          (omega (arith, c.group_place-at.ensures.limit, c.requires.whole))
          c.pgroup-size.ensures.octets,
    )

pub slice_bounds-copy_from_slice-count : goal.slice_bounds-copy_from_slice-count
slice_bounds-copy_from_slice-count c = omega arith

pub slice_bounds-copy_from_slice-start : goal.slice_bounds-copy_from_slice-start
slice_bounds-copy_from_slice-start c = omega arith

pub slice_bounds-copy_from_slice-end : goal.slice_bounds-copy_from_slice-end
slice_bounds-copy_from_slice-end c =
    omega (
      arith,
      octets_inside c.args.format.now c.args.marks.now c.args.octets.now c.group_place-at.result 1
          c.pgroup-size.result.octets c.requires.packed
          (omega (arith, c.group_place-at.ensures.limit, c.requires.whole))
          c.pgroup-size.ensures.octets,
    )

pub offset_bounds-marks-at : goal.offset_bounds-marks-at
offset_bounds-marks-at c = omega arith

pub bounds-marks-at : goal.bounds-marks-at
bounds-marks-at c =
    omega (arith, c.group_place-at.ensures.limit, c.requires.whole)
