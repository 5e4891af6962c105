use Rattle.std.proofs.Common.{◌≡◌, ◌-◌, ◌*◌, ◌≤◌, length, take}
use Rattle.lane_kernels.specs.Marks.{ones_under}
use Rattle.lane_kernels.proofs.marks.count_marks.Given as goal

abbrev pub invariant-loop-at : goal.invariant-loop-at
invariant-loop-at l = record {
  within : l.at ≤ length l.marks;
  counted : l.total ≡ ones_under l.mask (take l.at l.marks);
  most : l.total ≤ 16 * l.at;
}

abbrev pub decreases-loop-at : goal.decreases-loop-at
decreases-loop-at l = length l.marks - l.at

abbrev pub invariant-loop-i : goal.invariant-loop-i
invariant-loop-i l = record {
  counted : l.total ≡ ones_under l.mask (take l.i l.marks);
  most : l.total ≤ 16 * l.i;
}
