use Rattle.std.proofs.Common.{◌≡◌, ◌-◌, ◌≤◌, length, bit_or, get_or}
use Rattle.lane_kernels.proofs.Stored.{Below, Kept}
use Rattle.lane_kernels.proofs.marks.or_marks.Given as goal

abbrev pub invariant-loop-into : goal.invariant-loop-into
invariant-loop-into l = record {
  long : length l.into ≡ length l.from;
  within : l.at ≤ length l.from;
  done : Below (λ k. bit_or (get_or l.initial.into k 0) (get_or l.from k 0)) l.at l.into;
  kept : Kept l.initial.into l.at l.into;
}

abbrev pub decreases-loop-into : goal.decreases-loop-into
decreases-loop-into l = length l.into - l.at

abbrev pub invariant-loop-i : goal.invariant-loop-i
invariant-loop-i l = record {
  long : length l.into ≡ length l.from;
  done : Below (λ k. bit_or (get_or l.fn.into k 0) (get_or l.from k 0)) l.i l.into;
  kept : Kept l.fn.into l.i l.into;
}
