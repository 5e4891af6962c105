use Rattle.std.proofs.Common.{◌≡◌, ◌-◌, ◌%◌, ◌≤◌, length, min, max, get_or}
use Rattle.lane_kernels.proofs.Stored.{Below, Kept}
use Rattle.lane_kernels.proofs.range.clip_below.Given as goal

abbrev pub invariant-loop-values : goal.invariant-loop-values
invariant-loop-values l = record {
  long : length l.values ≡ length l.initial.values;
  within : l.at ≤ length l.initial.values;
  turns : l.at % 24 ≡ 0;
  done : Below
      (λ k. min (get_or l.highs (k % 24) 0) (max l.low (get_or l.initial.values k 0)))
      l.at l.values;
  kept : Kept l.initial.values l.at l.values;
}

abbrev pub decreases-loop-values : goal.decreases-loop-values
decreases-loop-values l = length l.values - l.at

abbrev pub invariant-loop-i : goal.invariant-loop-i
invariant-loop-i l = record {
  long : length l.values ≡ length l.fn.values;
  done : Below
      (λ k. min (get_or l.highs (k % 24) 0) (max l.low (get_or l.fn.values k 0))) l.i l.values;
  kept : Kept l.fn.values l.i l.values;
}
