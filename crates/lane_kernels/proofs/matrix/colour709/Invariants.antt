use Rattle.std.proofs.Common.{◌≡◌, ◌-◌, ◌≤◌, length, get_or}
use Rattle.lane_kernels.specs.Differences.{difference}
use Rattle.lane_kernels.specs.Formulas.{video_data}
use Rattle.lane_kernels.proofs.Stored.{Below}
use Rattle.lane_kernels.proofs.matrix.colour709.Given as goal

abbrev pub invariant-loop-out : goal.invariant-loop-out
invariant-loop-out l = record {
  long : length l.out ≡ length l.main;
  within : l.at ≤ length l.main;
  done : Below
      (λ k. video_data l.bits
      (difference l.colour l.bits (get_or l.main k 0) (get_or l.first k 0) (get_or l.second k 0)))
      l.at l.out;
}

abbrev pub decreases-loop-out : goal.decreases-loop-out
decreases-loop-out l = length l.out - l.at

abbrev pub invariant-loop-i : goal.invariant-loop-i
invariant-loop-i l = record {
  long : length l.out ≡ length l.main;
  done : Below
      (λ k. video_data l.bits
      (difference l.colour l.bits (get_or l.main k 0) (get_or l.first k 0) (get_or l.second k 0)))
      l.i l.out;
}
