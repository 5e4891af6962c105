use Rattle.std.proofs.Common.{◌≡◌, ◌-◌, ◌%◌, ◌≤◌, length}
use Rattle.lane_kernels.specs.Pixels.{ycc_at}
use Rattle.lane_kernels.proofs.Stored.{Below}
use Rattle.lane_kernels.proofs.pixels.ycc709.Given as goal

abbrev pub invariant-loop-out : goal.invariant-loop-out
invariant-loop-out l = record {
  long : length l.out ≡ length l.rgb;
  within : l.at ≤ length l.rgb;
  pixels : l.at % 3 ≡ 0;
  done : Below (λ k. ycc_at l.bits l.rgb k) l.at l.out;
}

abbrev pub decreases-loop-out : goal.decreases-loop-out
decreases-loop-out l = length l.out - l.at
