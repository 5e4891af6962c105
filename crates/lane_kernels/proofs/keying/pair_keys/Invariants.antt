use Rattle.std.proofs.Common.{◌≡◌, ◌-◌, ◌%◌, ◌≤◌, length, get_or, min}
use Rattle.lane_kernels.specs.Pixels.{pair_luma}
use Rattle.lane_kernels.proofs.Stored.{Below}
use Rattle.lane_kernels.proofs.keying.pair_keys.Given as goal

abbrev pub invariant-loop-keys : goal.invariant-loop-keys
invariant-loop-keys l = record {
  long : length l.keys ≡ length l.initial.keys;
  within : l.at ≤ length l.initial.keys;
  pairs : l.at % 4 ≡ 0;
  done : Below (λ j. min l.most (get_or l.row (pair_luma j) 0 - l.low)) l.at l.keys;
}

abbrev pub decreases-loop-keys : goal.decreases-loop-keys
decreases-loop-keys l = length l.keys - l.at

abbrev pub invariant-loop-j : goal.invariant-loop-j
invariant-loop-j l = record {
  long : length l.keys ≡ length l.fn.keys;
  done : Below (λ j. min l.most (get_or l.row (pair_luma j) 0 - l.low)) l.j l.keys;
}
