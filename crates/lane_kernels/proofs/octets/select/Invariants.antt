use Rattle.std.proofs.Common.{◌≡◌, ◌-◌, ◌≤◌, length, bit_and, bit_xor, get_or}
use Rattle.lane_kernels.proofs.Stored.{Below}
use Rattle.lane_kernels.proofs.octets.select.Given as goal

abbrev pub invariant-loop-out : goal.invariant-loop-out
invariant-loop-out l = record {
  long : length l.out ≡ length l.a;
  within : l.at ≤ length l.a;
  done : Below
      (λ k. bit_xor (get_or l.b k 0)
      (bit_and (get_or l.mask k 0) (bit_xor (get_or l.a k 0) (get_or l.b k 0)))) l.at l.out;
}

abbrev pub decreases-loop-out : goal.decreases-loop-out
decreases-loop-out l = length l.out - l.at

abbrev pub invariant-loop-i : goal.invariant-loop-i
invariant-loop-i l = record {
  long : length l.out ≡ length l.a;
  done : Below
      (λ k. bit_xor (get_or l.b k 0)
      (bit_and (get_or l.mask k 0) (bit_xor (get_or l.a k 0) (get_or l.b k 0)))) l.i l.out;
}
