use Rattle.std.proofs.Common.{◌≡◌, ℕ, ◌*◌, ◌<◌, get_or, length}
use Rattle.bt709_fixed.specs.Thinned.{thinned_number}
use Rattle.bt709_fixed.proofs.thinning.thin_samples.Given as goal

abbrev pub invariant-loop-pair : goal.invariant-loop-pair
invariant-loop-pair l = record {
  long : length l.out ≡ length l.fn.out;
  done : (k : ℕ) → k < 4 * l.pair → get_or l.out k 0 ≡ get_or l.full (thinned_number k) 0;
}
