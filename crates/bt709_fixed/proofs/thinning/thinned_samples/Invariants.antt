use Rattle.std.proofs.Common.{◌≡◌, ℕ, ◌*◌, ◌-◌, ◌<◌, ◌≤◌, get_or, length}
use Rattle.bt709_fixed.specs.Thinned.{thinned_number}
use Rattle.bt709_fixed.proofs.thinning.thinned_samples.Given as goal

abbrev pub invariant-loop-done : goal.invariant-loop-done
invariant-loop-done g l = record {
  long : length l.samples.items ≡ 4 * l.done;
  within : l.done ≤ l.pairs;
  made : (k : ℕ) → k < 4 * l.done → get_or l.samples.items k 0 ≡ get_or l.full (thinned_number k) 0;
}

abbrev pub decreases-loop-done : goal.decreases-loop-done
decreases-loop-done g l = l.pairs - l.done
