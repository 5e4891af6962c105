use Rattle.std.proofs.Common.{◌≡◌, ℕ, ◌-◌, ◌%◌, ◌<◌, ◌≤◌, get_or, length}
use Rattle.st_format.specs.Pgroup.{bits_of}
use Rattle.bt709_fixed.specs.Operations.{matrixed_at}
use Rattle.bt709_fixed.proofs.matrix.matrixed_samples.Given as goal

abbrev pub invariant-loop-done : goal.invariant-loop-done
invariant-loop-done g l = record {
  long : length l.samples.items ≡ l.done;
  within : l.done ≤ length l.rgb;
  pixels : l.done % 3 ≡ 0;
  made : (k : ℕ) → k < l.done → get_or l.samples.items k 0 ≡ matrixed_at (bits_of l.fn.depth) l.rgb k;
}

abbrev pub decreases-loop-done : goal.decreases-loop-done
decreases-loop-done g l = length l.rgb - l.done
