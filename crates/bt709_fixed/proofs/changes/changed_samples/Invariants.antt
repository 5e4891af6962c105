use Rattle.std.proofs.Common.{◌≡◌, ℕ, ◌-◌, ◌%◌, ◌<◌, ◌≤◌, get_or, length}
use Rattle.st_format.specs.Pgroup.{bits_of}
use Rattle.bt709_fixed.specs.Operations.{changed_sample}
use Rattle.bt709_fixed.proofs.changes.changed_samples.Given as goal

abbrev pub invariant-loop-done : goal.invariant-loop-done
invariant-loop-done g l = record {
  long : length l.copy.items ≡ l.done;
  within : l.done ≤ length l.samples;
  turns : l.done < length l.samples → l.done % 24 ≡ 0;
  made : (k : ℕ) → k < l.done → get_or l.copy.items k 0
      ≡ changed_sample l.change l.sampling (bits_of l.depth) k (get_or l.samples k 0);
}

abbrev pub decreases-loop-done : goal.decreases-loop-done
decreases-loop-done g l = length l.samples - l.done
