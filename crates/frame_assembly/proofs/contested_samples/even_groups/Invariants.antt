use Rattle.std.proofs.Common.{ℕ, ◌<◌, get_or}
use Rattle.frame_assembly.specs.ContestedSamples.{HasContested}
use Rattle.frame_assembly.proofs.contested_samples.even_groups.Given as goal

abbrev pub invariant-loop-group : goal.invariant-loop-group
invariant-loop-group l =
    (k : ℕ) → k < l.group → HasContested l.size (get_or l.marks k 0) → ⊥
