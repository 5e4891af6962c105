use Rattle.std.proofs.Common.{◌≡◌, ℕ, ◌<◌, ◌≤◌}
use Rattle.std.specs.Int.{bit_at}
use Rattle.frame_assembly.proofs.contested_samples.next_set.Given as goal

abbrev pub invariant-loop-i : goal.invariant-loop-i
invariant-loop-i l = (k : ℕ) → l.at ≤ k → k < l.i → bit_at l.mark k ≡ 1 → ⊥
