use Rattle.std.proofs.Common.{◌≡◌, ℕ, ◌<◌, get_or}
use Rattle.key_mix.specs.Rows.{row_weight}
use Rattle.key_mix.proofs.wipes.first_weights.Given as goal

abbrev pub invariant-loop-j : goal.invariant-loop-j
invariant-loop-j l = (k : ℕ) → k < l.j → get_or l.weights k 0 ≡ row_weight l.shape l.sampling 0 k
