use Rattle.std.proofs.Common.{◌≡◌, ℕ, ◌<◌, get_or, length}
use Rattle.key_mix.proofs.wipes.fill_weights.Given as goal

abbrev pub invariant-loop-j : goal.invariant-loop-j
invariant-loop-j l = record {
  long : length l.weights ≡ length l.fn.weights;
  done : (k : ℕ) → k < l.j → get_or l.weights k 0 ≡ l.weight;
}
