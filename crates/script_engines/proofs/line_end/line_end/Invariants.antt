use Rattle.std.proofs.Common.{◌≡◌, ◌<◌, ℕ, ◌==◌, false, get_or}
use Rattle.script_engines.proofs.line_end.line_end.Given as goal

abbrev pub invariant-loop-i : goal.invariant-loop-i
invariant-loop-i l = (k : ℕ) → k < l.i → (get_or l.text k 0 == 10) ≡ false
