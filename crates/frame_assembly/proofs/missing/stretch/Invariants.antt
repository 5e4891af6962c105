use Rattle.std.proofs.Common.{◌≡◌, ℕ, ◌<◌, get_or}
use Rattle.frame_assembly.specs.Missing.{is_known_mark}
use Rattle.frame_assembly.proofs.missing.stretch.Given as goal

abbrev pub invariant-loop-group : goal.invariant-loop-group
invariant-loop-group l =
    (k : ℕ) → k < l.group → is_known_mark (get_or l.marks k 0) ≡ l.known
