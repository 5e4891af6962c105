use Rattle.std.proofs.Common.{◌≤◌, ◌≢◌, All, drop, length}
use Rattle.script_engines.proofs.script.whole_lines.Given as goal

abbrev pub decreases-loop-end : goal.decreases-loop-end
decreases-loop-end l = l.end

abbrev pub invariant-loop-end : goal.invariant-loop-end
invariant-loop-end l = record {
  within : l.end ≤ length l.text;
  none : All (λ octet. octet ≢ 10) (drop l.end l.text);
}
