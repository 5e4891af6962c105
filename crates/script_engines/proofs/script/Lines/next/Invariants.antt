use Rattle.std.proofs.Common.{◌≡◌, ◌≤◌, ◌+◌, length}
use Rattle.std.specs.Str.Lines.{lines}
use Rattle.script_engines.specs.Script.{numbered_lines}
use Rattle.script_engines.proofs.script.Lines.next.Given as goal

abbrev pub decreases-loop-text : goal.decreases-loop-text
decreases-loop-text l = length l.self.rest.now

abbrev pub invariant-loop-text : goal.invariant-loop-text
invariant-loop-text l = record {
  same_lines : numbered_lines l.initial.self.passed l.initial.self.rest.now
      ≡ numbered_lines l.self.passed l.self.rest.now;
  counted : l.self.passed + length (lines l.self.rest.now) ≡ l.initial.self.passed + length
      (lines l.initial.self.rest.now);
  fewer : length l.self.rest.now ≤ length l.initial.self.rest.now;
}
