use Rattle.std.proofs.Common.{◌≡◌, length}
use Rattle.script_engines.specs.FirstLines.{end_of, lines_left}
use Rattle.script_engines.proofs.RehearsalReading.{SoFar}
use Rattle.script_engines.proofs.rehearsal.read_body.Given as goal

abbrev pub decreases-loop-line : goal.decreases-loop-line
decreases-loop-line g l = length l.lines.rest.now

pub record Reading (same so_far end : Type 0) : Type 0 where
  pub same_head : same
  pub read : so_far
  pub same_end : end

abbrev pub invariant-loop-line : goal.invariant-loop-line
invariant-loop-line g l = Reading (l.rehearsal.head ≡ l.initial.rehearsal.head)
    (SoFar l.initial.rehearsal.head.format (lines_left l.initial.lines) (lines_left l.lines)
    l.rehearsal.pictures.items l.rehearsal.events.items)
    (end_of l.lines ≡ end_of l.initial.lines)
