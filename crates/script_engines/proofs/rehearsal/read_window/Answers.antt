use Rattle.std.proofs.Common.{List, ℕ, inr}
use Rattle.run_outcome.specs.declared.script_line.Form.TheVariants.{Window}
use Rattle.script_engines.specs.FirstLines.{end_of, lines_left}
use Rattle.script_engines.specs.Rehearsal.{SaysWindow}
use Rattle.script_engines.specs.RehearsalForms.{IsWindowLine}
use Rattle.script_engines.proofs.RehearsalReading.{faulty_line}
use Rattle.script_engines.proofs.rehearsal.read_window.Goals as goal

pub returns-in-None-clause-fault : goal.returns-in-None-clause-fault
returns-in-None-clause-fault g c =
    let none : (said : List ℕ) → IsWindowLine c.in_ok-line.line.text.now said → ⊥ =
    rw c.in-None.is at c.in_ok-window.ensures.none in
    inr (faulty_line SaysWindow (lines_left c.args.lines.now) (lines_left c.next_line.new.lines)
    c.in_ok-line.line.number c.in_ok-line.line.text.now (end_of c.args.lines.now)
    c.refused_at.result c.in_ok-line.ensures.next
    (λ said. none said.0 said.1) (Window, c.refused_at.ensures))
