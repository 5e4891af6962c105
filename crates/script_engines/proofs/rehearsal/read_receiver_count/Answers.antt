use Rattle.run_outcome.specs.declared.script_line.Form.TheVariants.{Receivers}
use Rattle.script_engines.specs.FirstLines.{end_of, lines_left}
use Rattle.script_engines.specs.Rehearsal.{SaysCount}
use Rattle.script_engines.proofs.RehearsalReading.{faulty_line}
use Rattle.script_engines.proofs.rehearsal.read_receiver_count.Goals as goal

pub returns-in-None-clause-fault : goal.returns-in-None-clause-fault
returns-in-None-clause-fault c =
    faulty_line SaysCount (lines_left c.args.lines.now) (lines_left c.next_line.new.lines)
    c.in_ok-line.line.number c.in_ok-line.line.text.now (end_of c.args.lines.now)
    c.refused_at.result c.in_ok-line.ensures.next
    (λ said. c.in-None.ensures.none said.0 said.1) (Receivers, c.refused_at.ensures)
