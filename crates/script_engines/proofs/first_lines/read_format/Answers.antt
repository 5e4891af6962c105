use Rattle.std.proofs.Common.{inl, inr}
use Rattle.run_outcome.specs.declared.script_line.Form.TheVariants.{Format}
use Rattle.script_engines.specs.FirstLines.{SaysFormatLine, end_of, lines_left}
use Rattle.script_engines.proofs.FaultLemmas.{nothing_read}
use Rattle.script_engines.proofs.RehearsalReading.{faulty_line}
use Rattle.script_engines.proofs.first_lines.read_format.Goals as goal

pub returns-in_default-clause-fault : goal.returns-in_default-clause-fault
returns-in_default-clause-fault c =
    let none = nothing_read c.read_format_line.result c.in_default.not-Some
    c.read_format_line.ensures.none in
    inl (faulty_line SaysFormatLine (lines_left c.args.lines.now) (lines_left c.next_line.new.lines)
    c.in_ok-line.line.number c.in_ok-line.line.text.now (end_of c.args.lines.now)
    c.refused_at.result c.in_ok-line.ensures.next (λ said. none said.0 said.1)
    (Format, c.refused_at.ensures))

pub returns-in-Err-clause-fault : goal.returns-in-Err-clause-fault
returns-in-Err-clause-fault c =
    inr (
      c.in-Err.fault,
      lines_left c.next_line.new.lines,
      record {
        number = c.in_ok-line.line.number;
        text = c.in_ok-line.line.text.now;
        next = c.in_ok-line.ensures.next;
        said = c.in-Some.said;
        line_is = c.in-Some.ensures.is;
        made_is = c.in-Err.ensures.exact;
      },
      c.refused_at-in-Err.ensures,
    )
