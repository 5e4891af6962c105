use Rattle.std.proofs.Common.{List, ℕ, inl, refl, subst, sym}
use Rattle.path_receiver.specs.Opening.{Opening}
use Rattle.run_outcome.specs.declared.fault.Fault.{Fault}
use Rattle.run_outcome.specs.declared.script_line.Form.TheVariants.{Open}
use Rattle.script_engines.specs.FirstLines.{ReadsOpening, end_of, lines_left}
use Rattle.script_engines.specs.Forms.{IsWindowText}
use Rattle.script_engines.specs.Traced.{IsFaultyOpening, SaysOpening}
use Rattle.script_engines.proofs.FaultLemmas.{nothing_read}
use Rattle.script_engines.proofs.RehearsalReading.{faulty_line}
use Rattle.script_engines.proofs.UntracedLemmas.{as_refusal, opening_refused}
use Rattle.script_engines.proofs.tracing.open_receiver.Goals as goal

pub returns-in-Ok-clause-opening : goal.returns-in-Ok-clause-opening
returns-in-Ok-clause-opening g c =
    let window : IsWindowText c.in-Some.said.window.now c.in-Some-2.window.items =
    rw c.in-Some-2.is at c.in_ok-window.ensures.is in
    subst (λ (o : Opening).
    ReadsOpening (lines_left c.args.lines.now) (lines_left c.next_line.new.lines) c.args.format o)
    (sym c.in-Ok.ensures.opening)
    (record {
      number = c.in_ok-line.line.number;
      text = c.in_ok-line.line.text.now;
      next = c.in_ok-line.ensures.next;
      window = c.in-Some.said.window.now;
      line_is = c.in-Some.ensures.is;
      window_is = subst (λ (w : List ℕ). IsWindowText c.in-Some.said.window.now w)
          (sym c.deref.ensures.value) window;
      format_is = refl;
    })

pub returns-in_default-clause-refusal : goal.returns-in_default-clause-refusal
returns-in_default-clause-refusal g c =
    let none = nothing_read c.read_open_line.result c.in_default.not-Some
    c.read_open_line.ensures.none in
    let end = end_of c.args.lines.now in
    as_refusal
    (λ (f : Fault). IsFaultyOpening c.args.format (lines_left c.args.lines.now) end f)
    c.refused_at.result
    (inl (faulty_line SaysOpening (lines_left c.args.lines.now) (lines_left c.next_line.new.lines)
    c.in_ok-line.line.number c.in_ok-line.line.text.now end c.refused_at.result
    c.in_ok-line.ensures.next (λ said. none said.0 said.1 said.2 said.4)
    (Open, c.refused_at.ensures)))

pub returns-clause-refusal : goal.returns-clause-refusal
returns-clause-refusal g c =
    let window : IsWindowText c.in-Some.said.window.now c.in-Some-2.window.items =
    rw c.in-Some-2.is at c.in_ok-window.ensures.is in
    let opening : Opening = record {
      format = c.args.format;
      payload_type = c.in-Some.said.payload_type;
      ssrc = c.in-Some.said.ssrc;
      window = c.deref.result.now;
    } in
    opening_refused c.open.result c.in-Err.fault c.refused_at-in-Err.result c.args.format
    (lines_left c.args.lines.now) (lines_left c.next_line.new.lines) (end_of c.args.lines.now)
    opening
    (record {
      number = c.in_ok-line.line.number;
      text = c.in_ok-line.line.text.now;
      next = c.in_ok-line.ensures.next;
      window = c.in-Some.said.window.now;
      line_is = c.in-Some.ensures.is;
      window_is = subst (λ (w : List ℕ). IsWindowText c.in-Some.said.window.now w)
          (sym c.deref.ensures.value) window;
      format_is = refl;
    })
    c.in-Err.is c.open.ensures.size c.open.ensures.double c.refused_at-in-Err.ensures
