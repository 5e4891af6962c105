use Rattle.std.proofs.Common.{inl, subst, sym}
use Rattle.std.proofs.lemmas.Result.{err_from_is_err_and}
use Rattle.path_receiver.specs.Frames.{State}
use Rattle.run_outcome.specs.declared.fault.Fault.{Fault}
use Rattle.run_outcome.specs.declared.fault.Fault.TheVariants.{Refused}
use Rattle.script_engines.specs.FirstLines.{IsFaultyFormat, end_of, lines_left}
use Rattle.script_engines.specs.Traced.{IsFaultyStart, OpensBy}
use Rattle.script_engines.proofs.UntracedLemmas.{as_refusal, start_at_opening, then_refusal}
use Rattle.script_engines.proofs.tracing.open_session.Goals as goal

pub returns-clause-opens : goal.returns-clause-opens
returns-clause-opens g c =
    subst (λ (s : State).
    OpensBy (lines_left c.args.lines.now) (lines_left c.open_receiver.new.lines) s)
    (sym c.new.ensures.receiver)
    (record {
      format = c.in_ok-format.format;
      behind = lines_left c.read_format.new.lines;
      format_read = c.in_ok-format.ensures.format;
      opening_read = c.in_ok-receiver.ensures.opening;
      window = c.in_ok-receiver.ensures.window;
      empty = c.in_ok-receiver.ensures.holds;
    })

pub returns-in_err-format-clause-refusal : goal.returns-in_err-format-clause-refusal
returns-in_err-format-clause-refusal g c =
    let p = err_from_is_err_and c.from_residual.result c.from_residual.ensures.1 in
    let lines = lines_left c.args.lines.now in
    let end = end_of c.args.lines.now in
    rw (p.1)
    (as_refusal (λ (f : Fault). IsFaultyStart lines end f) p.0
    (inl (subst (λ (f : Fault). IsFaultyFormat lines end f) (sym p.2)
    c.in_err-format.ensures.fault)))

pub returns-in_err-receiver-clause-refusal : goal.returns-in_err-receiver-clause-refusal
returns-in_err-receiver-clause-refusal g c =
    let p = err_from_is_err_and c.from_residual-in_err-receiver.result
    c.from_residual-in_err-receiver.ensures.1 in
    rw (p.1)
    (then_refusal c.in_err-receiver.field-0.0 p.0 p.2
    (λ r. start_at_opening (lines_left c.args.lines.now) (lines_left c.read_format.new.lines)
    (end_of c.args.lines.now) (end_of c.read_format.new.lines) c.in_ok-format.format
    c.in_ok-format.ensures.format c.read_format.ensures.end (Refused r))
    c.in_err-receiver.ensures.refusal)
