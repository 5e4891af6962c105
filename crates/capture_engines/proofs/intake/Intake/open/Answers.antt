use Rattle.std.proofs.Common.{List, ap, subst, ℕ}
use Rattle.std.proofs.lemmas.Result.{err_from_is_err_and}
use Rattle.sdp_format.specs.Views.{description}
use Rattle.st_format.specs.Fields.{fields_of}
use Rattle.path_receiver.specs.Opening.{IsWindow, Opening}
use Rattle.capture_engines.proofs.CaptureRuns.{wants_receiver, wants_text, window_refused}
use Rattle.capture_engines.proofs.intake.Intake.open.Goals as goal

pub returns-clause-announced : goal.returns-clause-announced
returns-clause-announced g c = record {
  description = description c.in_ok-said.said;
  described = c.in_ok-said.ensures.said;
  format = ap (λ (o : Opening). fields_of o.format) c.in_ok-receiver.ensures.opening;
  payload_type = ap (λ (o : Opening). o.payload_type) c.in_ok-receiver.ensures.opening;
}

pub returns-clause-opens : goal.returns-clause-opens
returns-clause-opens g c = record {
  sdp = (description c.in_ok-said.said, c.in_ok-said.ensures.said);
  is_window =
      subst (λ (w : List ℕ). IsWindow w)
      (ap (λ (o : Opening). o.window) c.in_ok-receiver.ensures.opening)
      c.in_ok-receiver.ensures.receiver.window;
}

pub returns-in_err-receiver-clause-refusal : goal.returns-in_err-receiver-clause-refusal
returns-in_err-receiver-clause-refusal g c =
    let p = err_from_is_err_and c.from_residual-in_err-receiver.result
    c.from_residual-in_err-receiver.ensures.1 in
    rw (p.1)
    (window_refused c.open.result c.in_err-receiver.field-0.0 p.0 c.args.window.now
    c.args.sdp.now c.in_err-receiver.was
    (description c.in_ok-said.said, c.in_ok-said.ensures.said) c.open.ensures.size
    c.open.ensures.double p.2)

pub returns-in_err-said-clause-memory : goal.returns-in_err-said-clause-memory
returns-in_err-said-clause-memory g c =
    let p = err_from_is_err_and c.from_residual.result c.from_residual.ensures.1 in
    rw (p.1)
    (wants_text c.read_located.result c.in_err-said.field-0.0 p.0 c.args.window.now
    c.args.sdp.now c.in_err-said.was c.read_located.ensures.memory p.2)

pub returns-in_err-receiver-clause-memory : goal.returns-in_err-receiver-clause-memory
returns-in_err-receiver-clause-memory g c =
    let p = err_from_is_err_and c.from_residual-in_err-receiver.result
    c.from_residual-in_err-receiver.ensures.1 in
    rw (p.1)
    (wants_receiver c.open.result c.in_err-receiver.field-0.0 p.0 c.args.window.now
    c.args.sdp.now c.in_err-receiver.was
    (description c.in_ok-said.said, c.in_ok-said.ensures.said) c.open.ensures.size
    c.open.ensures.double p.2)
