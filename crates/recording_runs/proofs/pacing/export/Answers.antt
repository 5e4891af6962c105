use Rattle.std.proofs.Common.{inl, inr, subst, sym, refl}
use Rattle.std.proofs.lemmas.Result.{err_from_is_err_and}
use Rattle.run_outcome.proofs.Refusals.{if_err_map, of_refusal_map}
use Rattle.std.specs.Option.{option_copied}
use Rattle.devices.specs.Passed.{FileRead}
use Rattle.paced_export.specs.PacedRefused.{IsPacedRefusal}
use Rattle.run_outcome.specs.declared.refusal.Refusal.{Refusal}
use Rattle.recording_runs.proofs.Left.{not_memory}
use Rattle.recording_runs.proofs.pacing.export.Goals as goal

pub returns-in_err-check_flows-clause-refusal : goal.returns-in_err-check_flows-clause-refusal
returns-in_err-check_flows-clause-refusal c =
    let a = c.args.wanted.flows.a.now in
    let b = option_copied c.args.wanted.flows.b in
    let ahead = FileRead c.args.ahead.now c.args.ahead.now in
    let told = FileRead c.args.capture.now c.args.capture.now in
    let p = err_from_is_err_and c.from_residual.result c.from_residual.ensures.1 in
    rw (p.1, p.2)
    (of_refusal_map c.in_err-check_flows.field-0.0 (λ r is. inl (
      inr is.0,
      subst (λ (x : Refusal). IsPacedRefusal a b ahead told x) (sym is.0) is.1,
    )) c.in_err-check_flows.ensures.refusal)

pub returns-in_err-find_output-clause-refusal : goal.returns-in_err-find_output-clause-refusal
returns-in_err-find_output-clause-refusal c =
    let p = err_from_is_err_and c.from_residual-in_err-find_output.result
    c.from_residual-in_err-find_output.ensures.1 in
    rw (p.1, p.2)
    (of_refusal_map c.in_err-find_output.field-0.0
    (λ r is. inr (is.0, is.1, c.in_ok-check_flows.ensures.flows))
    c.in_err-find_output.ensures.refusal)

pub returns-clause-refusal : goal.returns-clause-refusal
returns-clause-refusal c =
    if_err_map c.export_paced.result
    (λ f. of_refusal_map f (λ r is. inl (inl c.in_ok-find_output.ensures.apart, is)))
    c.export_paced.ensures.refusal

pub returns-in_err-check_flows-clause-memory : goal.returns-in_err-check_flows-clause-memory
returns-in_err-check_flows-clause-memory c =
    let p = err_from_is_err_and c.from_residual.result c.from_residual.ensures.1 in
    rw (p.1, p.2) (λ memory. absurd (not_memory _ _ c.in_err-check_flows.ensures.only memory))

pub returns-in_err-find_output-clause-memory : goal.returns-in_err-find_output-clause-memory
returns-in_err-find_output-clause-memory c =
    let p = err_from_is_err_and c.from_residual-in_err-find_output.result
    c.from_residual-in_err-find_output.ensures.1 in
    rw (p.1)
    (λ memory. (c.in_ok-check_flows.ensures.flows, refl))
