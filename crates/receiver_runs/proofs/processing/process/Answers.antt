use Rattle.std.proofs.Common.{inl, inr, sym}
use Rattle.std.proofs.lemmas.Result.{err_from_is_err_and}
use Rattle.run_outcome.proofs.Refusals.{if_err_map, of_refusal_map}
use Rattle.receiver_runs.proofs.processing.process.Goals as goal

pub returns-clause-sent : goal.returns-clause-sent
returns-clause-sent c =
    let none = c.find_output.ensures.unplaced c.requires.unplaced in
    rw (sym c.find_output.ensures.took, none) c.process_said.ensures.sent

pub returns-in_err-check_job-clause-refusal : goal.returns-in_err-check_job-clause-refusal
returns-in_err-check_job-clause-refusal c =
    let p = err_from_is_err_and c.from_residual.result c.from_residual.ensures.1 in
    rw (p.1, p.2)
    (of_refusal_map c.in_err-check_job.field-0.0 (λ r is. inl (inr is.0, inl is))
    c.in_err-check_job.ensures.refusal)

pub returns-in_err-find_output-clause-refusal : goal.returns-in_err-find_output-clause-refusal
returns-in_err-find_output-clause-refusal c =
    let p = err_from_is_err_and c.from_residual-in_err-find_output.result
    c.from_residual-in_err-find_output.ensures.1 in
    rw (p.1, p.2)
    (of_refusal_map c.in_err-find_output.field-0.0
    (λ r is. inr (is.0, is.1, c.in_ok-check_job.ensures.job))
    c.in_err-find_output.ensures.refusal)

pub returns-clause-refusal : goal.returns-clause-refusal
returns-clause-refusal c =
    if_err_map c.process_said.result
    (λ f. of_refusal_map f (λ r is. inl (inl c.in_ok-find_output.ensures.apart, is)))
    c.process_said.ensures.refusal
