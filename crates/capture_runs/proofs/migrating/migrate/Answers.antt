use Rattle.std.proofs.Common.{inl, inr}
use Rattle.std.proofs.lemmas.Result.{err_from_is_err_and}
use Rattle.run_outcome.proofs.Refusals.{if_err_map, of_refusal_map}
use Rattle.capture_runs.proofs.migrating.migrate.Goals as goal

pub returns-in_err-find_output-clause-refusal : goal.returns-in_err-find_output-clause-refusal
returns-in_err-find_output-clause-refusal c =
    let p = err_from_is_err_and c.from_residual.result c.from_residual.ensures.1 in
    rw (p.1, p.2)
    (of_refusal_map c.in_err-find_output.field-0.0 (λ r is. inr (is.0, is.1, tt))
    c.in_err-find_output.ensures.refusal)

pub returns-clause-refusal : goal.returns-clause-refusal
returns-clause-refusal c =
    if_err_map c.migrate.result
    (λ f. of_refusal_map f (λ r is. inl (inl c.in_ok-find_output.ensures.apart, is)))
    c.migrate.ensures.refusal
