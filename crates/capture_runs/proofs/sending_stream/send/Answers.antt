use Rattle.std.proofs.Common.{inl, inr, sym}
use Rattle.std.proofs.lemmas.Result.{err_from_is_err_and}
use Rattle.run_outcome.proofs.Printed.{whenever}
use Rattle.run_outcome.proofs.Refusals.{if_err_map, of_refusal_map}
use Rattle.stream_sending.proofs.SentParts.{no_head}
use Rattle.capture_runs.proofs.sending_stream.send.Goals as goal

pub returns-clause-sent : goal.returns-clause-sent
returns-clause-sent c =
    let none = c.find_output.ensures.unplaced c.requires.unplaced in
    rw (sym c.find_output.ensures.took, none)
    (rw c.is_typed-is_typed.ensures at c.send_stream.ensures.sent)

pub returns-in_err-find_output-clause-refusal : goal.returns-in_err-find_output-clause-refusal
returns-in_err-find_output-clause-refusal c =
    let p = err_from_is_err_and c.from_residual.result c.from_residual.ensures.1 in
    rw (p.1, p.2)
    (of_refusal_map c.in_err-find_output.field-0.0 (λ r is. inr (is.0, is.1, tt))
    c.in_err-find_output.ensures.refusal)

pub returns-clause-refusal : goal.returns-clause-refusal
returns-clause-refusal c =
    if_err_map c.send_stream.result
    (λ f. of_refusal_map f (λ r is. inl (inl c.in_ok-find_output.ensures.apart, is)))
    c.send_stream.ensures.refusal

pub returns-in_err-find_output-clause-part : goal.returns-in_err-find_output-clause-part
returns-in_err-find_output-clause-part c =
    whenever c.from_residual.result _ (inl (c.find_output.ensures.took, no_head _))

pub returns-clause-part : goal.returns-clause-part
returns-clause-part c =
    let none = c.find_output.ensures.unplaced c.requires.unplaced in
    rw (sym c.find_output.ensures.took, none, sym c.in_ok-find_output.ensures.owed)
    (rw c.is_typed-is_typed.ensures at c.send_stream.ensures.part)
