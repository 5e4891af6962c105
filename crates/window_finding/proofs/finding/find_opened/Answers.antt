use Rattle.std.proofs.Common.{inr}
use Rattle.std.proofs.lemmas.Result.{err_from_is_err_and}
use Rattle.capture_engines.proofs.FirstRefused.{some_open}
use Rattle.capture_engines.proofs.Taken.{none_begun}
use Rattle.run_outcome.proofs.Printed.{on_ok}
use Rattle.run_outcome.proofs.Refusals.{if_err_map, of_refusal_map}
use Rattle.window_finding.proofs.Found.{announced_opens, first_found, records_found, stop_told}
use Rattle.window_finding.proofs.finding.find_opened.Goals as goal

pub returns-in-Some-clause-found : goal.returns-in-Some-clause-found
returns-in-Some-clause-found g c =
    on_ok c.find_in.result _ _
    (λ finds. records_found c.args.sought c.args.text.now c.args.begun.now _ _ _ c.in-Some.is
    (record {
      sought = c.find_in.ensures.sought;
      payload_type = c.find_in.ensures.payload_type;
      finds = finds;
    }))
    c.find_in.ensures.found

pub returns-in-Some-clause-opens : goal.returns-in-Some-clause-opens
returns-in-Some-clause-opens g c =
    on_ok c.find_in.result _ _
    (λ done none. absurd (some_open c.args.begun.now _ c.in-Some.is none))
    c.find_in.ensures.done

pub returns-in-Some-clause-refusal : goal.returns-in-Some-clause-refusal
returns-in-Some-clause-refusal g c =
    if_err_map c.find_in.result
    (λ f is. stop_told _ _ _ _ _ f
    (λ none. absurd (some_open c.args.begun.now _ c.in-Some.is none)) c.find_in.ensures.within is)
    c.find_in.ensures.stop

pub returns-in_err-finder-clause-refusal : goal.returns-in_err-finder-clause-refusal
returns-in_err-finder-clause-refusal g c =
    let p = err_from_is_err_and c.from_residual.result c.from_residual.ensures.1 in
    rw (p.1, p.2) (inr (of_refusal_map c.in_err-finder.field-0.0
    (λ r is. (none_begun c.args.begun.now c.in_default.not-Some, is))
    c.in_err-finder.ensures.refusal))

pub returns-clause-found : goal.returns-clause-found
returns-clause-found g c =
    on_ok c.find_in-found.result _ _
    (λ finds. first_found c.args.sought c.args.text.now c.args.begun.now _ _ _
    (none_begun c.args.begun.now c.in_default.not-Some) c.in_ok-finder.ensures.opened
    (record {
      sought = c.find_in-found.ensures.sought;
      payload_type = c.find_in-found.ensures.payload_type;
      finds = finds;
    }))
    c.find_in-found.ensures.found

pub returns-clause-opens : goal.returns-clause-opens
returns-clause-opens g c =
    on_ok c.find_in-found.result _ _
    (λ done none. announced_opens c.args.text.now _ c.in_ok-finder.ensures.opened.announced)
    c.find_in-found.ensures.done

pub returns-clause-refusal : goal.returns-clause-refusal
returns-clause-refusal g c =
    if_err_map c.find_in-found.result
    (λ f is. stop_told _ _ _ _ _ f
    (λ none. announced_opens c.args.text.now _ c.in_ok-finder.ensures.opened.announced)
    c.find_in-found.ensures.within is)
    c.find_in-found.ensures.stop
