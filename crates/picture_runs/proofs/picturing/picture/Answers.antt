use Rattle.std.proofs.Common.{inl, inr, sym}
use Rattle.std.proofs.lemmas.Result.{err_from_is_err_and}
use Rattle.devices.specs.Passed.{FileRead, file_ended, file_gave}
use Rattle.run_outcome.proofs.Refusals.{if_err_map, of_refusal_map}
use Rattle.run_outcome.specs.Moments.{WasRead, pair}
use Rattle.picture_engine.proofs.Reasons.{view_refused}
use Rattle.picture_runs.proofs.picturing.picture.Goals as goal

pub returns-clause-shown : goal.returns-clause-shown
returns-clause-shown c =
    let none = c.find_output.ensures.unplaced c.requires.unplaced in
    rw (sym c.find_output.ensures.took, none) c.picture.ensures.shown

pub returns-in_err-check_view-clause-refusal : goal.returns-in_err-check_view-clause-refusal
returns-in_err-check_view-clause-refusal c =
    let state = c.args.state.now in
    let hold = c.args.hold.now in
    let p = err_from_is_err_and c.from_residual.result c.from_residual.ensures.1 in
    rw (p.1, p.2)
    (of_refusal_map c.in_err-check_view.field-0.0 (λ r is. inl (
      inr is,
      view_refused (FileRead state state) (WasRead file_gave file_ended) (pair hold hold)
          c.args.asked r is,
    ))
    c.in_err-check_view.ensures.refusal)

pub returns-in_err-find_output-clause-refusal : goal.returns-in_err-find_output-clause-refusal
returns-in_err-find_output-clause-refusal c =
    let p = err_from_is_err_and c.from_residual-in_err-find_output.result
    c.from_residual-in_err-find_output.ensures.1 in
    rw (p.1, p.2)
    (of_refusal_map c.in_err-find_output.field-0.0
    (λ r is. inr (is.0, is.1, c.in_ok-check_view.ensures.says))
    c.in_err-find_output.ensures.refusal)

pub returns-clause-refusal : goal.returns-clause-refusal
returns-clause-refusal c =
    if_err_map c.picture.result
    (λ f. of_refusal_map f (λ r is. inl (inl c.in_ok-find_output.ensures.apart, is)))
    c.picture.ensures.refusal
