use Rattle.std.proofs.Common.{◌∙◌, inl, inr, length, refl, subst, sym}
use Rattle.std.proofs.lemmas.Result.{err_from_is_err_and}
use Rattle.run_outcome.proofs.Printed.{whenever}
use Rattle.run_outcome.proofs.Refusals.{if_err_map, of_refusal_map}
use Rattle.std.specs.List.{zip}
use Rattle.capture_engines.specs.Sent.{IsSendRefusal}
use Rattle.devices.specs.Passed.{file_ended, file_gave}
use Rattle.run_outcome.specs.Moments.{WasRead}
use Rattle.run_outcome.specs.declared.refusal.Refusal.{Refusal}
use Rattle.capture_runs.proofs.sending.send.Goals as goal

pub returns-in_err-check_pictures-clause-refusal : goal.returns-in_err-check_pictures-clause-refusal
returns-in_err-check_pictures-clause-refusal c =
    let ps = c.args.pictures.now in
    let sdp = c.args.sdp.now in
    let p = err_from_is_err_and c.from_residual.result c.from_residual.ensures.1 in
    rw (p.1, p.2)
    (of_refusal_map c.in_err-check_pictures.field-0.0 (λ r is. inl (
      inr is.0,
      subst (λ (x : Refusal). IsSendRefusal c.args.wanted.max_octets (length ps) sdp sdp
          (WasRead file_gave file_ended) (zip ps ps) x) (sym is.0) (inl is.1),
    )) c.in_err-check_pictures.ensures.refusal)

pub returns-in_err-find_output-clause-refusal : goal.returns-in_err-find_output-clause-refusal
returns-in_err-find_output-clause-refusal c =
    let p = err_from_is_err_and c.from_residual-in_err-find_output.result
    c.from_residual-in_err-find_output.ensures.1 in
    rw (p.1, p.2)
    (of_refusal_map c.in_err-find_output.field-0.0
    (λ r is. inr (is.0, is.1, c.in_ok-check_pictures.ensures.few))
    c.in_err-find_output.ensures.refusal)

pub returns-then-is_typed-clause-refusal : goal.returns-then-is_typed-clause-refusal
returns-then-is_typed-clause-refusal c =
    if_err_map c.send_typed.result
    (λ f. of_refusal_map f (λ r is. inl (inl c.in_ok-find_output.ensures.apart, is)))
    c.send_typed.ensures.refusal

pub returns-clause-refusal : goal.returns-clause-refusal
returns-clause-refusal c =
    if_err_map c.send.result
    (λ f. of_refusal_map f (λ r is. inl (inl c.in_ok-find_output.ensures.apart, is)))
    c.send.ensures.refusal

pub returns-in_err-check_pictures-clause-part : goal.returns-in_err-check_pictures-clause-part
returns-in_err-check_pictures-clause-part c =
    whenever c.from_residual.result _ (inl (refl, refl))

pub returns-in_err-find_output-clause-part : goal.returns-in_err-find_output-clause-part
returns-in_err-find_output-clause-part c =
    whenever c.from_residual-in_err-find_output.result _ (inl (c.find_output.ensures.took, refl))

pub returns-then-is_typed-clause-part : goal.returns-then-is_typed-clause-part
returns-then-is_typed-clause-part c =
    let none = c.find_output.ensures.unplaced c.requires.unplaced in
    rw (
      sym c.find_output.ensures.took,
      none,
      sym c.in_ok-find_output.ensures.owed,
      sym c.is_typed.ensures ∙ c.if-is_typed.true,
    ) c.send_typed.ensures.part

pub returns-clause-part : goal.returns-clause-part
returns-clause-part c =
    let none = c.find_output.ensures.unplaced c.requires.unplaced in
    rw (
      sym c.find_output.ensures.took,
      none,
      sym c.in_ok-find_output.ensures.owed,
      sym c.is_typed.ensures ∙ c.if-is_typed.false,
    ) c.send.ensures.part
