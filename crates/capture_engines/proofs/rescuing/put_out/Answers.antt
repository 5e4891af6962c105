use Rattle.std.proofs.Common.{inl, inr, refl}
use Rattle.std.proofs.lemmas.Result.{err_from_is_err_and}
use Rattle.run_outcome.proofs.Printed.{whenever}
use Rattle.capture_engines.proofs.Rescues.{failed_device}
use Rattle.capture_engines.proofs.rescuing.put_out.Goals as goal

pub returns-in_err-print_intake-clause-part : goal.returns-in_err-print_intake-clause-part
returns-in_err-print_intake-clause-part g c =
    let p = err_from_is_err_and c.from_residual.result c.from_residual.ensures.1 in
    rw (p.1) (inl refl)

pub returns-in_err-save_state-clause-part : goal.returns-in_err-save_state-clause-part
returns-in_err-save_state-clause-part g c =
    let p = err_from_is_err_and c.from_residual-in_err-save_state.result
    c.from_residual-in_err-save_state.ensures.1 in
    rw (p.1) (inr (c.args.intake.receiver, refl, c.in_err-save_state.ensures.part))

pub returns-in_err-print_intake-clause-shown : goal.returns-in_err-print_intake-clause-shown
returns-in_err-print_intake-clause-shown g c =
    let intake = c.args.intake in
    whenever c.from_residual.result _
    (inr (
      intake.receiver,
      refl,
      (
        intake.delivered,
        intake.tally,
        inr (
          failed_device c.in_err-print_intake.field-0.0 _ _ c.in_err-print_intake.ensures.device
              c.in_err-print_intake.ensures.failures,
          c.in_err-print_intake.ensures.cut,
        ),
      ),
    ))

pub returns-in_err-save_state-clause-shown : goal.returns-in_err-save_state-clause-shown
returns-in_err-save_state-clause-shown g c =
    let intake = c.args.intake in
    whenever c.from_residual-in_err-save_state.result _
    (inr (
      intake.receiver,
      refl,
      (
        intake.delivered,
        intake.tally,
        inl c.in_ok-print_intake.ensures.printed,
      ),
    ))
