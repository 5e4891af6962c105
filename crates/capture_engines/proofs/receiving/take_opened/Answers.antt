use Rattle.std.proofs.Common.{inl, inr, refl}
use Rattle.std.proofs.lemmas.Result.{err_from_is_err_and}
use Rattle.run_outcome.proofs.Printed.{on_ok}
use Rattle.run_outcome.proofs.Refusals.{if_err_map, of_refusal_map}
use Rattle.capture_engines.proofs.FirstRefused.{some_open}
use Rattle.capture_engines.proofs.Taken.{first_taken, none_begun, records_taken}
use Rattle.capture_engines.proofs.receiving.take_opened.Goals as goal

pub returns-in-Some-clause-taken : goal.returns-in-Some-clause-taken
returns-in-Some-clause-taken g c =
    on_ok c.take_records.result _ _
    (λ over. records_taken c.args.opening.now c.args.text.now c.args.begun.now _ _ _ c.in-Some.is
    c.take_records.ensures.taken)
    c.take_records.ensures.ended

pub returns-in-Some-clause-stop : goal.returns-in-Some-clause-stop
returns-in-Some-clause-stop g c =
    if_err_map c.take_records.result
    (λ f is. inl (
      records_taken c.args.opening.now c.args.text.now c.args.begun.now _ _ _
          c.in-Some.is c.take_records.ensures.taken,
      is,
    ))
    c.take_records.ensures.stop

pub returns-in-Some-clause-opens : goal.returns-in-Some-clause-opens
returns-in-Some-clause-opens g c =
    on_ok c.take_records.result _ _
    (λ over none. absurd (some_open c.args.begun.now _ c.in-Some.is none))
    c.take_records.ensures.ended

pub returns-in-Some-clause-refusal : goal.returns-in-Some-clause-refusal
returns-in-Some-clause-refusal g c =
    if_err_map c.take_records.result
    (λ f is. inl (
      λ none. absurd (some_open c.args.begun.now _ c.in-Some.is none),
      c.take_records.ensures.within,
      is,
    ))
    c.take_records.ensures.stop

pub returns-in_err-intake-clause-refusal : goal.returns-in_err-intake-clause-refusal
returns-in_err-intake-clause-refusal g c =
    let p = err_from_is_err_and c.from_residual.result c.from_residual.ensures.1 in
    rw (p.1, p.2) (inr (of_refusal_map c.in_err-intake.field-0.0
    (λ r is. (none_begun c.args.begun.now c.in_default.not-Some, is))
    c.in_err-intake.ensures.refusal))

pub returns-in_err-intake-clause-stop : goal.returns-in_err-intake-clause-stop
returns-in_err-intake-clause-stop g c =
    let p = err_from_is_err_and c.from_residual.result c.from_residual.ensures.1 in
    rw (p.1, p.2) (inr (
      refl,
      of_refusal_map c.in_err-intake.field-0.0
          (λ r is. (none_begun c.args.begun.now c.in_default.not-Some, is))
          c.in_err-intake.ensures.refusal,
    ))

pub returns-clause-taken : goal.returns-clause-taken
returns-clause-taken g c =
    on_ok c.take_records-taken.result _ _
    (λ over. first_taken c.args.opening.now c.args.text.now c.args.begun.now _ _ _
    (none_begun c.args.begun.now c.in_default.not-Some) c.in_ok-intake.ensures.opened
    c.take_records-taken.ensures.taken)
    c.take_records-taken.ensures.ended

pub returns-clause-stop : goal.returns-clause-stop
returns-clause-stop g c =
    if_err_map c.take_records-taken.result
    (λ f is. inl (
      first_taken c.args.opening.now c.args.text.now c.args.begun.now _ _ _
          (none_begun c.args.begun.now c.in_default.not-Some) c.in_ok-intake.ensures.opened
          c.take_records-taken.ensures.taken,
      is,
    ))
    c.take_records-taken.ensures.stop

pub returns-clause-opens : goal.returns-clause-opens
returns-clause-opens g c =
    on_ok c.take_records-taken.result _ _ (λ over none. c.in_ok-intake.ensures.opens)
    c.take_records-taken.ensures.ended

pub returns-clause-refusal : goal.returns-clause-refusal
returns-clause-refusal g c =
    if_err_map c.take_records-taken.result
    (λ f is. inl (λ none. c.in_ok-intake.ensures.opens, c.take_records-taken.ensures.within, is))
    c.take_records-taken.ensures.stop

pub returns-in-Some-clause-memory : goal.returns-in-Some-clause-memory
returns-in-Some-clause-memory g c =
    if_err_map c.take_records.result (λ f is memory. inl is) c.take_records.ensures.stop

pub returns-in_err-intake-clause-memory : goal.returns-in_err-intake-clause-memory
returns-in_err-intake-clause-memory g c =
    let p = err_from_is_err_and c.from_residual.result c.from_residual.ensures.1 in
    rw (p.1, p.2) (λ memory. inr (
      none_begun c.args.begun.now c.in_default.not-Some,
      c.in_err-intake.ensures.memory memory,
    ))

pub returns-clause-memory : goal.returns-clause-memory
returns-clause-memory g c =
    if_err_map c.take_records-taken.result (λ f is memory. inl is)
    c.take_records-taken.ensures.stop
