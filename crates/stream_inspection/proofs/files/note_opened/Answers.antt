use Rattle.std.proofs.lemmas.Result.{err_from_is_err_and}
use Rattle.run_outcome.proofs.Refusals.{of_refusal_map}
use Rattle.stream_inspection.proofs.Readings.{end_counted, none_begun, records_noted}
use Rattle.stream_inspection.proofs.files.note_opened.Goals as goal

pub returns-in_err-target-clause-refusal : goal.returns-in_err-target-clause-refusal
returns-in_err-target-clause-refusal g c =
    let p = err_from_is_err_and c.from_residual.result c.from_residual.ensures.1 in
    rw (p.1, p.2) (of_refusal_map c.in_err-target.field-0.0
    (λ r is. none_begun c.args.begun.now _ is) c.in_err-target.ensures.refusal)

pub returns-clause-noted : goal.returns-clause-noted
returns-clause-noted g c =
    records_noted c.args.text.now c.note_records.new.reader.records c.args.begun.now
    c.settle.new.begun c.in_ok-target.target c.args.inspection.now c.note_records.new.inspection
    c.in_ok-target.ensures.settled c.in_ok-target.ensures.kept c.in_ok-target.ensures.announced
    c.in_ok-end.ensures.noted

pub returns-clause-failures : goal.returns-clause-failures
returns-clause-failures g c =
    end_counted c.in_ok-end.end _ _ c.in_ok-end.ensures.failures
