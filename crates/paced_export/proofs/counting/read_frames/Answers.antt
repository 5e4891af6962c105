use Rattle.std.proofs.Common.{take}
use Rattle.std.proofs.lemmas.Result.{err_from_is_err_and}
use Rattle.media_file.proofs.GaveCaptures.{capture_gave, capture_gave_cut, capture_gave_wrong}
use Rattle.export_engine.proofs.ExportRefusals.{read_refused}
use Rattle.paced_export.proofs.PacedRefusals.{front_known, has_rate, of_capture_ahead}
use Rattle.paced_export.proofs.PacedRefusals.{of_text_ahead, rate_known}
use Rattle.paced_export.proofs.counting.read_frames.Goals as goal

pub returns-in-Err-clause-refusal : goal.returns-in-Err-clause-refusal
returns-in-Err-clause-refusal g c =
    rw c.of_capture.ensures
    (of_capture_ahead _ c.in-Err.fault
    (read_refused _ _ _ c.in-Err.fault
    (capture_gave_cut 16777216 _ _ _ c.in-Err.fault c.in-Err.ensures.gave_wrong))
    (front_known _ _ _ c.in-Err.fault c.in-Err.ensures.gave_wrong))

pub returns-in_err-active-clause-refusal : goal.returns-in_err-active-clause-refusal
returns-in_err-active-clause-refusal g c =
    let n = c.in-Ok.count in
    let f = c.in_err-active.field-0.0 in
    let p =
    err_from_is_err_and c.from_residual.result c.from_residual.ensures.1 in
    rw (p.1, p.2)
    (of_text_ahead _ _ (take n c.read_front.new.text) _ c.in-Ok.ensures.gave f
    c.in_err-active.ensures.refusal)

pub returns-in-Ok-count_records-clause-read : goal.returns-in-Ok-count_records-clause-read
returns-in-Ok-count_records-clause-read g c =
    let n = c.in-Ok.count in
    let text = take n c.read_front.new.text in
    let m = c.in-Ok-count_records.ensures.read in
    record {
      content = record { text = text; records = m.entries };
      read = capture_gave 16777216 _ _ _ text _ m.entries c.in-Ok.ensures.gave m.read;
      said = c.in_ok-active.ensures.said;
      counts = m.counts;
    }

pub returns-in-Err-count_records-clause-refusal : goal.returns-in-Err-count_records-clause-refusal
returns-in-Err-count_records-clause-refusal g c =
    let f = c.in-Err-count_records.fault in
    let text = take c.in-Ok.count c.read_front.new.text in
    let wrong = c.in-Err-count_records.ensures.gave_wrong in
    rw c.of_capture-in-Err-count_records.ensures
    (of_capture_ahead _ f
    (read_refused _ _ _ f
    (capture_gave_wrong 16777216 _ _ _ _ _ f c.in-Ok.ensures.gave wrong))
    (rate_known _ f
    (has_rate _ _ _ text wrong.part _ _ c.in-Ok.ensures.gave wrong.grown
    c.in_ok-active.ensures.said)))
