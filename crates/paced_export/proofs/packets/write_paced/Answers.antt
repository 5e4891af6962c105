use Rattle.std.proofs.lemmas.Result.{err_from_is_err_and}
use Rattle.media_file.proofs.GaveCaptures.{capture_gave_cut}
use Rattle.export_engine.proofs.Recordings.{head_wrong}
use Rattle.paced_export.specs.PacedExported.StopsPacing.{Unread}
use Rattle.paced_export.specs.Counts.{counted}
use Rattle.paced_export.proofs.PacedRecordings.{head_stops, recording_all}
use Rattle.paced_export.proofs.PacedRecordings.{recording_stops, recording_wrong}
use Rattle.std.proofs.Common.{refl}
use Rattle.paced_export.proofs.packets.write_paced.Goals as goal

pub returns-in_err-read_front-clause-gave_wrong : goal.returns-in_err-read_front-clause-gave_wrong
returns-in_err-read_front-clause-gave_wrong g c =
    let p = err_from_is_err_and c.from_residual.result c.from_residual.ensures.1 in
    rw (p.1, p.2)
    (capture_gave_cut 16777216 _ _ _ c.in_err-read_front.field-0.0
    c.in_err-read_front.ensures.gave_wrong)

pub returns-in_err-read_front-clause-stopped : goal.returns-in_err-read_front-clause-stopped
returns-in_err-read_front-clause-stopped g c =
    let p = err_from_is_err_and c.from_residual.result c.from_residual.ensures.1 in
    rw (p.1, p.2) (Unread c.in_err-read_front.ensures.gave_wrong refl)

pub returns-in_err-write_head-clause-gave_wrong : goal.returns-in_err-write_head-clause-gave_wrong
returns-in_err-write_head-clause-gave_wrong g c =
    let p =
    err_from_is_err_and c.from_residual-in_err-write_head.result
    c.from_residual-in_err-write_head.ensures.1 in
    rw (p.1, p.2) (head_wrong 16777216 _ _ _ _ c.in_ok-read_front.ensures.gave)

pub returns-in_err-write_head-clause-stopped : goal.returns-in_err-write_head-clause-stopped
returns-in_err-write_head-clause-stopped g c =
    let p =
    err_from_is_err_and c.from_residual-in_err-write_head.result
    c.from_residual-in_err-write_head.ensures.1 in
    rw (p.1, p.2)
    (head_stops c.args.envelopes.now c.args.frames.pace (counted c.args.frames.all.now) _ _ _ _ _ _
    c.in_ok-read_front.ensures.gave
    c.in_err-write_head.ensures.part)

pub returns-clause-exported : goal.returns-clause-exported
returns-clause-exported g c =
    recording_all c.args.envelopes.now c.args.frames.pace (counted c.args.frames.all.now)
    c.write_records.result _ _ _ _ _ _ _ _
    c.in_ok-read_front.ensures.gave c.in_ok-write_head.ensures.took
    c.write_records.ensures.exported

pub returns-clause-gave_wrong : goal.returns-clause-gave_wrong
returns-clause-gave_wrong g c =
    recording_wrong c.write_records.result _ _ _ _ _
    c.in_ok-read_front.ensures.gave c.write_records.ensures.gave_wrong

pub returns-clause-stopped : goal.returns-clause-stopped
returns-clause-stopped g c =
    recording_stops c.args.envelopes.now c.args.frames.pace (counted c.args.frames.all.now)
    c.write_records.result _ _ _ _ _ _ _ _
    c.in_ok-read_front.ensures.gave c.in_ok-write_head.ensures.took
    c.write_records.ensures.stopped
