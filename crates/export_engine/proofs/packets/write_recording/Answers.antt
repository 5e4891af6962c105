use Rattle.std.proofs.lemmas.Result.{err_from_is_err_and}
use Rattle.media_file.proofs.GaveCaptures.{capture_gave_cut}
use Rattle.media_file.proofs.Moved.{front_named}
use Rattle.export_engine.specs.Exported.StopsExport.{Unread}
use Rattle.export_engine.proofs.Recordings.{head_stops, head_wrong, recording_all, recording_stops}
use Rattle.export_engine.proofs.Recordings.{recording_wrong}
use Rattle.std.proofs.Common.{refl}
use Rattle.export_engine.proofs.packets.write_recording.Goals as goal

pub returns-in_err-read_front-clause-gave_wrong : goal.returns-in_err-read_front-clause-gave_wrong
returns-in_err-read_front-clause-gave_wrong g c =
    let p = err_from_is_err_and c.from_residual.result c.from_residual.ensures.1 in
    rw (p.1, p.2)
    (capture_gave_cut c.args.limit _ _ _ c.in_err-read_front.field-0.0
    c.in_err-read_front.ensures.gave_wrong)

pub returns-in_err-read_front-clause-named : goal.returns-in_err-read_front-clause-named
returns-in_err-read_front-clause-named g c =
    let p = err_from_is_err_and c.from_residual.result c.from_residual.ensures.1 in
    rw (p.1, p.2) (front_named c.in_err-read_front.field-0.0 c.in_err-read_front.ensures.named)

pub returns-in_err-read_front-clause-stopped : goal.returns-in_err-read_front-clause-stopped
returns-in_err-read_front-clause-stopped g c =
    let p = err_from_is_err_and c.from_residual.result c.from_residual.ensures.1 in
    rw (p.1, p.2) (Unread c.in_err-read_front.ensures.gave_wrong refl)

pub returns-in_err-write_head-clause-gave_wrong : goal.returns-in_err-write_head-clause-gave_wrong
returns-in_err-write_head-clause-gave_wrong g c =
    let p =
    err_from_is_err_and c.from_residual-in_err-write_head.result
    c.from_residual-in_err-write_head.ensures.1 in
    rw (p.1, p.2) (head_wrong c.args.limit _ _ _ _ c.in_ok-read_front.ensures.gave)

pub returns-in_err-write_head-clause-stopped : goal.returns-in_err-write_head-clause-stopped
returns-in_err-write_head-clause-stopped g c =
    let p =
    err_from_is_err_and c.from_residual-in_err-write_head.result
    c.from_residual-in_err-write_head.ensures.1 in
    rw (p.1, p.2)
    (head_stops c.args.envelopes.now _ _ _ _ _ _ c.in_ok-read_front.ensures.gave
    c.in_err-write_head.ensures.part)

pub returns-clause-exported : goal.returns-clause-exported
returns-clause-exported g c =
    recording_all c.args.limit c.args.envelopes.now c.write_packets.result _ _ _ _ _ _ _ _
    c.in_ok-read_front.ensures.gave c.in_ok-write_head.ensures.took
    c.write_packets.ensures.exported

pub returns-clause-gave_wrong : goal.returns-clause-gave_wrong
returns-clause-gave_wrong g c =
    recording_wrong c.args.limit c.write_packets.result _ _ _ _ _
    c.in_ok-read_front.ensures.gave c.write_packets.ensures.gave_wrong

pub returns-clause-stopped : goal.returns-clause-stopped
returns-clause-stopped g c =
    recording_stops c.args.envelopes.now c.write_packets.result _ _ _ _ _ _ _ _
    c.in_ok-read_front.ensures.gave c.in_ok-write_head.ensures.took
    c.write_packets.ensures.stopped
