use Rattle.std.proofs.Common.{refl}
use Rattle.std.proofs.lemmas.Result.{err_from_is_err_and}
use Rattle.export_engine.proofs.ExportRefusals.{read_refused, recording_left}
use Rattle.export_engine.proofs.exporting.export_capture.Goals as goal

pub returns-in_err-buf-clause-left : goal.returns-in_err-buf-clause-left
returns-in_err-buf-clause-left g c =
    let p = err_from_is_err_and c.from_residual.result c.from_residual.ensures.1 in
    rw (p.1, p.2) (refl, refl)

pub returns-in_err-packet-clause-left : goal.returns-in_err-packet-clause-left
returns-in_err-packet-clause-left g c =
    let p =
    err_from_is_err_and c.from_residual-in_err-packet.result
    c.from_residual-in_err-packet.ensures.1 in
    rw (p.1, p.2) (refl, refl)

pub returns-clause-refusal : goal.returns-clause-refusal
returns-clause-refusal g c =
    rw c.of_capture.ensures (read_refused _ _ _ c.in-Err.fault c.in-Err.ensures.gave_wrong)

pub returns-clause-left : goal.returns-clause-left
returns-clause-left g c =
    rw c.of_capture.ensures
    (recording_left c.args.envelopes.now _ _ _ _ _ c.in-Err.fault c.in-Err.ensures.named
    c.in-Err.ensures.stopped)
