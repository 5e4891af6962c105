use Rattle.std.proofs.Common.{refl}
use Rattle.std.proofs.lemmas.Result.{err_from_is_err_and}
use Rattle.capture_engines.proofs.Leaving.{moved_fault}
use Rattle.capture_engines.proofs.MigrateRefusals.{capture_refused}
use Rattle.capture_engines.proofs.migrating.move_capture.Goals as goal

pub returns-in_err-buf-clause-moved : goal.returns-in_err-buf-clause-moved
returns-in_err-buf-clause-moved g c =
    let p = err_from_is_err_and c.from_residual.result c.from_residual.ensures.1 in
    rw (p.1, p.2) refl

pub returns-clause-moved : goal.returns-clause-moved
returns-clause-moved g c =
    moved_fault c.in-Err.fault c.of_capture.result c.args.said.now _ _ _ c.of_capture.ensures
    c.in-Err.ensures.named c.in-Err.ensures.stopped_read

pub returns-clause-refusal : goal.returns-clause-refusal
returns-clause-refusal g c =
    let told = g.S.ByteSource in
    rw c.of_capture.ensures
    (capture_refused (told.gave c.args.source.now) (told.gave c.migrate_capture.new.source)
    (told.ended c.migrate_capture.new.source) c.in-Err.fault c.in-Err.ensures.gave_wrong)
