use Rattle.recording_engines.specs.Files.{failures_by, gave_by}
use Rattle.follow_engine.proofs.opening.open_side.Goals as goal

pub returns-in-Ok-clause-opened : goal.returns-in-Ok-clause-opened
returns-in-Ok-clause-opened g c = rw c.flows.ensures at c.in-Ok.ensures.opened

pub returns-in-Err-clause-refusal : goal.returns-in-Err-clause-refusal
returns-in-Err-clause-refusal g c =
    c.unopened_file.ensures.refusal (gave_by g.S.ByteSource.gave c.args.side.now.file)
    (rw c.flows.ensures at c.in-Err.ensures.fault)
    (rw c.flows.ensures at c.in-Err.ensures.by_flows)

pub returns-in-Err-clause-failures : goal.returns-in-Err-clause-failures
returns-in-Err-clause-failures g c =
    c.unopened_file.ensures.failures (failures_by g.S.ByteSource.failures c.args.side.now.file)
    c.in-Err.ensures.counted
