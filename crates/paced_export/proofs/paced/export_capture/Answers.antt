use Rattle.export_engine.proofs.ExportRefusals.{read_refused}
use Rattle.paced_export.specs.PacedExported.LeavesPacing.{Stopped}
use Rattle.paced_export.proofs.paced.export_capture.Goals as goal

pub returns-clause-refusal : goal.returns-clause-refusal
returns-clause-refusal g c =
    rw c.of_capture.ensures (read_refused _ _ _ c.in-Err.fault c.in-Err.ensures.gave_wrong)

pub returns-clause-left : goal.returns-clause-left
returns-clause-left g c = Stopped c.in-Err.fault c.in-Err.ensures.stopped
