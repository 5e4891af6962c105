use Rattle.command_end.proofs.Outcomes.{on_ok_both}
use Rattle.command_end.proofs.Quiet.{refused_both}
use Rattle.capture_runs.proofs.migrating.MigrateCommandCommand.run.Goals as goal

pub returns-clause-refusal : goal.returns-clause-refusal
returns-clause-refusal c =
    refused_both _ _ c.migrate-outcome.result c.migrate-outcome.ensures.refusal
    c.migrate-outcome.ensures.quiet

pub returns-clause-done : goal.returns-clause-done
returns-clause-done c =
    rw c.settle.ensures.took
    (on_ok_both _ _ c.migrate-outcome.result c.migrate-outcome.ensures.migrated
    c.migrate-outcome.ensures.described)
