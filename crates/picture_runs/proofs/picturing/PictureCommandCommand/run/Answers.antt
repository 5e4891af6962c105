use Rattle.std.proofs.Common.{sym}
use Rattle.command_end.proofs.Quiet.{refused_both}
use Rattle.command_end.proofs.Outcomes.{on_ok_both}
use Rattle.picture_runs.proofs.picturing.PictureCommandCommand.run.Goals as goal

pub returns-clause-done : goal.returns-clause-done
returns-clause-done c =
    rw c.settle.ensures.took
    (on_ok_both _ _ _ c.picture-outcome.ensures.shown c.picture-outcome.ensures.ended)

pub returns-clause-refusal : goal.returns-clause-refusal
returns-clause-refusal c =
    refused_both _ _ c.picture-outcome.result c.picture-outcome.ensures.refusal
    (rw (sym c.settle.ensures.took) at c.picture-outcome.ensures.quiet)
