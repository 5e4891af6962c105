use Rattle.std.proofs.Common.{sym}
use Rattle.command_end.proofs.Quiet.{refused_both}
use Rattle.picture_runs.proofs.converting.ConvertCommandCommand.run.Goals as goal

pub returns-clause-refusal : goal.returns-clause-refusal
returns-clause-refusal c =
    refused_both _ _ c.convert-outcome.result c.convert-outcome.ensures.refusal
    (rw (sym c.settle.ensures.took) at c.convert-outcome.ensures.quiet)
