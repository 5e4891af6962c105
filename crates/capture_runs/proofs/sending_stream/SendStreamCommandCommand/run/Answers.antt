use Rattle.command_end.proofs.Quiet.{refused_both}
use Rattle.capture_runs.proofs.sending_stream.SendStreamCommandCommand.run.Goals as goal

pub returns-clause-refusal : goal.returns-clause-refusal
returns-clause-refusal c =
    refused_both _ _ c.send-outcome.result c.send-outcome.ensures.refusal
    c.send-outcome.ensures.quiet
