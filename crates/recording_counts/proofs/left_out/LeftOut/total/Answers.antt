use Rattle.std.proofs.Common.{◌∙◌}
use Rattle.recording_counts.proofs.Omissions.{sum_is}
use Rattle.recording_counts.proofs.left_out.LeftOut.total.Goals as goal

pub returns-clause-all : goal.returns-clause-all
returns-clause-all c =
    λ omissions is. c.sum.ensures ∙ sum_is c.args.self.now omissions is
