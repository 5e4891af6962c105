use Rattle.run_laws.proofs.NoRefusals.{report_not}
use Rattle.run_laws.proofs.unrefused.report_unrefused.Goals as goal

pub returns : goal.returns
returns g c = report_not g.S.ByteSource.gave g.S.ByteSource.ended
