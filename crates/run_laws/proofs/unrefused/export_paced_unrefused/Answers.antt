use Rattle.run_laws.proofs.NoPacedRefusals.{paced_not}
use Rattle.run_laws.proofs.unrefused.export_paced_unrefused.Goals as goal

pub returns : goal.returns
returns g c = paced_not g.S.ByteSource.gave g.S.ByteSource.ended
