use Rattle.run_laws.proofs.NoRefusals.{export_not}
use Rattle.run_laws.proofs.unrefused.export_unrefused.Goals as goal

pub returns : goal.returns
returns g c = export_not g.S.ByteSource.gave g.S.ByteSource.ended
