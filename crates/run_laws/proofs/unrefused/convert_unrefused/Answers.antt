use Rattle.run_laws.proofs.NoConvertRefusals.{convert_not}
use Rattle.run_laws.proofs.unrefused.convert_unrefused.Goals as goal

pub returns : goal.returns
returns g c = convert_not g.S.ByteSource.gave g.S.ByteSource.ended
