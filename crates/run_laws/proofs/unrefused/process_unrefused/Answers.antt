use Rattle.run_laws.proofs.NoProcessRefusals.{process_not}
use Rattle.run_laws.proofs.unrefused.process_unrefused.Goals as goal

pub returns : goal.returns
returns g c = process_not g.S.ByteSource.gave g.S.ByteSource.ended
