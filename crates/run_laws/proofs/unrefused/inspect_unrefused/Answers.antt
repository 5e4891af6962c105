use Rattle.run_laws.proofs.NoInspectRefusals.{inspect_not}
use Rattle.run_laws.proofs.unrefused.inspect_unrefused.Goals as goal

pub returns : goal.returns
returns g c = inspect_not g.S.ByteSource.gave g.S.ByteSource.ended
