use Rattle.run_laws.proofs.NoRefusals.{merge_refuses_none}
use Rattle.run_laws.proofs.unrefused.merge_unrefused.Goals as goal

pub returns : goal.returns
returns g c = merge_refuses_none g.S.ByteSource.gave g.S.ByteSource.ended
