use Rattle.run_laws.proofs.NoRefusals.{loop_refuses_none}
use Rattle.run_laws.proofs.unrefused.loop_unrefused.Goals as goal

pub returns : goal.returns
returns g c = loop_refuses_none g.S.ByteSource.gave g.S.ByteSource.ended
