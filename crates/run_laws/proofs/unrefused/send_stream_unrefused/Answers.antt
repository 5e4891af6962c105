use Rattle.run_laws.proofs.NoStreamRefusals.{stream_not}
use Rattle.run_laws.proofs.unrefused.send_stream_unrefused.Goals as goal

pub returns : goal.returns
returns g c = stream_not g.S.ByteSource.gave g.S.ByteSource.ended
