use Rattle.run_laws.proofs.NoTextFault.{sdp_not}
use Rattle.run_laws.proofs.unrefused.sdp_unrefused.Goals as goal

pub returns : goal.returns
returns g c = sdp_not g.S.ByteSource.gave g.S.ByteSource.ended
