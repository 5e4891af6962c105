use Rattle.run_laws.proofs.NoReceiveRefusals.{receive_not}
use Rattle.run_laws.proofs.unrefused.receive_unrefused.Goals as goal

pub returns : goal.returns
returns g c =
    λ window source sdp captures wanted shown printed old new r shows run.
    receive_not g.S.ByteSource.gave g.S.ByteSource.ended window source wanted shown printed old new
    shows sdp captures r run
