use Rattle.run_laws.proofs.NoReceiveRefusals.{receiving_not}
use Rattle.run_laws.proofs.unrefused.receive_files_unrefused.Goals as goal

pub returns : goal.returns
returns g c =
    λ window source sdp ways files wanted shown printed old new r shows run.
    receiving_not g.S.ByteSource.gave g.S.ByteSource.ended window source wanted shown printed old
    new shows ways sdp files r run
