use Rattle.run_laws.proofs.Receiving.{files_received}
use Rattle.run_laws.proofs.laws.received_files.Goals as goal

pub returns : goal.returns
returns g c = files_received g.S.ByteSource.gave g.S.ByteSource.ended
