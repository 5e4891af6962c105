use Rattle.run_laws.proofs.Receiving.{run_received}
use Rattle.run_laws.proofs.laws.received_file.Goals as goal

pub returns : goal.returns
returns g c = run_received g.S.ByteSource.gave g.S.ByteSource.ended
