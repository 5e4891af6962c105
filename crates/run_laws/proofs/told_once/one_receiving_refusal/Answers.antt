use Rattle.run_laws.proofs.OneReceiveRefusal.{one_of_received}
use Rattle.run_laws.proofs.told_once.one_receiving_refusal.Goals as goal

pub returns : goal.returns
returns g c = one_of_received g.S.ByteSource.gave g.S.ByteSource.ended
