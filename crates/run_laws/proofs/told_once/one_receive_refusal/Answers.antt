use Rattle.run_laws.proofs.OneReceiveRefusal.{one_refusal}
use Rattle.run_laws.proofs.told_once.one_receive_refusal.Goals as goal

pub returns : goal.returns
returns g c = one_refusal g.S.ByteSource.gave g.S.ByteSource.ended
