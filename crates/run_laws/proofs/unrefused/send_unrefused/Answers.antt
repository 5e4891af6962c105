use Rattle.run_laws.proofs.NoSendRefusals.{send_not}
use Rattle.run_laws.proofs.unrefused.send_unrefused.Goals as goal

pub returns : goal.returns
returns g c = send_not g.S.ByteSource.gave g.S.ByteSource.ended
