use Rattle.run_laws.proofs.NoSendRefusals.{typed_not}
use Rattle.run_laws.proofs.unrefused.send_typed_unrefused.Goals as goal

pub returns : goal.returns
returns g c = typed_not g.S.ByteSource.gave g.S.ByteSource.ended
