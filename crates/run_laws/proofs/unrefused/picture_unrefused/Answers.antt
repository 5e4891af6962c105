use Rattle.run_laws.proofs.NoPictureRefusals.{picture_not}
use Rattle.run_laws.proofs.unrefused.picture_unrefused.Goals as goal

pub returns : goal.returns
returns g c = picture_not g.S.ByteSource.gave g.S.ByteSource.ended
