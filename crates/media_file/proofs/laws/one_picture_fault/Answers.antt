use Rattle.media_file.proofs.PictureFaults.{one_picture_fault}
use Rattle.media_file.proofs.laws.one_picture_fault.Goals as goal

pub returns : goal.returns
returns c f g octets bytes p q = one_picture_fault f g octets bytes p q
