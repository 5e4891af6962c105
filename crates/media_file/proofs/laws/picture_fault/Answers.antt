use Rattle.media_file.proofs.PictureFaults.{picture_fails, picture_tells}
use Rattle.media_file.proofs.laws.picture_fault.Goals as goal

pub returns : goal.returns
returns c f octets bytes = (picture_fails f octets bytes, picture_tells f octets bytes)
