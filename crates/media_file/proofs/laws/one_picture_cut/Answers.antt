use Rattle.media_file.proofs.CutPictures.{picture_once}
use Rattle.media_file.proofs.laws.one_picture_cut.Goals as goal

pub returns : goal.returns
returns c octets a b = picture_once octets a b
