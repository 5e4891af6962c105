use Rattle.media_file.proofs.Seen.{picture_once}
use Rattle.media_file.proofs.laws.one_picture.Goals as goal

pub returns : goal.returns
returns c p q a b e = picture_once p q a b e
