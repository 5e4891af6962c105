use Rattle.media_file.proofs.Seen.{picture_again}
use Rattle.media_file.proofs.laws.picture_read.Goals as goal

pub returns : goal.returns
returns c p is = picture_again p is
