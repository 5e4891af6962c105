use Rattle.following.proofs.Pictures.{sender_pictures}
use Rattle.following.proofs.laws.sender_pictures.Goals as goal

pub returns : goal.returns
returns c o size ahead s ps ds is = sender_pictures o size ahead s ps ds is.some
