use Rattle.following.proofs.Early.{none_lost}
use Rattle.following.proofs.laws.none_lost.Goals as goal

pub returns : goal.returns
returns c o size ahead acts is = none_lost o size ahead acts is.some
