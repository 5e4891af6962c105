use Rattle.following.proofs.LostSince.{lost_one}
use Rattle.following.proofs.laws.lost_since.Goals as goal

pub returns : goal.returns
returns c = λ told since is. lost_one told since is
