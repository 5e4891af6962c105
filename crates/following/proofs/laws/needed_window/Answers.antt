use Rattle.following.proofs.Needed.{needed_orderly}
use Rattle.following.proofs.laws.needed_window.Goals as goal

pub returns : goal.returns
returns c = needed_orderly
