use Rattle.path_receiver.proofs.Held.{held_same}
use Rattle.path_receiver.proofs.laws.holds_same.Goals as goal

pub returns : goal.returns
returns c = held_same
