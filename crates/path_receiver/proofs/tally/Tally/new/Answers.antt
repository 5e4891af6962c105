use Rattle.std.proofs.Common.{refl, rules}
use Rattle.path_receiver.proofs.Tallies.{tallies_none}
use Rattle.path_receiver.proofs.tally.Tally.new.Goals as goal

pub returns : goal.returns
returns c = tallies_none _ refl (search rules) refl refl
