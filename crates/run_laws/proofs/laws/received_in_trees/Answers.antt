use Rattle.run_laws.proofs.Merging.{in_trees}
use Rattle.run_laws.proofs.laws.received_in_trees.Goals as goal

pub returns : goal.returns
returns c = in_trees
