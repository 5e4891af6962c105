use Rattle.side_by_side.proofs.Oldest.{none_at_once, oldest}
use Rattle.side_by_side.proofs.laws.first_is_oldest.Goals as goal

pub returns-clause-oldest : goal.returns-clause-oldest
returns-clause-oldest c = oldest

pub returns-clause-none_at_once : goal.returns-clause-none_at_once
returns-clause-none_at_once c = none_at_once
