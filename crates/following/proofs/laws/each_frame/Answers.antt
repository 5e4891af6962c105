use Rattle.following.proofs.Complete.{some_cells, some_samples}
use Rattle.following.proofs.Made.{of_some}
use Rattle.following.proofs.laws.each_frame.Goals as goal

pub returns-clause-some : goal.returns-clause-some
returns-clause-some c = of_some

pub returns-clause-cells : goal.returns-clause-cells
returns-clause-cells c = some_cells

pub returns-clause-complete : goal.returns-clause-complete
returns-clause-complete c = some_samples
