use Rattle.path_receiver.proofs.Held.{cells_of_sender, none_contested, values_of_sender}
use Rattle.path_receiver.proofs.laws.sender_cells.Goals as goal

pub returns-clause-cells : goal.returns-clause-cells
returns-clause-cells c = cells_of_sender

pub returns-clause-none_contested : goal.returns-clause-none_contested
returns-clause-none_contested c = none_contested

pub returns-clause-values : goal.returns-clause-values
returns-clause-values c = values_of_sender
