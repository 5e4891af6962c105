use Rattle.path_receiver.proofs.Held.{cell_is, missing_is}
use Rattle.path_receiver.proofs.laws.each_cell.Goals as goal

pub returns-clause-is : goal.returns-clause-is
returns-clause-is c = cell_is

pub returns-clause-missing : goal.returns-clause-missing
returns-clause-missing c = missing_is
