use Rattle.interface_name.proofs.Names.{name_again}
use Rattle.interface_name.proofs.laws.name_read_again.Goals as goal

pub returns : goal.returns
returns c = name_again
