use Rattle.interface_name.proofs.Names.{name_once, text_once}
use Rattle.interface_name.proofs.laws.one_name.Goals as goal

pub returns : goal.returns
returns c = record { name = name_once; text = text_once }
