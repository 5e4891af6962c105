use Rattle.interface_name.proofs.Names.{filled_is}
use Rattle.interface_name.proofs.name.filled.Goals as goal

pub returns : goal.returns
returns c =
    filled_is c.args.text.now c.copy_from_slice.new.self c.requires c.copy_from_slice.ensures.after
