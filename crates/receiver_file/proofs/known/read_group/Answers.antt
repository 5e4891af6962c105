use Rattle.receiver_file.specs.Known.{cells_known, shape_in}
use Rattle.receiver_file.proofs.TakenGroups.{gained_one}
use Rattle.receiver_file.proofs.known.read_group.Goals as goal

pub returns-clause-gained : goal.returns-clause-gained
returns-clause-gained g c =
    let s = shape_in c.args.format.now in
    gained_one s c.args.number
    (cells_known s c.in_ok-state.state c.read_known.new.octets) _ _ _ _ _ _
    c.in_ok-state.ensures.read c.in_ok-state.ensures.gave c.give_known.ensures.given
