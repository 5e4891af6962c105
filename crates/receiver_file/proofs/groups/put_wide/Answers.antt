use Rattle.receiver_file.proofs.Placed.{wide_put}
use Rattle.receiver_file.proofs.groups.put_wide.Goals as goal

pub returns-clause-put : goal.returns-clause-put
returns-clause-put c =
    wide_put c.args.at c.args.size c.args.room.now c.args.octets.now c.requires.room
    c.requires.octets c.requires.few
