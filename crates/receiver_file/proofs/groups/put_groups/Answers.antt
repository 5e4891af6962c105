use Rattle.std.proofs.Common.{arith}
use Rattle.receiver_file.proofs.Placed.{groups_first, rest_sized}
use Rattle.receiver_file.proofs.groups.put_groups.Goals as goal

pub put_more-count-requires-clause-octets : goal.put_more-count-requires-clause-octets
put_more-count-requires-clause-octets c =
    rest_sized c.args.size c.args.marks.now c.args.octets.now c.requires.some c.requires.octets

pub returns-clause-put : goal.returns-clause-put
returns-clause-put c =
    groups_first c.args.size c.put_more-count.result.0 _ c.args.marks.now c.args.octets.now _ _ _
    c.requires.some (omega arith) c.put_group-first.ensures.put c.put_more-count.ensures.put
