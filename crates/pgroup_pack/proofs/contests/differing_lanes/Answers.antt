use Rattle.pgroup_pack.proofs.Marking.{lanes_differ, lanes_most}
use Rattle.pgroup_pack.proofs.contests.differing_lanes.Goals as goal

pub returns-clause-bits : goal.returns-clause-bits
returns-clause-bits c =
    lanes_differ c.args.left.now c.args.right.now c.requires.left c.requires.right

pub returns-clause-most : goal.returns-clause-most
returns-clause-most c = lanes_most c.args.left.now c.args.right.now c.requires.left c.requires.right
