use Rattle.pgroup_pack.proofs.Marking.{blank_inside, blank_before, blank_behind}
use Rattle.pgroup_pack.proofs.contests.blank_lanes.Goals as goal

pub returns-clause-inside : goal.returns-clause-inside
returns-clause-inside c = blank_inside c.args.bits c.args.at c.args.samples.now c.requires

pub returns-clause-before : goal.returns-clause-before
returns-clause-before c = blank_before c.args.bits c.args.at c.args.samples.now

pub returns-clause-behind : goal.returns-clause-behind
returns-clause-behind c = blank_behind c.args.bits c.args.at c.args.samples.now c.requires
