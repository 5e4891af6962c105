use Rattle.std.proofs.Common.{arith}
use Rattle.pgroup_pack.proofs.GroupLemmas.{blank_more}
use Rattle.pgroup_pack.proofs.groups.blank_samples.Goals as goal

pub loop-i-preserved : goal.loop-i-preserved
loop-i-preserved c =
    blank_more c.args.mask c.loop-i.i _ c.args.samples.now c.loop-i.samples
    (omega arith) c.loop-i.invariant c.kept_sample.ensures
