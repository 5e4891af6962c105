use Rattle.std.proofs.Common.{refl, arith}
use Rattle.pgroup_pack.proofs.Marking.{marked_more}
use Rattle.pgroup_pack.proofs.contests.mark_differing.Goals as goal

pub loop-i-preserved : goal.loop-i-preserved
loop-i-preserved c =
    marked_more c.args.samples c.args.differ c.args.marks.now c.loop-i.i c.loop-i.marks
    c.loop-i.bits _ c.requires.most c.requires.few (omega arith) c.loop-i.invariant refl
