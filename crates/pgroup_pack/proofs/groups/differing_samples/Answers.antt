use Rattle.std.proofs.Common.{◌+◌, sym, subst, arith}
use Rattle.pgroup_pack.proofs.GroupLemmas.{Differ, unlike_more, alike_more, all_differ}
use Rattle.pgroup_pack.proofs.groups.differing_samples.Goals as goal
use Rattle.pgroup_pack.proofs.groups.differing_samples.Goals.{then-left-i, else-left-i}

pub loop-i-preserved : goal.loop-i-preserved
loop-i-preserved c =
    elim c.if-left-i.branch [
      | then-left-i w ↦ unlike_more c.args.left.now c.args.right.now c.loop-i.i c.loop-i.word
          c.if-left-i.word (omega arith) c.loop-i.invariant w.if-left-i.true w.word-is
      | else-left-i w ↦ subst (Differ c.args.left.now c.args.right.now (c.loop-i.i + 1))
          (sym w.word-is)
          (alike_more c.args.left.now c.args.right.now c.loop-i.i c.loop-i.word c.loop-i.invariant
          w.if-left-i.false)
    ]

pub returns : goal.returns
returns c =
    λ k. all_differ c.args.left.now c.args.right.now c.loop-i.i c.loop-i.word c.requires.long
    (omega arith) c.loop-i.invariant k
