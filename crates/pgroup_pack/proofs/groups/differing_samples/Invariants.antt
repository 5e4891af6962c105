use Rattle.pgroup_pack.proofs.GroupLemmas.{Differ}
use Rattle.pgroup_pack.proofs.groups.differing_samples.Given as goal

-- the bits so far say what differs, and none behind them is set
abbrev pub invariant-loop-i : goal.invariant-loop-i
invariant-loop-i l = Differ l.left l.right l.i l.word
