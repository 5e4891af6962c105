use Rattle.pgroup_pack.proofs.Marking.{Marked}
use Rattle.pgroup_pack.proofs.contests.mark_differing.Given as goal

-- the words so far are marked, and their bits gathered; the others are as they were
abbrev pub invariant-loop-i : goal.invariant-loop-i
invariant-loop-i l = Marked l.samples l.differ l.initial.marks l.i l.marks l.bits
