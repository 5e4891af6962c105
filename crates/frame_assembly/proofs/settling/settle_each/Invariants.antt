use Rattle.std.proofs.Common.{get_or}
use Rattle.frame_assembly.specs.Settled.{IsSettledTo}
use Rattle.frame_assembly.proofs.settling.settle_each.Given as goal

-- the groups so far are settled
abbrev pub invariant-loop-i : goal.invariant-loop-i
invariant-loop-i l =
    IsSettledTo l.of_group l.i l.marks (λ k. get_or l.base k 0) l.initial.samples l.samples
