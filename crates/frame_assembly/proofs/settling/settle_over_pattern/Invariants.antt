use Rattle.std.proofs.Common.{◌*◌, ◌%◌, get_or}
use Rattle.frame_assembly.specs.Settled.{IsSettledTo}
use Rattle.frame_assembly.proofs.settling.settle_over_pattern.Given as goal

-- the blocks so far are settled
abbrev pub invariant-loop-i : goal.invariant-loop-i
invariant-loop-i l =
    IsSettledTo l.of_group (64 * l.i) l.marks
    (λ k. get_or l.pattern (k % (l.of_group * 64)) 0) l.initial.samples l.samples
