use Rattle.std.proofs.Common.{◌≡◌, ℕ, ◌<◌, ◌≤◌, get_or}
use Rattle.frame_assembly.specs.Packed.{marked}
use Rattle.frame_assembly.specs.Settled.{settled_cell}
use Rattle.frame_assembly.proofs.settling.settle_group.Given as goal

-- the samples so far are settled, and the others are as they were
abbrev pub invariant-loop-i : goal.invariant-loop-i
invariant-loop-i l =
    ((k : ℕ) → k < l.i
    → get_or l.samples k 0
    ≡ settled_cell (marked l.mark k (get_or l.initial.samples k 0)) (get_or l.base k 0))
    × ((k : ℕ) → l.i ≤ k → get_or l.samples k 0 ≡ get_or l.initial.samples k 0)
