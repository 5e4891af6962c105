use Rattle.std.proofs.Common.{◌≡◌, ◌++◌, take, drop}
use Rattle.pgroup_pack.specs.Groups.{blanked_samples}
use Rattle.pgroup_pack.proofs.groups.blank_samples.Given as goal

-- the samples so far are blanked, and the others are as they were
abbrev pub invariant-loop-i : goal.invariant-loop-i
invariant-loop-i l =
    l.samples ≡ blanked_samples l.mask (take l.i l.initial.samples) ++ drop l.i l.initial.samples
