use Rattle.std.proofs.Common.{◌*◌}
use Rattle.st_format.specs.Pgroup.{bits_of, pixel_group}
use Rattle.frame_assembly.proofs.Runs.{JoinedTo}
use Rattle.frame_assembly.proofs.groups.join_run.Given as goal

-- the blocks so far are joined, and the others are as they were
abbrev pub invariant-loop-i : goal.invariant-loop-i
invariant-loop-i l =
    JoinedTo (bits_of l.format.depth) (pixel_group l.format.sampling l.format.depth).octets
    (pixel_group l.format.sampling l.format.depth).samples (128 * l.i)
    l.initial.marks l.initial.octets l.other_marks l.others l.marks l.octets
