use Rattle.std.proofs.Common.{refl}
use Rattle.frame_assembly.proofs.PackedLemmas.{sizes}
use Rattle.frame_assembly.proofs.GroupJoins.{copy_joined, left_joined}
use Rattle.frame_assembly.proofs.groups.join_unlike.Goals as goal

pub returns-then-are_missing : goal.returns-then-are_missing
returns-then-are_missing c =
    copy_joined _ _ _ _ _ _ _ _ _
    (sizes c.args.format.now.sampling c.args.format.now.depth) c.requires.packed
    c.requires.other c.requires.alike
    (c.if-are_missing.ensures refl) c.copy_from_slice.ensures.after
    c.copy_from_slice-then-are_missing.ensures.after

pub returns-then-are_missing-2 : goal.returns-then-are_missing-2
returns-then-are_missing-2 c =
    left_joined _ _ _ _ _ _ _
    (sizes c.args.format.now.sampling c.args.format.now.depth) c.requires.packed
    c.requires.other c.requires.alike
    (c.if-are_missing-2.ensures refl)
