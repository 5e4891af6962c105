use Rattle.std.proofs.Common.{refl}
use Rattle.frame_assembly.proofs.PackedLemmas.{sizes}
use Rattle.frame_assembly.proofs.GroupJoins.{same_joined, copy_joined}
use Rattle.frame_assembly.proofs.groups.join_block.Goals as goal

pub returns-then-are_same : goal.returns-then-are_same
returns-then-are_same c =
    same_joined _ _ _ c.args.marks.now c.args.octets.now c.args.other_marks.now c.args.others.now
    c.requires.packed (c.if-are_same.ensures.marks refl) (c.if-are_same.ensures.octets refl)

pub returns-then-are_missing : goal.returns-then-are_missing
returns-then-are_missing c =
    copy_joined _ _ _ _ _ _ _ _ _
    (sizes c.args.format.now.sampling c.args.format.now.depth) c.requires.packed
    c.requires.other c.requires.alike
    (c.if-are_missing.ensures refl) c.copy_from_slice.ensures.after
    c.copy_from_slice-then-are_missing.ensures.after
