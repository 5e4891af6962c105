use Rattle.std.proofs.Common.{refl}
use Rattle.frame_assembly.proofs.GroupJoins.{same_joined}
use Rattle.frame_assembly.proofs.groups.join_chunk.Goals as goal

pub returns-then-equal_octets : goal.returns-then-equal_octets
returns-then-equal_octets c =
    same_joined _ _ _ c.args.marks.now c.args.octets.now c.args.other_marks.now c.args.others.now
    c.requires.packed (c.if-equal_words.ensures refl) (c.if-equal_octets.ensures refl)
