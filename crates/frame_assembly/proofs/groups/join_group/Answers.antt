use Rattle.std.proofs.Common.{ap, ℕ, [], ◌∷◌, refl}
use Rattle.frame_assembly.proofs.PackedLemmas.{sizes}
use Rattle.frame_assembly.proofs.GroupJoins.{same_joined, only, left_joined, copy_joined}
use Rattle.frame_assembly.proofs.GroupJoins.{group_joined}
use Rattle.frame_assembly.proofs.groups.join_group.Goals as goal

pub returns-then-same_octets : goal.returns-then-same_octets
returns-then-same_octets c =
    same_joined _ _ _ _ _ _ _ c.requires.packed (ap (λ (m : ℕ). m ∷ []) c.if-mark-other_mark.true)
    (c.if-same_octets.ensures.0 refl)

pub returns-then-other_mark-lt-PRESENT : goal.returns-then-other_mark-lt-PRESENT
returns-then-other_mark-lt-PRESENT c =
    left_joined _ _ _ _ _ _ _
    (sizes c.args.format.now.sampling c.args.format.now.depth) c.requires.packed
    c.requires.other refl
    (only c.args.other_mark c.if-other_mark-lt-PRESENT.true)

pub returns-then-mark-lt-PRESENT : goal.returns-then-mark-lt-PRESENT
returns-then-mark-lt-PRESENT c =
    copy_joined _ _ _ _ _ _ _ _ _
    (sizes c.args.format.now.sampling c.args.format.now.depth) c.requires.packed
    c.requires.other refl
    (only c.args.mark c.if-mark-lt-PRESENT.true) refl c.copy_from_slice.ensures.after

pub returns : goal.returns
returns c =
    group_joined _ _ _ c.args.mark c.args.other_mark c.differing.result c.args.octets.now
    c.args.others.now c.blank.new.octets
    (sizes c.args.format.now.sampling c.args.format.now.depth) c.requires.packed c.requires.other
    c.if-mark-lt-PRESENT.false c.if-other_mark-lt-PRESENT.false c.differing.ensures
    c.blank.auto.octets c.blank.ensures
