use Rattle.std.proofs.Common.{ℕ, get_or, refl}
use Rattle.frame_assembly.proofs.SettleSteps.{missing_settled, whole_settled}
use Rattle.frame_assembly.proofs.settling.settle_block.Goals as goal

pub returns-then-are_whole : goal.returns-then-are_whole
returns-then-are_whole c =
    whole_settled c.args.of_group c.args.marks.now
    (λ (k : ℕ). get_or c.args.base.now k 0) c.args.samples.now c.requires.few
    (c.if-are_whole.ensures.0 refl)

pub returns-then-are_missing : goal.returns-then-are_missing
returns-then-are_missing c =
    missing_settled c.args.of_group c.args.marks.now c.args.base.now c.args.samples.now _
    (c.if-are_missing.ensures refl) c.requires.samples c.requires.base
    c.copy_from_slice.ensures.after
