use Rattle.std.proofs.Common.{ℕ, ◌+◌, ◌*◌, ◌/◌, length, get_or, refl, arith}
use Rattle.frame_assembly.proofs.SettleSteps.{none_settled, settled_end, within}
use Rattle.frame_assembly.proofs.settling.settle_over_held.Goals as goal

pub loop-i-init : goal.loop-i-init
loop-i-init c = none_settled _ _ (λ (k : ℕ). get_or c.args.held.now k 0) _

pub settle_part-requires-clause-base : goal.settle_part-requires-clause-base
settle_part-requires-clause-base c =
    within c.args.of_group (64 * c.loop-i.i) (64 * (c.loop-i.i + 1)) (length c.args.marks.now)
    (length c.args.held.now) c.requires.held (omega arith) (omega arith)

pub loop-i-preserved : goal.loop-i-preserved
loop-i-preserved c =
    c.settle_part.ensures (λ (k : ℕ). get_or c.args.held.now k 0) c.args.samples.now (λ j lt. refl)
    c.loop-i.invariant

pub settle_part-requires-2-clause-base : goal.settle_part-requires-2-clause-base
settle_part-requires-2-clause-base c =
    within c.args.of_group (64 * (length c.args.marks.now / 64)) (length c.args.marks.now)
    (length c.args.marks.now) (length c.args.held.now) c.requires.held (omega arith) (omega arith)

pub returns : goal.returns
returns c =
    c.settle_part-2.ensures (λ (k : ℕ). get_or c.args.held.now k 0) c.args.samples.now
    (λ j lt. refl)
    (settled_end c.args.of_group _ (64 * (length c.args.marks.now / 64)) _ _ _ _
    (omega arith) c.loop-i.invariant)
