use Rattle.std.proofs.Common.{ℕ, ◌+◌, ◌-◌, ◌*◌, ◌/◌, ◌%◌, length, get_or, arith}
use Rattle.frame_assembly.proofs.SettleSteps.{none_settled, part_pattern, settled_end}
use Rattle.frame_assembly.proofs.settling.settle_over_pattern.Goals as goal

pub loop-i-init : goal.loop-i-init
loop-i-init c =
    none_settled _ _ (λ (k : ℕ). get_or c.args.pattern.now (k % (c.args.of_group * 64)) 0) _

pub loop-i-preserved : goal.loop-i-preserved
loop-i-preserved c =
    c.settle_part.ensures (λ (k : ℕ). get_or c.args.pattern.now (k % (c.args.of_group * 64)) 0)
    c.args.samples.now
    (part_pattern c.args.of_group c.loop-i.i (64 * (c.loop-i.i + 1) - 64 * c.loop-i.i)
    c.args.pattern.now (omega arith))
    c.loop-i.invariant

pub returns : goal.returns
returns c =
    let many : ℕ = length c.args.marks.now in
    c.settle_part-2.ensures (λ (k : ℕ). get_or c.args.pattern.now (k % (c.args.of_group * 64)) 0)
    c.args.samples.now
    (part_pattern c.args.of_group (many / 64) (many - 64 * (many / 64)) c.args.pattern.now
    (omega arith))
    (settled_end c.args.of_group _ (64 * (many / 64)) _ _ _ _ (omega arith) c.loop-i.invariant)
