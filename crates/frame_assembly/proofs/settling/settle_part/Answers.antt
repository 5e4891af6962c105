use Rattle.std.proofs.Common.{ℕ, ◌+◌, ◌-◌, ◌*◌, ◌≤◌, length, get_or, take, drop, refl, sym, ap}
use Rattle.std.proofs.Common.{◌∙◌, arith}
use Rattle.frame_assembly.proofs.Runs.{part_between}
use Rattle.frame_assembly.proofs.SettleSteps.{get_or-part, part_settled, part_marks, part_count}
use Rattle.frame_assembly.proofs.SettleSteps.{part_agrees, settled_end}
use Rattle.frame_assembly.proofs.settling.settle_part.Goals as goal

pub settle_block-requires-clause-samples : goal.settle_block-requires-clause-samples
settle_block-requires-clause-samples c =
    let s : ℕ = c.args.of_group in
    let from : ℕ = c.args.from in
    let to : ℕ = c.args.to in
    part_agrees s from (to - from) from (to - from) (s * from)
    (s * to - s * from) c.args.marks.now c.args.samples.now
    (part_between s s from (to - from) to refl (omega arith)) (omega arith) c.requires.samples

pub settle_block-requires-clause-base : goal.settle_block-requires-clause-base
settle_block-requires-clause-base c =
    let s : ℕ = c.args.of_group in
    let from : ℕ = c.args.from in
    let to : ℕ = c.args.to in
    let many =
    ap (λ (k : ℕ). s * k)
    (part_count s from (to - from) from (to - from) (s * from) (s * to - s * from) c.args.marks.now
    (part_between s s from (to - from) to refl (omega arith)) (omega arith)) in
    omega (arith, many)

pub returns : goal.returns
returns c = λ values first base_is so_far.
    let s : ℕ = c.args.of_group in
    let from : ℕ = c.args.from in
    let to : ℕ = c.args.to in
    let count : ℕ = to - from in
    let at : ℕ = s * c.args.base_from in
    let room : ℕ = length c.args.base.now - at in
    let here = part_between s s from count to refl (omega arith) in
    let inside : from + count ≤ length c.args.marks.now = omega arith in
    part_settled s from count to from count (s * from) (s * to - s * from) c.args.marks.now
    (take count (drop from c.args.marks.now)) values
    (λ (k : ℕ). get_or (take room (drop at c.args.base.now)) k 0)
    first c.args.samples.now c.settle_block.new.samples here
    (omega arith) inside (sym so_far.long ∙ c.requires.samples)
    (part_marks s from count from count (s * from) (s * to - s * from) c.args.marks.now here)
    (λ j lt. get_or-part at room j c.args.base.now (omega (arith, c.requires.base, lt))
    ∙ base_is j lt) so_far
    (settled_end s _ count _ _ _ _
    (part_count s from count from count (s * from)
    (s * to - s * from) c.args.marks.now here inside) c.settle_block.ensures)
