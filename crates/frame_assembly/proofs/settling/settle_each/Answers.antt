use Rattle.std.proofs.Common.{ℕ, ◌+◌, ◌-◌, ◌*◌, ◌≤◌, List, [], ◌∷◌, length, get_or, take, drop}
use Rattle.std.proofs.Common.{refl, ◌∙◌, arith}
use Rattle.frame_assembly.proofs.Runs.{part_between}
use Rattle.frame_assembly.proofs.SettleSteps.{none_settled, part_settled, part_held, part_long}
use Rattle.frame_assembly.proofs.SettleSteps.{one_mark, group_settled, settled_end}
use Rattle.frame_assembly.proofs.settling.settle_each.Goals as goal

pub loop-i-init : goal.loop-i-init
loop-i-init c = none_settled _ _ (λ (k : ℕ). get_or c.args.base.now k 0) _

pub loop-i-preserved : goal.loop-i-preserved
loop-i-preserved c =
    let s : ℕ = c.args.of_group in
    let i : ℕ = c.loop-i.i in
    let mark : ℕ = get_or c.args.marks.now i 0 in
    let here = part_between s s i 1 (i + 1) refl refl in
    let base : List ℕ = take (s * (i + 1) - s * i) (drop (s * i) c.args.base.now) in
    let now : List ℕ = take (s * (i + 1) - s * i) (drop (s * i) c.loop-i.samples) in
    let below : i + 1 ≤ length c.args.marks.now = omega arith in
    let long =
    part_long s i 1 i ((i + 1) - i) (s * i) (s * (i + 1) - s * i)
    (length c.args.marks.now) c.loop-i.samples here below
    (c.loop-i.invariant.long ∙ c.requires.samples) in
    part_settled s i 1 (i + 1) i ((i + 1) - i) (s * i) (s * (i + 1) - s * i) c.args.marks.now
    (mark ∷ []) (λ (k : ℕ). get_or c.args.base.now k 0) (λ (k : ℕ). get_or base k 0)
    c.args.samples.now c.loop-i.samples c.settle_group.new.samples here refl below
    c.requires.samples (one_mark i mark c.args.marks.now refl)
    (part_held s i 1 i ((i + 1) - i) (s * i)
    (s * (i + 1) - s * i) c.args.base.now here) c.loop-i.invariant
    (group_settled s mark base now c.settle_group.new.samples
    (long ∙ omega arith) c.settle_group.auto.samples c.settle_group.ensures)

pub returns : goal.returns
returns c =
    settled_end c.args.of_group c.loop-i.i (length c.args.marks.now) c.args.marks.now
    (λ (k : ℕ). get_or c.args.base.now k 0) c.args.samples.now c.loop-i.samples
    (omega arith) c.loop-i.invariant
