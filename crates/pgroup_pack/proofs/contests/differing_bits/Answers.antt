use Rattle.std.proofs.Common.{◌≡◌, ◌∙◌, ◌+◌, ◌-◌, ◌<◌, ℕ, length, ap, arith}
use Rattle.pgroup_pack.specs.Groups.{differs_at}
use Rattle.pgroup_pack.proofs.Marking.{part_differs, three_words}
use Rattle.pgroup_pack.proofs.contests.differing_bits.Goals as goal

pub returns : goal.returns
returns c =
    let left = c.args.left.now in
    let right = c.args.right.now in
    three_words (differs_at left right) c.differing_lanes-first.result
    c.differing_lanes-second.result c.differing_lanes-third.result
    c.differing_lanes-first.ensures.most c.differing_lanes-second.ensures.most
    (λ (k : ℕ) (lt : k < 16). let e : 0 + k ≡ k =
    omega arith in c.differing_lanes-first.ensures.bits k lt
    ∙ part_differs left right 0 16 16 k lt lt ∙ ap (differs_at left right) e)
    (λ (k : ℕ) (lt : k < 16). c.differing_lanes-second.ensures.bits k lt
    ∙ part_differs left right 16 16 16 k lt lt)
    (λ (k : ℕ) (lt : k < 16). c.differing_lanes-third.ensures.bits k lt
    ∙ part_differs left right 32 (length left - 32) (length right - 32) k (omega arith)
    (omega arith))
