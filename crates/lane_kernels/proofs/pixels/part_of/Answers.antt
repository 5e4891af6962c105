use Rattle.std.proofs.Common.{ℕ, ◌*◌, ◌/◌, ◌%◌, ◌^◌, get_or, arith, rules, ◌∙◌}
use Rattle.std.proofs.lemmas.Simd.{Each1-all, Each2-splat}
use Rattle.lane_kernels.proofs.Narrow.{part_same}
use Rattle.lane_kernels.proofs.Stored.{HasLanes-given, HasLanes-map, HasLanes-same, HasLanes-splat}
use Rattle.lane_kernels.proofs.Stored.{HasLanes-zip2, lane_below}
use Rattle.lane_kernels.proofs.pixels.part_of.Goals as goal

pub nonzero_div-v : goal.nonzero_div-v
nonzero_div-v c = Each2-splat _ _ 8 65536 (Each1-all _ (λ x. search rules) _)

pub narrowed-requires : goal.narrowed-requires
narrowed-requires c = λ k h.
    let times = λ (x y : ℕ). x * y % 2 ^ 32 in
    let v = HasLanes-map (λ x. x) 8 (HasLanes-given 8 c.args.v c.fits-v.0) in
    let product = HasLanes-zip2 times 8 v (HasLanes-splat 8 c.args.by) in
    let part = HasLanes-zip2 (λ x y. x / y) 8 product (HasLanes-splat 8 65536) in
    omega (arith, part.each k (omega (arith, part.long)))

pub returns : goal.returns
returns c =
    let times = λ (x y : ℕ). x * y % 2 ^ 32 in
    let v = HasLanes-map (λ x. x) 8 (HasLanes-given 8 c.args.v c.fits-v.0) in
    let product = HasLanes-zip2 times 8 v (HasLanes-splat 8 c.args.by) in
    let part = HasLanes-zip2 (λ x y. x / y) 8 product (HasLanes-splat 8 65536) in
    HasLanes-same 8 c.narrowed.ensures (λ k h.
    part.each k h
    ∙ part_same (get_or c.args.v k 0) c.args.by (lane_below 8 c.args.v c.fits-v k h)
    c.ranges.by.fits)
