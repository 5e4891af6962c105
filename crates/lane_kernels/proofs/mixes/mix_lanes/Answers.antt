use Rattle.std.proofs.Common.{ℕ, ◌<◌, get_or, ◌+◌, ◌-◌, ◌*◌, ◌/◌, ◌%◌, ◌^◌, arith, rules}
use Rattle.std.proofs.lemmas.Simd.{Each1-all, Each2-splat}
use Rattle.lane_kernels.proofs.Mixing.{wipe_fits, wipe_most}
use Rattle.lane_kernels.proofs.Stored.{HasLanes-given, HasLanes-map, HasLanes-splat, HasLanes-zip2}
use Rattle.lane_kernels.proofs.Stored.{HasLanes-same, lane_below}
use Rattle.lane_kernels.proofs.mixes.mix_lanes.Goals as goal

pub nonzero_div-result : goal.nonzero_div-result
nonzero_div-result c = Each2-splat _ _ 8 256 (Each1-all _ (λ x. search rules) _)

pub returns-clause-value : goal.returns-clause-value
returns-clause-value c =
    let x = HasLanes-map (λ x. x) 8 (HasLanes-given 8 c.args.x c.fits-x.0) in
    let y = HasLanes-map (λ x. x) 8 (HasLanes-given 8 c.args.y c.fits-y.0) in
    let w = HasLanes-map (λ x. x) 8 (HasLanes-given 8 c.args.w c.fits-w.0) in
    let times = λ (x y : ℕ). x * y % 2 ^ 32 in
    let plus = λ (x y : ℕ). (x + y) % 2 ^ 32 in
    let minus = λ (x y : ℕ). (x + (2 ^ 32 - y)) % 2 ^ 32 in
    let sum =
    HasLanes-zip2 plus 8
    (HasLanes-zip2 times 8 x (HasLanes-zip2 minus 8 (HasLanes-splat 8 256) w))
    (HasLanes-zip2 times 8 y w) in
    let mixed =
    HasLanes-zip2 (λ x y. x / y) 8 (HasLanes-zip2 plus 8 sum (HasLanes-splat 8 128))
    (HasLanes-splat 8 256) in
    HasLanes-same 8 mixed (λ k h.
    wipe_fits (get_or c.args.x k 0) (get_or c.args.y k 0) (get_or c.args.w k 0)
    (c.requires k (omega (arith, c.fits-w.0))) (lane_below 8 c.args.x c.fits-x k h)
    (lane_below 8 c.args.y c.fits-y k h))

pub returns-clause-fit : goal.returns-clause-fit
returns-clause-fit c = λ k h.
    let at : k < 8 = omega (arith, c.fits-x.0) in
    wipe_most (get_or c.args.x k 0) (get_or c.args.y k 0) (get_or c.args.w k 0)
    (c.requires k (omega (arith, c.fits-w.0, at))) (lane_below 8 c.args.x c.fits-x k at)
    (lane_below 8 c.args.y c.fits-y k at)
