use Rattle.std.proofs.Common.{ℕ, get_or, ltb, w32, ◌+◌, ◌-◌, ◌*◌, ◌/◌, ◌%◌, ◌^◌, arith, rules, ap}
use Rattle.std.proofs.Common.{◌∙◌}
use Rattle.std.proofs.lemmas.Simd.{Each1-all, Each2-splat}
use Rattle.lane_kernels.proofs.Colour.{made, of_lanes}
use Rattle.lane_kernels.proofs.Stored.{HasLanes-given, HasLanes-map, HasLanes-splat, HasLanes-zip2}
use Rattle.lane_kernels.proofs.Stored.{HasLanes-select, HasLanes-same}
use Rattle.lane_kernels.proofs.matrix.colour_lanes.Goals as goal

pub nonzero_div-raised : goal.nonzero_div-raised
nonzero_div-raised c = Each2-splat _ _ 8 _ (Each1-all _ (λ x. search rules) _)

pub returns : goal.returns
returns c =
    let s = c.scale-s.result in
    let k = c.coefficients_of-of.result in
    let main = HasLanes-map (λ x. x) 8 (HasLanes-given 8 c.args.main c.fits-main.0) in
    let first = HasLanes-map (λ x. x) 8 (HasLanes-given 8 c.args.first c.fits-first.0) in
    let second = HasLanes-map (λ x. x) 8 (HasLanes-given 8 c.args.second c.fits-second.0) in
    let times = λ (x y : ℕ). x * y % 2 ^ 32 in
    let plus = λ (x y : ℕ). (x + y) % 2 ^ 32 in
    let minus = λ (x y : ℕ). (x + (2 ^ 32 - y)) % 2 ^ 32 in
    let up = HasLanes-zip2 times 8 main (HasLanes-splat 8 (112 * k.main)) in
    let down =
    HasLanes-zip2 plus 8 (HasLanes-zip2 times 8 first (HasLanes-splat 8 (112 * k.first)))
    (HasLanes-zip2 times 8 second (HasLanes-splat 8 (112 * k.second))) in
    let divisor = HasLanes-splat 8 k.divisor in
    let zero =
    HasLanes-zip2 plus 8 (HasLanes-splat 8 (k.divisor / 2))
    (HasLanes-zip2 times 8 (HasLanes-zip2 times 8 divisor (HasLanes-splat 8 131))
    (HasLanes-splat 8 s)) in
    let raised =
    HasLanes-zip2 (λ x y. x / y) 8
    (HasLanes-zip2 minus 8 (HasLanes-zip2 plus 8 up zero) down) divisor in
    let low = HasLanes-splat 8 (s + 3 * s) in
    let high = HasLanes-splat 8 (255 * s - 1 + 3 * s) in
    let above = HasLanes-select w32 ltb 8 raised low low raised in
    let within = HasLanes-select w32 ltb 8 above high above high in
    HasLanes-same 8 (HasLanes-zip2 minus 8 within (HasLanes-splat 8 (3 * s))) (λ i h.
    let x = get_or c.args.main i 0 in
    let y = get_or c.args.first i 0 in
    let z = get_or c.args.second i 0 in
    ap (λ k. made (2 ^ 32) k s x y z) c.coefficients_of-of.ensures
    ∙ of_lanes c.args.colour c.args.bits s x y z c.requires.depth.0 c.scale-s.ensures.value
    (c.requires.of_main i (omega (arith, c.fits-main.0)))
    (c.requires.of_first i (omega (arith, c.fits-first.0)))
    (c.requires.of_second i (omega (arith, c.fits-second.0))) c.requires.depth.1)
