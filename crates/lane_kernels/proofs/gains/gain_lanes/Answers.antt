use Rattle.std.proofs.Common.{ℕ, get_or, ltb, w16, ◌+◌, ◌-◌, ◌*◌, ◌/◌, ◌%◌, ◌^◌, arith, rules}
use Rattle.std.proofs.Common.{◌≡◌, min, max, Fits, ◌∙◌}
use Rattle.std.proofs.lemmas.Simd.{Each1-all, Each1-get_or, Each2-splat}
use Rattle.lane_kernels.proofs.Clipping.{chosen, clip_above}
use Rattle.lane_kernels.specs.Formulas.{gain}
use Rattle.lane_kernels.proofs.Gaining.{gain_fits, gain_natural}
use Rattle.lane_kernels.proofs.Stored.{HasLanes-given, HasLanes-map, HasLanes-splat, HasLanes-zip2}
use Rattle.lane_kernels.proofs.Stored.{HasLanes-select, HasLanes-same}
use Rattle.lane_kernels.proofs.gains.gain_lanes.Goals as goal

pub nonzero_div-raised : goal.nonzero_div-raised
nonzero_div-raised c = Each2-splat _ _ 8 4096 (Each1-all _ (λ x. search rules) _)

pub above-requires-clause-of_v : goal.above-requires-clause-of_v
above-requires-clause-of_v c = λ k h.
    let x = HasLanes-map (λ x. x) 8 (HasLanes-given 8 c.args.x c.fits-x.0) in
    let zero = HasLanes-map (λ x. x) 8 (HasLanes-given 8 c.args.zeros c.fits-zeros.0) in
    let times = λ (x y : ℕ). x * y % 2 ^ 32 in
    let plus = λ (x y : ℕ). (x + y) % 2 ^ 32 in
    let turned =
    HasLanes-zip2 plus 8 (HasLanes-zip2 times 8 zero (HasLanes-splat 8 (16384 - c.args.g)))
    (HasLanes-splat 8 2048) in
    let sum = HasLanes-zip2 plus 8 (HasLanes-zip2 times 8 x (HasLanes-splat 8 c.args.g)) turned in
    let raised = HasLanes-zip2 (λ x y. x / y) 8 sum (HasLanes-splat 8 4096) in
    omega (arith, raised.each k (omega (arith, raised.long)))

pub above-requires-clause-of_other : goal.above-requires-clause-of_other
above-requires-clause-of_other c = λ k h.
    let zero = HasLanes-map (λ x. x) 8 (HasLanes-given 8 c.args.zeros c.fits-zeros.0) in
    let times = λ (x y : ℕ). x * y % 2 ^ 32 in
    let thrice = HasLanes-zip2 times 8 zero (HasLanes-splat 8 3) in
    let f = Each1-get_or (Fits w16) c.args.zeros k 0 (omega (arith, c.fits-zeros.0, thrice.long))
    c.fits-zeros.1 in
    omega (arith, thrice.each k (omega (arith, thrice.long)), f.fits)

pub returns : goal.returns
returns c =
    let x = HasLanes-map (λ x. x) 8 (HasLanes-given 8 c.args.x c.fits-x.0) in
    let zero = HasLanes-map (λ x. x) 8 (HasLanes-given 8 c.args.zeros c.fits-zeros.0) in
    let times = λ (x y : ℕ). x * y % 2 ^ 32 in
    let plus = λ (x y : ℕ). (x + y) % 2 ^ 32 in
    let turned =
    HasLanes-zip2 plus 8 (HasLanes-zip2 times 8 zero (HasLanes-splat 8 (16384 - c.args.g)))
    (HasLanes-splat 8 2048) in
    let sum = HasLanes-zip2 plus 8 (HasLanes-zip2 times 8 x (HasLanes-splat 8 c.args.g)) turned in
    let raised = HasLanes-zip2 (λ x y. x / y) 8 sum (HasLanes-splat 8 4096) in
    let thrice = HasLanes-zip2 times 8 zero (HasLanes-splat 8 3) in
    let low = HasLanes-splat 8 c.args.low in
    let high = HasLanes-splat 8 c.args.high in
    let above = HasLanes-select w16 ltb 8 c.above.ensures low low c.above.ensures in
    let within = HasLanes-select w16 ltb 8 above high above high in
    HasLanes-same 8 within (λ k h.
    let v : ℕ = get_or c.args.x k 0 in
    let z : ℕ = get_or c.args.zeros k 0 in
    let f = Each1-get_or (Fits w16) c.args.x k 0 (omega (arith, c.fits-x.0)) c.fits-x.1 in
    let e = Each1-get_or (Fits w16) c.args.zeros k 0 (omega (arith, c.fits-zeros.0))
    c.fits-zeros.1 in
    let q = raised.each k h ∙ gain_fits z c.args.g v c.requires.of_g e.fits f.fits in
    let three : z * 3 % 2 ^ 32 ≡ 3 * z = omega (arith, e.fits) in
    let thrice_is = thrice.each k h ∙ three in
    chosen _ c.args.low c.args.high
    ∙ (λ i. min c.args.high (max c.args.low (min 65535 (q i - thrice_is i))))
    ∙ clip_above c.args.low c.args.high (3 * z) _ (gain z c.args.g v) c.requires.range
    (omega arith) (gain_natural z c.args.g v c.requires.of_g))
