use Rattle.std.proofs.Common.{◌≡◌, ℕ, ◌<◌, List, length, get_or, ltb, w16, w32, ◌+◌, ◌*◌, ◌/◌, ◌%◌}
use Rattle.std.proofs.Common.{◌^◌, arith, rules, Fits, ◌∙◌, ap, sym}
use Rattle.std.specs.Prelude.{pos}
use Rattle.lane_kernels.specs.Formulas.{clip}
use Rattle.std.proofs.lemmas.Simd.{Each1-all, Each1-get_or, Each2-splat}
use lib.Lanes.{Each1}
use Rattle.lane_kernels.proofs.Clipping.{chosen}
use Rattle.lane_kernels.proofs.Luma.{luma_fits, luma_natural}
use Rattle.lane_kernels.proofs.Stored.{HasLanes-given, HasLanes-map, HasLanes-splat, HasLanes-zip2}
use Rattle.lane_kernels.proofs.Stored.{HasLanes-select, HasLanes-same}
use Rattle.lane_kernels.proofs.matrix.luma_lanes.Goals as goal

pub nonzero_div-rounded : goal.nonzero_div-rounded
nonzero_div-rounded c = Each2-splat _ _ 8 5000 (Each1-all _ (λ x. search rules) _)

below : (v : List ℕ) → (length v ≡ 8) × Each1 (Fits w16) v → (k : ℕ) → k < 8 → get_or v k 0 < 65536
below v fits k h = let f = Each1-get_or (Fits w16) v k 0 (omega (arith, fits.0)) fits.1 in f.fits

pub returns : goal.returns
returns c =
    let red = HasLanes-map (λ x. x) 8 (HasLanes-given 8 c.args.red c.fits-red.0) in
    let green = HasLanes-map (λ x. x) 8 (HasLanes-given 8 c.args.green c.fits-green.0) in
    let blue = HasLanes-map (λ x. x) 8 (HasLanes-given 8 c.args.blue c.fits-blue.0) in
    let times = λ (x y : ℕ). x * y % 2 ^ 32 in
    let plus = λ (x y : ℕ). (x + y) % 2 ^ 32 in
    let sum =
    HasLanes-zip2 plus 8
    (HasLanes-zip2 plus 8 (HasLanes-zip2 times 8 red (HasLanes-splat 8 1063))
    (HasLanes-zip2 times 8 green (HasLanes-splat 8 3576)))
    (HasLanes-zip2 times 8 blue (HasLanes-splat 8 361)) in
    let rounded =
    HasLanes-zip2 (λ x y. x / y) 8 (HasLanes-zip2 plus 8 sum (HasLanes-splat 8 2500))
    (HasLanes-splat 8 5000) in
    let low = HasLanes-splat 8 c.args.low in
    let high = HasLanes-splat 8 c.args.high in
    let raised = HasLanes-select w32 ltb 8 rounded low low rounded in
    HasLanes-same 8 (HasLanes-select w32 ltb 8 raised high raised high) (λ k h.
    chosen _ c.args.low c.args.high
    ∙ ap (λ x. clip c.args.low c.args.high (pos x))
    (luma_fits _ _ _ (below c.args.red c.fits-red k h) (below c.args.green c.fits-green k h)
    (below c.args.blue c.fits-blue k h))
    ∙ ap (clip c.args.low c.args.high) (sym (luma_natural _ _ _)))
