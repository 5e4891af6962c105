use Rattle.std.proofs.Common.{ℕ, ltb, w16, get_or, ◌+◌, ◌-◌, ◌*◌, ◌/◌, ◌%◌, ◌^◌, arith, rules, ap}
use Rattle.std.proofs.Common.{sym, ◌∙◌}
use Rattle.std.specs.Prelude.{pos}
use Rattle.std.proofs.lemmas.Simd.{Each1-all, Each2-splat}
use Rattle.lane_kernels.specs.Formulas.{clip}
use Rattle.lane_kernels.proofs.Clipping.{chosen}
use Rattle.lane_kernels.proofs.Luma.{luma_natural}
use Rattle.lane_kernels.proofs.Narrow.{luma_made}
use Rattle.lane_kernels.proofs.Stored.{HasLanes-given, HasLanes-same, HasLanes-select}
use Rattle.lane_kernels.proofs.Stored.{HasLanes-splat, HasLanes-zip2}
use Rattle.lane_kernels.proofs.pixels.narrow_luma.Goals as goal

pub nonzero_div-near : goal.nonzero_div-near
nonzero_div-near c = Each2-splat _ _ 8 8 (Each1-all _ (λ x. search rules) _)

pub nonzero_div-exact : goal.nonzero_div-exact
nonzero_div-exact c = Each2-splat _ _ 8 32768 (Each1-all _ (λ x. search rules) _)

pub returns : goal.returns
returns c =
    let times = λ (x y : ℕ). x * y % 2 ^ 16 in
    let plus = λ (x y : ℕ). (x + y) % 2 ^ 16 in
    let minus = λ (x y : ℕ). (x + (2 ^ 16 - y)) % 2 ^ 16 in
    let over = λ (x y : ℕ). x / y in
    let red = HasLanes-given 8 c.args.red c.fits-red.0 in
    let green = HasLanes-given 8 c.args.green c.fits-green.0 in
    let blue = HasLanes-given 8 c.args.blue c.fits-blue.0 in
    let eight = HasLanes-splat 8 8 in
    let r = HasLanes-zip2 times 8 red eight in
    let g = HasLanes-zip2 times 8 green eight in
    let b = HasLanes-zip2 times 8 blue eight in
    let of_r = HasLanes-same 8 c.part_of.ensures (λ i h. ap (λ v. v * 13933 / 65536) (r.each i h)) in
    let of_g = HasLanes-same 8 c.part_of-2.ensures (λ i h. ap (λ v. v * 46871 / 65536) (g.each i h)) in
    let of_b = HasLanes-same 8 c.part_of-3.ensures (λ i h. ap (λ v. v * 4732 / 65536) (b.each i h)) in
    let parts = HasLanes-zip2 plus 8 (HasLanes-zip2 plus 8 of_r of_g) of_b in
    let near = HasLanes-zip2 over 8 (HasLanes-zip2 plus 8 parts eight) eight in
    let sum =
    HasLanes-zip2 plus 8
    (HasLanes-zip2 plus 8 (HasLanes-zip2 times 8 red (HasLanes-splat 8 1063))
    (HasLanes-zip2 times 8 green (HasLanes-splat 8 3576)))
    (HasLanes-zip2 times 8 blue (HasLanes-splat 8 361)) in
    let far =
    HasLanes-zip2 minus 8 (HasLanes-zip2 plus 8 sum (HasLanes-splat 8 2500))
    (HasLanes-zip2 times 8 near (HasLanes-splat 8 5000)) in
    let exact = HasLanes-zip2 minus 8 near (HasLanes-zip2 over 8 far (HasLanes-splat 8 32768)) in
    let low = HasLanes-splat 8 c.args.low in
    let high = HasLanes-splat 8 c.args.high in
    let raised = HasLanes-select w16 ltb 8 exact low low exact in
    HasLanes-same 8 (HasLanes-select w16 ltb 8 raised high raised high) (λ k h.
    chosen _ c.args.low c.args.high
    ∙ ap (λ x. clip c.args.low c.args.high (pos x))
    (luma_made (get_or c.args.red k 0) (get_or c.args.green k 0) (get_or c.args.blue k 0)
    (c.requires.of_red k (omega (arith, c.fits-red.0)))
    (c.requires.of_green k (omega (arith, c.fits-green.0)))
    (c.requires.of_blue k (omega (arith, c.fits-blue.0))))
    ∙ ap (clip c.args.low c.args.high) (sym (luma_natural _ _ _)))
