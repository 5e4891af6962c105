use Rattle.std.proofs.Common.{ℕ, ltb, w16, get_or, ◌+◌, ◌-◌, ◌*◌, ◌/◌, ◌%◌, ◌^◌, arith}
use Rattle.std.proofs.Common.{rules}
use Rattle.std.proofs.lemmas.Simd.{Each1-all, Each2-splat}
use Rattle.lane_kernels.proofs.Narrow.{some_left, zero_fits, left_fits, narrow_made, scale_few}
use Rattle.lane_kernels.proofs.Stored.{HasLanes-given, HasLanes-same, HasLanes-select}
use Rattle.lane_kernels.proofs.Stored.{HasLanes-splat, HasLanes-zip2}
use Rattle.lane_kernels.proofs.pixels.narrow_colour.Goals as goal

pub near_colour-near-requires : goal.near_colour-near-requires
near_colour-near-requires c = scale_few c.args.bits c.scale-s.result c.requires.depth.1 c.scale-s.ensures.value

pub overflow_add-left : goal.overflow_add-left
overflow_add-left c =
    left_fits c.args.colour c.narrow_numbers-of.result c.scale-s.result c.narrow_numbers-of.ensures
    (scale_few c.args.bits c.scale-s.result c.requires.depth.1 c.scale-s.ensures.value)

pub overflow_add-zero : goal.overflow_add-zero
overflow_add-zero c =
    zero_fits c.args.colour c.narrow_numbers-of.result c.scale-s.result c.narrow_numbers-of.ensures
    (scale_few c.args.bits c.scale-s.result c.requires.depth.1 c.scale-s.ensures.value)

pub nonzero_div-up : goal.nonzero_div-up
nonzero_div-up c =
    Each2-splat _ _ 8 _
    (Each1-all _ (λ x. some_left c.args.colour c.narrow_numbers-of.result c.narrow_numbers-of.ensures) _)

pub nonzero_div-exact : goal.nonzero_div-exact
nonzero_div-exact c = Each2-splat _ _ 8 32768 (Each1-all _ (λ x. search rules) _)

pub returns : goal.returns
returns c =
    let s = c.scale-s.result in
    let k = c.narrow_numbers-of.result in
    let times = λ (x y : ℕ). x * y % 2 ^ 16 in
    let plus = λ (x y : ℕ). (x + y) % 2 ^ 16 in
    let minus = λ (x y : ℕ). (x + (2 ^ 16 - y)) % 2 ^ 16 in
    let over = λ (x y : ℕ). x / y in
    let main = HasLanes-given 8 c.args.main c.fits-main.0 in
    let first = HasLanes-given 8 c.args.first c.fits-first.0 in
    let second = HasLanes-given 8 c.args.second c.fits-second.0 in
    let near = c.near_colour-near.ensures in
    let left =
    HasLanes-zip2 plus 8 (HasLanes-zip2 times 8 near (HasLanes-splat 8 k.left))
    (HasLanes-splat 8 (k.left_of_scale * s + k.left_zero)) in
    let up =
    HasLanes-zip2 plus 8
    (HasLanes-zip2 plus 8 (HasLanes-zip2 times 8 main (HasLanes-splat 8 k.main))
    (HasLanes-splat 8 ((k.zero + k.of_scale * s) % 65536)))
    (HasLanes-zip2 over 8 left (HasLanes-splat 8 k.left_divisor)) in
    let down =
    HasLanes-zip2 plus 8
    (HasLanes-zip2 plus 8 (HasLanes-zip2 times 8 first (HasLanes-splat 8 k.first))
    (HasLanes-zip2 times 8 second (HasLanes-splat 8 k.second)))
    (HasLanes-zip2 times 8 near (HasLanes-splat 8 k.whole)) in
    let far = HasLanes-zip2 over 8 (HasLanes-zip2 minus 8 up down) (HasLanes-splat 8 32768) in
    let exact = HasLanes-zip2 minus 8 near far in
    let low = HasLanes-splat 8 (s + 3 * s) in
    let high = HasLanes-splat 8 (255 * s - 1 + 3 * s) in
    let raised = HasLanes-select w16 ltb 8 exact low low exact in
    let within = HasLanes-select w16 ltb 8 raised high raised high in
    HasLanes-same 8 (HasLanes-zip2 minus 8 within (HasLanes-splat 8 (3 * s))) (λ i h.
    let x = get_or c.args.main i 0 in
    let y = get_or c.args.first i 0 in
    let z = get_or c.args.second i 0 in
    narrow_made c.args.colour k c.narrow_numbers-of.ensures c.args.bits s x y z c.requires.depth
    c.scale-s.ensures.value
    (c.requires.of_main i (omega (arith, c.fits-main.0)))
    (c.requires.of_first i (omega (arith, c.fits-first.0)))
    (c.requires.of_second i (omega (arith, c.fits-second.0))))
