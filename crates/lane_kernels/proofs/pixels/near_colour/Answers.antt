use Rattle.std.proofs.Common.{ℕ, ◌+◌, ◌-◌, ◌*◌, ◌/◌, ◌%◌, ◌^◌, rules, ap}
use Rattle.std.proofs.lemmas.Simd.{Each1-all, Each2-splat}
use Rattle.lane_kernels.proofs.Stored.{HasLanes-given, HasLanes-same, HasLanes-splat, HasLanes-zip2}
use Rattle.lane_kernels.proofs.pixels.near_colour.Goals as goal

pub nonzero_div-result : goal.nonzero_div-result
nonzero_div-result c = Each2-splat _ _ 8 8 (Each1-all _ (λ x. search rules) _)

pub returns : goal.returns
returns c =
    let k = c.args.of in
    let times = λ (x y : ℕ). x * y % 2 ^ 16 in
    let plus = λ (x y : ℕ). (x + y) % 2 ^ 16 in
    let minus = λ (x y : ℕ). (x + (2 ^ 16 - y)) % 2 ^ 16 in
    let eight = HasLanes-splat 8 8 in
    let x = HasLanes-zip2 times 8 (HasLanes-given 8 c.args.main c.fits-main.0) eight in
    let y = HasLanes-zip2 times 8 (HasLanes-given 8 c.args.first c.fits-first.0) eight in
    let z = HasLanes-zip2 times 8 (HasLanes-given 8 c.args.second c.fits-second.0) eight in
    let of_x = HasLanes-same 8 c.part_of.ensures (λ i h. ap (λ v. v * k.main_part / 65536) (x.each i h)) in
    let of_y = HasLanes-same 8 c.part_of-2.ensures (λ i h. ap (λ v. v * k.first_part / 65536) (y.each i h)) in
    let of_z = HasLanes-same 8 c.part_of-3.ensures (λ i h. ap (λ v. v * k.second_part / 65536) (z.each i h)) in
    HasLanes-zip2 (λ x y. x / y) 8
    (HasLanes-zip2 minus 8 (HasLanes-zip2 plus 8 of_x (HasLanes-splat 8 (1048 * c.args.s + 6)))
    (HasLanes-zip2 plus 8 of_y of_z)) eight
