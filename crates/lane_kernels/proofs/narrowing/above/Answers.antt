use Rattle.std.proofs.Common.{ℕ, ◌+◌, ◌-◌, ◌%◌, ◌^◌, get_or, to_z, w32, arith, ap, ◌∙◌}
use Rattle.std.proofs.lemmas.Simd.{Each1-from_get_or}
use Rattle.lane_kernels.proofs.Saturated.{less, near_fits, near_is, near_same}
use Rattle.lane_kernels.proofs.Stored.{HasLanes-given, HasLanes-map, HasLanes-same}
use Rattle.lane_kernels.proofs.Stored.{HasLanes-select, HasLanes-splat, HasLanes-zip2}
use Rattle.lane_kernels.proofs.narrowing.above.Goals as goal
use lib.IntN.{nat_abs}

pub overflow_cast-far-2 : goal.overflow_cast-far-2
overflow_cast-far-2 c =
    let other = HasLanes-given 8 c.args.other c.fits-other.0 in
    let plus = λ (x y : ℕ). (x + y) % 2 ^ 32 in
    let sum = HasLanes-zip2 plus 8 other (HasLanes-splat 8 32768) in
    Each1-from_get_or _ _ 0 (λ k h. record {
      sfits = omega (
        arith,
        sum.each k (omega (arith, sum.long)),
        c.requires.of_other k (omega (arith, sum.long, c.fits-other.0)),
      );
    })

pub overflow_cast-result : goal.overflow_cast-result
overflow_cast-result c =
    let v = HasLanes-map (λ x. x) 8 (HasLanes-given 8 c.args.v c.fits-v.0) in
    let other = HasLanes-given 8 c.args.other c.fits-other.0 in
    let plus = λ (x y : ℕ). (x + y) % 2 ^ 32 in
    let minus = λ (x y : ℕ). (x + (2 ^ 32 - y)) % 2 ^ 32 in
    let some = HasLanes-splat 8 32768 in
    let far = HasLanes-zip2 minus 8 v (HasLanes-map (λ x. x) 8 (HasLanes-zip2 plus 8 other some)) in
    let low = HasLanes-splat 8 4294934528 in
    let high = HasLanes-splat 8 32767 in
    let raised = HasLanes-select w32 less 8 far low low far in
    let lowered = HasLanes-select w32 less 8 raised high raised high in
    let sum = HasLanes-zip2 plus 8 lowered some in
    Each1-from_get_or _ _ 0 (λ k h.
    let is = sum.each k (omega (arith, sum.long)) in
    let near = near_is (get_or c.args.v k 0) (get_or c.args.other k 0)
    (c.requires.of_v k (omega (arith, sum.long, c.fits-v.0)))
    (c.requires.of_other k (omega (arith, sum.long, c.fits-other.0))) in
    near_fits _ (omega (arith, is, near)))

pub returns : goal.returns
returns c =
    let v = HasLanes-map (λ x. x) 8 (HasLanes-given 8 c.args.v c.fits-v.0) in
    let other = HasLanes-given 8 c.args.other c.fits-other.0 in
    let plus = λ (x y : ℕ). (x + y) % 2 ^ 32 in
    let minus = λ (x y : ℕ). (x + (2 ^ 32 - y)) % 2 ^ 32 in
    let some = HasLanes-splat 8 32768 in
    let far = HasLanes-zip2 minus 8 v (HasLanes-map (λ x. x) 8 (HasLanes-zip2 plus 8 other some)) in
    let low = HasLanes-splat 8 4294934528 in
    let high = HasLanes-splat 8 32767 in
    let raised = HasLanes-select w32 less 8 far low low far in
    let lowered = HasLanes-select w32 less 8 raised high raised high in
    let sum = HasLanes-zip2 plus 8 lowered some in
    HasLanes-same 8 (HasLanes-map (λ s. nat_abs (to_z w32 s)) 8 sum) (λ k h.
    let near = near_is (get_or c.args.v k 0) (get_or c.args.other k 0)
    (c.requires.of_v k (omega (arith, c.fits-v.0)))
    (c.requires.of_other k (omega (arith, c.fits-other.0))) in
    ap (λ s. nat_abs (to_z w32 s)) near ∙ near_same _ (omega arith))
