use Rattle.std.proofs.Common.{◌≤◌, arith, w16, sym, subst}
use Rattle.std.proofs.lemmas.Simd.{sum_fits}
use Rattle.lane_kernels.proofs.Ones.{masked_ones_fit, sum_masked, fold_masked, ones_under-le}
use Rattle.lane_kernels.proofs.marks.ones_in.Goals as goal

pub overflow_cast-result : goal.overflow_cast-result
overflow_cast-result c = masked_ones_fit 16 c.args.mask c.ranges.mask.fits _

pub overflow_add-result : goal.overflow_add-result
overflow_add-result c =
    sum_fits w16 0 _
    (omega (
      arith,
      sum_masked 16 c.args.mask c.args.v c.fits-v.0,
      ones_under-le c.args.mask c.ranges.mask.fits c.args.v,
      c.fits-v.0,
    ))

pub returns-clause-value : goal.returns-clause-value
returns-clause-value c = fold_masked 16 c.args.mask c.args.v c.fits-v.0

pub returns-clause-most : goal.returns-clause-most
returns-clause-most c =
    let le = ones_under-le c.args.mask c.ranges.mask.fits c.args.v in
    subst (λ r. r ≤ 256) (sym (fold_masked 16 c.args.mask c.args.v c.fits-v.0))
    (omega (arith, le, c.fits-v.0))
