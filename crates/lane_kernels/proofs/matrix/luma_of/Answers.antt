use Rattle.std.proofs.Common.{◌≡◌, ◌+◌, ◌*◌, ◌/◌, arith, sym, ap, ◌∙◌}
use Rattle.std.specs.Prelude.{pos}
use Rattle.lane_kernels.specs.Formulas.{clip}
use Rattle.lane_kernels.proofs.Luma.{luma_natural}
use Rattle.lane_kernels.proofs.matrix.luma_of.Goals as goal

pub returns : goal.returns
returns c =
    let is : c.min.result
    ≡ clip c.args.low c.args.high
    (pos ((1063 * c.args.red + 3576 * c.args.green + 361 * c.args.blue + 2500) / 5000)) =
    omega (arith, c.max.ensures, c.min.ensures) in
    is ∙ ap (clip c.args.low c.args.high) (sym (luma_natural c.args.red c.args.green c.args.blue))
