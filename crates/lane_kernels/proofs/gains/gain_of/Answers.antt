use Rattle.std.proofs.Common.{◌*◌, arith}
use Rattle.lane_kernels.proofs.Clipping.{clip_raised}
use Rattle.lane_kernels.proofs.Gaining.{gain_natural}
use Rattle.lane_kernels.proofs.gains.gain_of.Goals as goal

pub returns : goal.returns
returns c =
    omega (
      arith,
      c.max.ensures,
      c.min.ensures,
      clip_raised c.args.low c.args.high (3 * c.args.zero) _ _ c.requires.range
          (gain_natural c.args.zero c.args.g c.args.x c.requires.of_g),
    )
