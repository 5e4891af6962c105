use Rattle.std.proofs.Common.{arith}
use Rattle.lane_kernels.proofs.Narrow.{depth_small}
use Rattle.lane_kernels.proofs.pixels.pixel_luma.Goals as goal

pub narrow_luma-requires-clause-of_red : goal.narrow_luma-requires-clause-of_red
narrow_luma-requires-clause-of_red c = λ k h.
    omega (arith, c.requires.of_red k h, depth_small c.args.bits (omega arith))

pub narrow_luma-requires-clause-of_green : goal.narrow_luma-requires-clause-of_green
narrow_luma-requires-clause-of_green c = λ k h.
    omega (arith, c.requires.of_green k h, depth_small c.args.bits (omega arith))

pub narrow_luma-requires-clause-of_blue : goal.narrow_luma-requires-clause-of_blue
narrow_luma-requires-clause-of_blue c = λ k h.
    omega (arith, c.requires.of_blue k h, depth_small c.args.bits (omega arith))
