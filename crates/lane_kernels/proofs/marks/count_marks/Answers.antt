use Rattle.std.proofs.Common.{get_or, arith}
use Rattle.lane_kernels.proofs.Ones.{ones_under-more, ones_under-next, ones_word}
use Rattle.lane_kernels.proofs.marks.count_marks.Goals as goal

pub loop-at-preserved : goal.loop-at-preserved
loop-at-preserved c = record {
  within = omega arith;
  counted =
      omega (
        arith,
        ones_under-more c.args.mask c.loop-at.at 16 c.args.marks.now,
        c.ones_in.ensures.value,
      );
  most = omega arith;
}

pub loop-i-preserved : goal.loop-i-preserved
loop-i-preserved c = record {
  counted = omega (arith, ones_under-next c.args.mask c.loop-i.i c.args.marks.now (omega arith));
  most =
      omega (
        arith,
        ones_word c.args.mask c.ranges.mask.fits (get_or c.args.marks.now c.loop-i.i 0),
      );
}
