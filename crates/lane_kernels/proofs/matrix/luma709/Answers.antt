use Rattle.std.proofs.Common.{◌∙◌, arith, ◌-◌, ◌*◌}
use Rattle.std.proofs.lemmas.Simd.{length-put_chunk}
use Rattle.lane_kernels.specs.Formulas.{clip, luma}
use Rattle.lane_kernels.proofs.Stored.{Below-store, HasLanes-load, HasLanes-same}
use Rattle.lane_kernels.proofs.matrix.luma709.Goals as goal

pub loop-out-preserved : goal.loop-out-preserved
loop-out-preserved c =
    let i = c.loop-out.at in
    let out = c.loop-out.out in
    let red = HasLanes-load i 8 c.args.r.now (omega arith) in
    let green = HasLanes-load i 8 c.args.g.now (omega arith) in
    let blue = HasLanes-load i 8 c.args.b.now (omega arith) in
    record {
      long = length-put_chunk i out _ ∙ c.loop-out.invariant.long;
      within = omega arith;
      done =
          Below-store _ i 8 out (omega arith) c.loop-out.invariant.done
          (HasLanes-same 8 c.narrowed-luma.ensures
          (λ k h. c.luma_lanes.ensures.each k h
          ∙ (λ j. clip (c.scale-low.ensures.value j) (255 * c.scale-low.ensures.value j - 1)
          (luma (red.each k h j) (green.each k h j) (blue.each k h j)))));
    }
