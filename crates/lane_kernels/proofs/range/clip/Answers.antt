use Rattle.std.proofs.Common.{ltb, w16, ◌∙◌, arith}
use Rattle.std.proofs.lemmas.Bool.Decides.{nat_tests}
use Rattle.std.proofs.lemmas.Simd.{length-put_chunk}
use Rattle.lane_kernels.proofs.Stored.{Below-store, Kept-store, HasLanes-splat, HasLanes-kept}
use Rattle.lane_kernels.proofs.Stored.{HasLanes-select, HasLanes-same}
use Rattle.lane_kernels.proofs.range.clip.Goals as goal

pub loop-values-preserved : goal.loop-values-preserved
loop-values-preserved c =
    let i = c.loop-values.at in
    let values = c.loop-values.values in
    let kept = c.loop-values.invariant.kept in
    let x = HasLanes-kept _ i 16 values (omega arith) kept in
    let low = HasLanes-splat 16 c.args.low in
    let high = HasLanes-splat 16 c.args.high in
    let raised = HasLanes-select w16 ltb 16 x low low x in
    let clipped = HasLanes-select w16 ltb 16 raised high raised high in
    record {
      long = length-put_chunk i values _ ∙ c.loop-values.invariant.long;
      within = omega arith;
      done =
          Below-store _ i 16 values (omega arith) c.loop-values.invariant.done
          (HasLanes-same 16 clipped (λ k h. grind (arith, nat_tests)));
      kept = Kept-store _ i 16 values kept clipped;
    }
