use Rattle.std.proofs.Common.{bit_or, ◌∙◌, arith}
use Rattle.std.proofs.lemmas.Simd.{length-put_chunk}
use Rattle.lane_kernels.proofs.Stored.{Below-store, Kept-store, HasLanes-load, HasLanes-kept}
use Rattle.lane_kernels.proofs.Stored.{HasLanes-zip2}
use Rattle.lane_kernels.proofs.marks.or_marks.Goals as goal

pub loop-into-preserved : goal.loop-into-preserved
loop-into-preserved c =
    let i = c.loop-into.at in
    let into = c.loop-into.into in
    let kept = c.loop-into.invariant.kept in
    let x = HasLanes-kept _ i 16 into (omega arith) kept in
    let y = HasLanes-load i 16 c.args.from.now (omega arith) in
    let v = HasLanes-zip2 bit_or 16 x y in
    record {
      long = length-put_chunk i into _ ∙ c.loop-into.invariant.long;
      within = omega arith;
      done = Below-store _ i 16 into (omega arith) c.loop-into.invariant.done v;
      kept = Kept-store _ i 16 into kept v;
    }
