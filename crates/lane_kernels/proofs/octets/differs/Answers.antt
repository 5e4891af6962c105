use Rattle.std.proofs.Common.{eqb, ◌∙◌, arith, w8}
use Rattle.std.proofs.lemmas.Simd.{length-put_chunk}
use Rattle.lane_kernels.proofs.Stored.{Below-store, HasLanes-load, HasLanes-splat, HasLanes-select}
use Rattle.lane_kernels.proofs.octets.differs.Goals as goal

pub loop-out-preserved : goal.loop-out-preserved
loop-out-preserved c =
    let i = c.loop-out.at in
    let out = c.loop-out.out in
    record {
      long = length-put_chunk i out _ ∙ c.loop-out.invariant.long;
      within = omega arith;
      done = Below-store _ i 32 out (omega arith) c.loop-out.invariant.done
          (HasLanes-select w8 eqb 32 (HasLanes-load i 32 c.args.a.now (omega arith))
          (HasLanes-load i 32 c.args.b.now (omega arith)) (HasLanes-splat 32 0)
          (HasLanes-splat 32 255));
    }
