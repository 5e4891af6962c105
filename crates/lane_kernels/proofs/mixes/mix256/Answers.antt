use Rattle.std.proofs.Common.{◌+◌, arith, ◌∙◌}
use Rattle.std.proofs.lemmas.Simd.{length-put_chunk}
use Rattle.lane_kernels.specs.Formulas.{wipe}
use Rattle.lane_kernels.proofs.Stored.{Below-store, HasLanes-load, HasLanes-same}
use Rattle.lane_kernels.proofs.mixes.mix256.Goals as goal

pub mix_lanes-requires : goal.mix_lanes-requires
mix_lanes-requires c = λ k h.
    let w = HasLanes-load c.loop-out.at 8 c.args.w.now (omega arith) in
    omega (
      arith,
      w.each k (omega (arith, w.long)),
      c.requires.weights (c.loop-out.at + k) (omega (arith, w.long)),
    )

pub narrowed-mixed-requires : goal.narrowed-mixed-requires
narrowed-mixed-requires c = λ k h.
    let x = HasLanes-load c.loop-out.at 8 c.args.a.now (omega arith) in
    omega (
      arith,
      c.mix_lanes.ensures.value.each k (omega (arith, c.mix_lanes.ensures.value.long)),
      c.mix_lanes.ensures.fit k (omega (arith, c.mix_lanes.ensures.value.long, x.long)),
    )

pub loop-out-preserved : goal.loop-out-preserved
loop-out-preserved c =
    let i = c.loop-out.at in
    let out = c.loop-out.out in
    let x = HasLanes-load i 8 c.args.a.now (omega arith) in
    let y = HasLanes-load i 8 c.args.b.now (omega arith) in
    let w = HasLanes-load i 8 c.args.w.now (omega arith) in
    record {
      long = length-put_chunk i out _ ∙ c.loop-out.invariant.long;
      within = omega arith;
      done = Below-store _ i 8 out (omega arith) c.loop-out.invariant.done
          (HasLanes-same 8 c.narrowed-mixed.ensures
          (λ k h. c.mix_lanes.ensures.value.each k h
          ∙ (λ j. wipe (x.each k h j) (y.each k h j) (w.each k h j))));
    }
