use Rattle.std.proofs.Common.{arith, ◌∙◌}
use Rattle.std.proofs.lemmas.Simd.{length-put_chunk}
use Rattle.lane_kernels.specs.Differences.{difference}
use Rattle.lane_kernels.specs.Formulas.{video_data}
use Rattle.lane_kernels.proofs.Stored.{Below-store, HasLanes-load, HasLanes-same, lanes_below}
use Rattle.lane_kernels.proofs.matrix.colour709.Goals as goal

pub colour_block-block-requires-clause-of_main : goal.colour_block-block-requires-clause-of_main
colour_block-block-requires-clause-of_main c =
    lanes_below 8 c.loop-out.at c.args.main.now _ (omega arith) c.requires.fit_main

pub colour_block-block-requires-clause-of_first : goal.colour_block-block-requires-clause-of_first
colour_block-block-requires-clause-of_first c =
    lanes_below 8 c.loop-out.at c.args.first.now _ (omega arith) c.requires.fit_first

pub colour_block-block-requires-clause-of_second : goal.colour_block-block-requires-clause-of_second
colour_block-block-requires-clause-of_second c =
    lanes_below 8 c.loop-out.at c.args.second.now _ (omega arith) c.requires.fit_second

pub loop-out-preserved : goal.loop-out-preserved
loop-out-preserved c =
    let i = c.loop-out.at in
    let out = c.loop-out.out in
    let main = HasLanes-load i 8 c.args.main.now (omega arith) in
    let first = HasLanes-load i 8 c.args.first.now (omega arith) in
    let second = HasLanes-load i 8 c.args.second.now (omega arith) in
    record {
      long = length-put_chunk i out _ ∙ c.loop-out.invariant.long;
      within = omega arith;
      done = Below-store _ i 8 out (omega arith) c.loop-out.invariant.done
          (HasLanes-same 8 c.colour_block-block.ensures
          (λ k h.
          λ j. video_data c.args.bits
          (difference c.args.colour c.args.bits (main.each k h j) (first.each k h j)
          (second.each k h j))));
    }
