use Rattle.std.proofs.Common.{bit_and, bit_xor, get_or, ap, ◌∙◌, arith}
use Rattle.std.specs.Int.{bit_at}
use Rattle.std.proofs.lemmas.Simd.{length-put_chunk}
use Rattle.lane_kernels.proofs.Stored.{Below-store, HasLanes-load, HasLanes-zip2}
use Rattle.lane_kernels.proofs.Selecting.{xor_selected}
use Rattle.lane_kernels.proofs.octets.select.Goals as goal

pub loop-out-preserved : goal.loop-out-preserved
loop-out-preserved c =
    let i = c.loop-out.at in
    let out = c.loop-out.out in
    let m = HasLanes-load i 32 c.args.mask.now (omega arith) in
    let x = HasLanes-load i 32 c.args.a.now (omega arith) in
    let y = HasLanes-load i 32 c.args.b.now (omega arith) in
    record {
      long = length-put_chunk i out _ ∙ c.loop-out.invariant.long;
      within = omega arith;
      done = Below-store _ i 32 out (omega arith) c.loop-out.invariant.done
          (HasLanes-zip2 bit_xor 32 y (HasLanes-zip2 bit_and 32 m (HasLanes-zip2 bit_xor 32 x y)));
    }

pub returns : goal.returns
returns c = λ k lt i.
    ap (λ octet. bit_at octet i) (c.loop-i.invariant.done k (omega arith))
    ∙ xor_selected (get_or c.args.mask.now k 0) (get_or c.args.a.now k 0)
    (get_or c.args.b.now k 0) i
