use Rattle.std.proofs.Common.{arith, refl}
use Rattle.script_engines.proofs.digits.decode_blocks.Goals as goal

pub loop-i-preserved : goal.loop-i-preserved
loop-i-preserved c = λ k h.
    c.if-not-decode_block.ensures.is refl c.loop-i.invariant k (omega arith)
