use Rattle.std.proofs.Common.{◌%◌, get_or, ap, arith, ◌∙◌}
use Rattle.std.proofs.lemmas.Simd.{get_or-replicate}
use Rattle.lane_kernels.specs.Formulas.{clip, gain}
use Rattle.lane_kernels.proofs.gains.gain.Goals as goal

pub returns : goal.returns
returns c = λ k h.
    c.gain_about.ensures.each k h
    ∙ ap (λ z. clip c.args.low c.args.high (gain z c.args.g (get_or c.args.values.now k 0)))
    (get_or-replicate 24 (k % 24) c.args.zero 0 (omega arith))
