use Rattle.std.proofs.Common.{get_or, length, arith}
use Rattle.st_format.specs.Position.{component_in_row}
use Rattle.st_format.proofs.PictureLemmas.{all_set}
use Rattle.st_format.proofs.picture.fill_samples.Goals as goal

pub returns : goal.returns
returns c =
    all_set (λ k. get_or c.args.fill (component_in_row c.args.sampling k) 0) c.loop-number.samples
    (length c.args.samples.now) (omega arith)
    (λ i below. c.loop-number.invariant i (omega arith))
