use Rattle.std.proofs.Common.{◌∙◌, ap}
use Rattle.frame_sinks.proofs.Written.{picture_held, picture_unheld}
use Rattle.st_format.specs.Picture.{Values}
use Rattle.frame_sinks.proofs.settling.settle_held.Goals as goal

pub returns-then-has_format-clause-settled : goal.returns-then-has_format-clause-settled
returns-then-has_format-clause-settled g c =
    c.settle_over.ensures.settled
    ∙ ap (λ (v : Values). v.samples)
    (picture_held c.args.fill c.args.picture.now c.args.frame.now c.has_format.result
    c.has_format.ensures.is c.if-has_format.true)

pub returns-else-has_format-clause-settled : goal.returns-else-has_format-clause-settled
returns-else-has_format-clause-settled g c =
    c.settle_filled.ensures.settled
    ∙ ap (λ (v : Values). v.samples)
    (picture_unheld c.args.fill c.args.picture.now c.args.frame.now c.has_format.result
    c.has_format.ensures.is c.if-has_format.false)
