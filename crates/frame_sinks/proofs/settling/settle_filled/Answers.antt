use Rattle.std.proofs.Common.{◌∙◌, ap, subst}
use Rattle.std.specs.List.{AllByRecursion}
use Rattle.frame_sinks.proofs.Written.{picture_filled}
use Rattle.st_format.specs.declared.format.Format.{Format}
use Rattle.st_format.specs.Picture.{FitsDepth, Values}
use Rattle.frame_sinks.proofs.settling.settle_filled.Goals as goal

pub settle_over-requires-clause-base : goal.settle_over-requires-clause-base
settle_over-requires-clause-base g c =
    subst (λ (f : Format). AllByRecursion (FitsDepth f) c.fill_of-fill.result)
    c.format.ensures.format c.fill_of-fill.ensures.fits

pub returns-clause-settled : goal.returns-clause-settled
returns-clause-settled g c =
    c.settle_over.ensures.settled
    ∙ ap (λ (v : Values). v.samples)
    (picture_filled c.args.fill c.fill_of-fill.result c.args.frame.now c.format.result
    c.fill_of-fill.ensures.is c.format.ensures.format)
