use Rattle.std.proofs.Common.{◌≡◌, ◌++◌, subst}
use Rattle.std.specs.List.{AllByRecursion}
use Rattle.frame_sinks.proofs.Written.{form_failed, picture_filled}
use Rattle.picture_forms.specs.Layouts.{frame_text}
use Rattle.st_format.specs.Device.{GrowsPart}
use Rattle.st_format.specs.Picture.{FitsDepth, Values}
use Rattle.st_format.specs.declared.format.Format.{Format}
use Rattle.frame_sinks.proofs.writing.write_filled.Goals as goal

pub write_planes-requires-clause-base : goal.write_planes-requires-clause-base
write_planes-requires-clause-base g c =
    subst (λ (f : Format). AllByRecursion (FitsDepth f) c.fill_of-fill.result)
    c.format.ensures.format c.fill_of-fill.ensures.fits

pub returns-in-Ok-clause-written : goal.returns-in-Ok-clause-written
returns-in-Ok-clause-written g c =
    subst (λ (v : Values). g.K.ByteSink.took c.write_planes.new.sink
    ≡ g.K.ByteSink.took c.args.sink.now ++ frame_text v)
    (picture_filled c.args.fill c.fill_of-fill.result c.args.frame.now c.format.result
    c.fill_of-fill.ensures.is c.format.ensures.format) c.in-Ok.ensures.took

pub returns-in-Err-clause-part : goal.returns-in-Err-clause-part
returns-in-Err-clause-part g c =
    subst (λ (v : Values). GrowsPart (g.K.ByteSink.took c.args.sink.now)
    (g.K.ByteSink.took c.write_planes.new.sink) (frame_text v))
    (picture_filled c.args.fill c.fill_of-fill.result c.args.frame.now c.format.result
    c.fill_of-fill.ensures.is c.format.ensures.format) c.in-Err.ensures.part

pub returns-in-Err-clause-failures : goal.returns-in-Err-clause-failures
returns-in-Err-clause-failures g c =
    form_failed c.in-Err.field-0 _ _ c.in-Err.ensures.fault.0 c.in-Err.ensures.counted
