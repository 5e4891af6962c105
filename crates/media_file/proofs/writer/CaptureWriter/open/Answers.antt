use Rattle.std.proofs.Common.{[], Some, arith, lit<, refl}
use Rattle.st_format.specs.History.{since}
use Rattle.st_format.proofs.Histories.{grew_by}
use Rattle.media_file.specs.declared.front.Version.TheVariants.{Two}
use Rattle.media_file.specs.Fronts.{front_text}
use Rattle.media_file.proofs.Told.{front_since, stands_new, takes_new, takes_none}
use Rattle.media_file.proofs.writer.CaptureWriter.open.Goals as goal

pub returns-in-Ok-clause-tells : goal.returns-in-Ok-clause-tells
returns-in-Ok-clause-tells g c =
    takes_none c.args.paths c.args.text.now _ _
    (omega (arith, c.requires.text)) c.requires.empty c.in-Ok.ensures.ok

pub invariant_of-result : goal.invariant_of-result
invariant_of-result g c = (
  lit< tt,
  stands_new c.args.paths c.args.text.now _ _
      (omega (arith, c.requires.text)) c.requires.empty c.in-Ok.ensures.untold c.in-Ok.ensures.ok,
  rw c.of-opened.ensures (grew_by _ _ (front_text Two c.args.text.now) c.in-Ok.ensures.took),
  rw c.of-opened.ensures
      (stands_new c.args.paths c.args.text.now (Some [])
      (Some (since (g.K.ByteSink.took c.args.sink) (g.K.ByteSink.took c.write_front.new.sink)))
      (omega (arith, c.requires.text)) refl tt
      (front_since _ _ c.args.text.now c.in-Ok.ensures.took)),
)

pub returns-in-Ok-clause-new : goal.returns-in-Ok-clause-new
returns-in-Ok-clause-new g c =
    rw c.of-opened.ensures
    (takes_new c.args.paths c.args.text.now _ (omega (arith, c.requires.text))
    (front_since _ _ c.args.text.now c.in-Ok.ensures.took))
