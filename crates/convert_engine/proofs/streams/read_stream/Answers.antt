use Rattle.std.proofs.Common.{[], ◌∷◌, subst, sym}
use Rattle.st_format.specs.History.{IsRead}
use Rattle.run_outcome.specs.Fault.{Blames, counts}
use Rattle.run_outcome.specs.Refusing.{OfRefusal}
use Rattle.run_outcome.specs.declared.fault.Fault.{Fault}
use Rattle.convert_engine.specs.declared.converting.InputForm.TheVariants.{Y4m}
use Rattle.convert_engine.specs.Converting.{IsInputRefusal}
use Rattle.convert_engine.proofs.Refusals.{form_blames, stream_refused}
use Rattle.convert_engine.proofs.streams.read_stream.Goals as goal

pub returns-in-Err-clause-refusal : goal.returns-in-Err-clause-refusal
returns-in-Err-clause-refusal g c =
    let after = c.read_picture.new.source in
    let told = IsRead (g.S.ByteSource.gave c.args.source.now) (g.S.ByteSource.gave after)
    (g.S.ByteSource.ended after) in
    subst (λ (f : Fault). OfRefusal f (IsInputRefusal (Y4m c.args.place) told)) (sym c.of_form.ensures)
    (stream_refused c.args.place told c.in-Err.fault c.in-Err.ensures.fault)

pub returns-in-Err-clause-failures : goal.returns-in-Err-clause-failures
returns-in-Err-clause-failures g c =
    subst (λ (f : Fault). Blames (counts (g.S.ByteSource.failures c.args.source.now)
    (g.S.ByteSource.failures c.read_picture.new.source) ∷ []) f) (sym c.of_form.ensures)
    (form_blames c.in-Err.fault _ _ c.in-Err.ensures.counted)
