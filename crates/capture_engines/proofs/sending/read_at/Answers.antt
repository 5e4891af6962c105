use Rattle.std.proofs.lemmas.Result.{IfOk-weaker}
use Rattle.run_outcome.specs.Moments.{WasRead}
use Rattle.run_outcome.proofs.Refusals.{if_err_map, of_refusal_map}
use Rattle.run_outcome.proofs.SetSums.{set_counted}
use Rattle.run_outcome.specs.Pictures.{IsPictureRefusal, SaysPicture, SaysPictureOf}
use Rattle.capture_engines.proofs.OneOf.{first_at}
use Rattle.capture_engines.proofs.sending.read_at.Goals as goal

pub returns-clause-shows : goal.returns-clause-shows
returns-clause-shows g c =
    let told = WasRead g.S.ByteSource.gave g.S.ByteSource.ended in
    IfOk-weaker c.read_packed.result _ _
    (λ p says. first_at (λ s. SaysPicture (told s) p) c.args.pictures.now c.args.place
    c.index-pictures-place.result c.read_packed.new.source c.requires says)
    c.read_packed.ensures.shows

pub returns-clause-says : goal.returns-clause-says
returns-clause-says g c =
    let told = WasRead g.S.ByteSource.gave g.S.ByteSource.ended in
    IfOk-weaker c.read_packed.result _ _
    (λ p says. first_at (λ s. SaysPictureOf (told s) p.format) c.args.pictures.now c.args.place
    c.index-pictures-place.result c.read_packed.new.source c.requires says)
    c.read_packed.ensures.says

pub returns-clause-refusal : goal.returns-clause-refusal
returns-clause-refusal g c =
    let told = WasRead g.S.ByteSource.gave g.S.ByteSource.ended in
    if_err_map c.read_packed.result
    (λ f. of_refusal_map f
    (λ r is. first_at (λ s. IsPictureRefusal (told s) r) c.args.pictures.now c.args.place
    c.index-pictures-place.result c.read_packed.new.source c.requires is))
    c.read_packed.ensures.refusal

pub returns-clause-failures : goal.returns-clause-failures
returns-clause-failures g c =
    set_counted g.S.ByteSource.failures c.args.pictures.now c.args.place
    c.index-pictures-place.result c.read_packed.new.source c.read_packed.result c.requires
    c.read_packed.ensures.failures
