use Rattle.std.proofs.Common.{subst, sym}
use Rattle.st_format.specs.History.{IsRead}
use Rattle.run_outcome.specs.Refusing.{OfRefusal}
use Rattle.run_outcome.specs.Pictures.{IsPictureRefusal}
use Rattle.run_outcome.specs.declared.fault.Fault.{Fault}
use Rattle.run_outcome.proofs.Refusals.{picture_refused}
use Rattle.run_outcome.proofs.pictures.read_unpacked.Goals as goal

pub returns-in-Err-clause-refusal : goal.returns-in-Err-clause-refusal
returns-in-Err-clause-refusal g c =
    let after = c.read_picture.new.source in
    let told = IsRead (g.S.ByteSource.gave c.args.source.now) (g.S.ByteSource.gave after)
    (g.S.ByteSource.ended after) in
    subst (λ (f : Fault). OfRefusal f (IsPictureRefusal told)) (sym c.of_picture.ensures)
    (picture_refused told c.in-Err.fault c.in-Err.ensures.gave_wrong)
