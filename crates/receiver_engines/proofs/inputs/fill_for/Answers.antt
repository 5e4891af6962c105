use Rattle.std.proofs.Common.{◌≡◌, ◌<◌, ◌∙◌, ap, arith, false, get_or, length, refl, subst, sym}
use Rattle.std.proofs.lemmas.Bool.{false≢true}
use Rattle.std.specs.Borrow.{Bor}
use Rattle.std.specs.List.{AllByRecursion}
use Rattle.st_format.specs.Picture.{FitsDepth}
use Rattle.st_format.specs.Raster.{Raster}
use Rattle.receiver_engines.specs.Inputs.{frames_lent}
use Rattle.receiver_engines.proofs.Refusals.{unfit_fill, unread_fill}
use Rattle.receiver_engines.proofs.inputs.fill_for.Goals as goal

pub returns-in_default-clause-refused : goal.returns-in_default-clause-refused
returns-in_default-clause-refused g c =
    (refl, unread_fill c.args.text.now (frames_lent c.args.frames.now) c.in_default.ensures.none)

pub returns-then-not-fits-clause-refused : goal.returns-then-not-fits-clause-refused
returns-then-not-fits-clause-refused g c =
    let frames = c.args.frames.now in
    let fill = c.in-Some.fill in
    let frame = c.frame-item.result in
    let place = c.loop-frame.frame-index in
    let within : place < length frames = omega arith in
    let format : (get_or frames place frame).now.format ≡ c.format.result =
    ap (λ (f : Bor Raster). f.now.format) (sym c.frame-item.is) ∙ sym c.format.ensures.format in
    let unfit : c.fits.result ≡ false = c.if-not-fits.true in (
      refl,
      unfit_fill c.args.text.now fill frames place frame within c.in-Some.ensures.is
          c.in-Some.ensures.values (λ fit. false≢true (sym unfit
          ∙ c.fits.ensures.1 (subst (λ f. AllByRecursion (FitsDepth f) fill) format fit))),
    )
