use Rattle.std.proofs.Common.{[], ◌∷◌, refl, subst, sym, ◌∙◌}
use Rattle.std.proofs.lemmas.Bool.{false≢true}
use Rattle.std.specs.List.{AllByRecursion}
use Rattle.st_format.specs.declared.format.Format.{Format}
use Rattle.st_format.specs.Picture.{FitsDepth}
use Rattle.receiver_engines.proofs.Refusals.{unread_fill}
use Rattle.picture_engine.proofs.Fills.{fit_fill, unfit_frame}
use Rattle.picture_engine.proofs.filling.said_fill.Goals as goal

pub returns-in_default-clause-refused : goal.returns-in_default-clause-refused
returns-in_default-clause-refused g c =
    (refl, unread_fill c.args.text.now (c.args.frame.now ∷ []) c.in_default.ensures.none)

pub returns-then-not-fits-clause-refused : goal.returns-then-not-fits-clause-refused
returns-then-not-fits-clause-refused g c =
    let fill = c.in-Some.fill in (
      refl,
      unfit_frame c.args.text.now fill c.args.frame c.in-Some.ensures.is
          c.in-Some.ensures.values (λ fit. false≢true (sym c.if-not-fits.true
          ∙ c.fits.ensures.1 (subst (λ (f : Format). AllByRecursion (FitsDepth f) fill)
          (sym c.format.ensures.format) fit))),
    )

pub returns-clause-is : goal.returns-clause-is
returns-clause-is g c =
    let fill = c.in-Some.fill in
    fit_fill c.args.text.now fill c.args.frame.now c.in-Some.ensures.is c.in-Some.ensures.values
    (subst (λ (f : Format). AllByRecursion (FitsDepth f) fill) c.format.ensures.format
    (c.fits.ensures.0 c.if-not-fits.false))

pub returns-clause-fits : goal.returns-clause-fits
returns-clause-fits g c =
    subst (λ (f : Format). AllByRecursion (FitsDepth f) c.in-Some.fill) c.format.ensures.format
    (c.fits.ensures.0 c.if-not-fits.false)
