use Rattle.std.proofs.Common.{sym, ◌∙◌}
use Rattle.std.proofs.lemmas.Bool.{false≢true}
use Rattle.std.proofs.lemmas.Result.{err_from_is_err_and}
use Rattle.st_format.specs.Picture.{Values}
use Rattle.picture_forms.proofs.FittedPixels.{pixels_cut, pixels_read, pixels_refused}
use Rattle.picture_forms.proofs.pixmap_pictures.read_fitting.Goals as goal

pub returns-in_err-read_pixmap_samples-clause-fault :
    goal.returns-in_err-read_pixmap_samples-clause-fault
returns-in_err-read_pixmap_samples-clause-fault g c =
    let p = err_from_is_err_and c.from_residual.result c.from_residual.ensures.1 in
    rw (p.1, p.2)
    (pixels_cut c.args.format.now _ _ _ _ _ c.in_err-read_pixmap_samples.field-0.0
    c.in_err-read_pixmap_samples.ensures.fault)

pub returns-then-not-fit-clause-fault : goal.returns-then-not-fit-clause-fault
returns-then-not-fit-clause-fault g c =
    let v : Values =
    record { format = c.args.format.now; samples = c.read_pixmap_samples.new.samples } in
    pixels_refused v _ _ _ _ _ (c.in_ok-read_pixmap_samples.ensures.long ∙ c.requires)
    (λ all. false≢true (sym c.if-not-fit.true ∙ c.fit.ensures.1 all))
    c.in_ok-read_pixmap_samples.ensures.given

pub returns-clause-read : goal.returns-clause-read
returns-clause-read g c =
    let v : Values =
    record { format = c.args.format.now; samples = c.read_pixmap_samples.new.samples } in
    pixels_read v _ _ _ _ (c.in_ok-read_pixmap_samples.ensures.long ∙ c.requires)
    (c.fit.ensures.0 c.if-not-fit.false) c.in_ok-read_pixmap_samples.ensures.given
