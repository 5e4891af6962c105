use Rattle.std.proofs.Common.{◌≡◌, ap, inl, inr, refl, subst, sym, ◌∙◌}
use Rattle.std.proofs.lemmas.Bool.{false≢true}
use Rattle.std.proofs.lemmas.Result.{err_from_is_err_and, on_err_weaker, on_ok_weaker}
use Rattle.form_files.specs.Form.{HoldsSampling}
use Rattle.st_format.specs.declared.format.Format.{Format}
use Rattle.st_format.specs.Picture.{Values}
use Rattle.st_format.specs.Raster.{Raster}
use Rattle.picture_engine.proofs.Settled.{settled_format, settling_fill, settling_held}
use Rattle.picture_engine.proofs.showing.show_settled.Goals as goal

pub write-requires : goal.write-requires
write-requires g c =
    let q : Raster = c.args.frame.now in
    let p : Values = c.in_ok-picture.picture in
    let same : p.format ≡ q.format =
    ap (λ (v : Values). v.format) c.in_ok-picture.ensures.settled
    ∙ settled_format c.args.held.now c.in_ok-fill.fill q in
    subst (λ (f : Format). HoldsSampling c.args.form f.sampling)
    (c.format.ensures.format ∙ sym same) (c.holds.ensures.0 c.if-not-holds.false)

pub returns-clause-shown : goal.returns-clause-shown
returns-clause-shown g c =
    let q : Raster = c.args.frame.now in
    let p : Values = c.in_ok-picture.picture in
    let same : p.format ≡ q.format =
    ap (λ (v : Values). v.format) c.in_ok-picture.ensures.settled
    ∙ settled_format c.args.held.now c.in_ok-fill.fill q in
    on_ok_weaker c.write.result (λ written. record {
      shown = p;
      is = record {
        fill = c.in_ok-fill.fill;
        fill_is = c.in_ok-fill.ensures.is;
        held_is = c.in_ok-check_held.ensures.is;
        settled = c.in_ok-picture.ensures.settled;
      };
      holds = subst (λ (f : Format). HoldsSampling c.args.form f.sampling)
          (c.format.ensures.format ∙ sym same) (c.holds.ensures.0 c.if-not-holds.false);
      written = written;
    }) c.write.ensures.written

pub returns-clause-part : goal.returns-clause-part
returns-clause-part g c =
    on_err_weaker c.write.result (λ part. inr (
      c.in_ok-picture.picture,
      record {
        fill = c.in_ok-fill.fill;
        fill_is = c.in_ok-fill.ensures.is;
        held_is = c.in_ok-check_held.ensures.is;
        settled = c.in_ok-picture.ensures.settled;
      },
      part,
    )) c.write.ensures.part

pub returns-in_err-fill-clause-part : goal.returns-in_err-fill-clause-part
returns-in_err-fill-clause-part g c =
    let p = err_from_is_err_and c.from_residual.result c.from_residual.ensures.1 in
    rw (p.1) (inl refl)

pub returns-in_err-check_held-clause-part : goal.returns-in_err-check_held-clause-part
returns-in_err-check_held-clause-part g c =
    let p =
    err_from_is_err_and c.from_residual-in_err-check_held.result
    c.from_residual-in_err-check_held.ensures.1 in
    rw (p.1) (inl refl)

pub returns-then-not-holds-clause-part : goal.returns-then-not-holds-clause-part
returns-then-not-holds-clause-part g c = inl refl

pub returns-in_err-picture-clause-part : goal.returns-in_err-picture-clause-part
returns-in_err-picture-clause-part g c =
    let p =
    err_from_is_err_and c.from_residual-in_err-picture.result
    c.from_residual-in_err-picture.ensures.1 in
    rw (p.1) (inl refl)

pub returns-in_err-fill-clause-refusal : goal.returns-in_err-fill-clause-refusal
returns-in_err-fill-clause-refusal g c =
    let p = err_from_is_err_and c.from_residual.result c.from_residual.ensures.1 in
    rw (p.1, p.2)
    (settling_fill c.in_err-fill.field-0.0 c.args.text c.args.form c.args.held.now
    c.args.frame.now c.in_err-fill.ensures.refused)

pub returns-in_err-check_held-clause-refusal : goal.returns-in_err-check_held-clause-refusal
returns-in_err-check_held-clause-refusal g c =
    let p =
    err_from_is_err_and c.from_residual-in_err-check_held.result
    c.from_residual-in_err-check_held.ensures.1 in
    rw (p.1, p.2)
    (settling_held c.in_err-check_held.field-0.0 c.args.text c.args.form c.args.held.now
    c.args.frame.now c.in_ok-fill.fill c.in_ok-fill.ensures.is
    c.in_err-check_held.ensures.refused)

pub returns-then-not-holds-clause-refusal : goal.returns-then-not-holds-clause-refusal
returns-then-not-holds-clause-refusal g c = (
  (c.in_ok-fill.fill, c.in_ok-fill.ensures.is),
  c.in_ok-check_held.ensures.is,
  λ holds. false≢true (sym c.if-not-holds.true
      ∙ c.holds.ensures.1 (subst (λ (f : Format). HoldsSampling c.args.form f.sampling)
      (sym c.format.ensures.format) holds)),
)
