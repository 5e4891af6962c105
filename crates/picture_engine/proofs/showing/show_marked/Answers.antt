use Rattle.std.proofs.Common.{ap, inl, inr, refl, subst, sym, ◌∙◌}
use Rattle.std.proofs.lemmas.Bool.{false≢true}
use Rattle.std.proofs.lemmas.Result.{err_from_is_err_and, on_err_weaker, on_ok_weaker}
use Rattle.form_files.specs.Form.{HoldsSampling}
use Rattle.st_format.specs.Fields.{Fields}
use Rattle.picture_engine.proofs.showing.show_marked.Goals as goal

pub write-requires : goal.write-requires
write-requires g c =
    subst (λ s. HoldsSampling c.args.form s)
    (sym (ap (λ (f : Fields). f.sampling) c.in_ok-picture.ensures.format))
    (c.holds.ensures.0 c.if-not-holds.false)

pub returns-clause-shown : goal.returns-clause-shown
returns-clause-shown g c =
    on_ok_weaker c.write.result (λ written. record {
      shown = c.in_ok-picture.picture;
      is = record {
        format = c.in_ok-picture.ensures.format;
        seen = c.in_ok-picture.ensures.seen;
      };
      holds = subst (λ s. HoldsSampling c.args.form s)
          (sym (ap (λ (f : Fields). f.sampling) c.in_ok-picture.ensures.format))
          (c.holds.ensures.0 c.if-not-holds.false);
      written = written;
    }) c.write.ensures.written

pub returns-clause-part : goal.returns-clause-part
returns-clause-part g c =
    on_err_weaker c.write.result (λ part. inr (
      c.in_ok-picture.picture,
      record {
        format = c.in_ok-picture.ensures.format;
        seen = c.in_ok-picture.ensures.seen;
      },
      part,
    )) c.write.ensures.part

pub returns-then-not-holds-clause-part : goal.returns-then-not-holds-clause-part
returns-then-not-holds-clause-part g c = inl refl

pub returns-then-not-holds-clause-refusal : goal.returns-then-not-holds-clause-refusal
returns-then-not-holds-clause-refusal g c = λ holds.
    false≢true (sym c.if-not-holds.true ∙ c.holds.ensures.1 holds)

pub returns-in_err-picture-clause-part : goal.returns-in_err-picture-clause-part
returns-in_err-picture-clause-part g c =
    let p = err_from_is_err_and c.from_residual.result c.from_residual.ensures.1 in
    rw (p.1) (inl refl)
