use Rattle.std.proofs.Common.{inr, refl, sym, ◌∙◌}
use Rattle.std.proofs.lemmas.Bool.{false≢true}
use Rattle.std.proofs.lemmas.Result.{err_from_is_err_and}
use Rattle.convert_engine.proofs.Refusals.{input_refused}
use Rattle.convert_engine.proofs.converting.convert.Goals as goal

pub returns-in_err-picture-clause-refusal : goal.returns-in_err-picture-clause-refusal
returns-in_err-picture-clause-refusal g c =
    let p = err_from_is_err_and c.from_residual.result c.from_residual.ensures.1 in
    rw (p.1, p.2)
    (input_refused c.args.asked _ c.in_err-picture.field-0.0 c.in_err-picture.ensures.refusal)

pub returns-then-not-holds-clause-refusal : goal.returns-then-not-holds-clause-refusal
returns-then-not-holds-clause-refusal g c =
    inr (
      refl,
      record {
        picture = c.in_ok-picture.picture;
        says = c.in_ok-picture.ensures.says;
        lacks = λ has. false≢true (sym c.if-not-holds.true ∙ c.holds.ensures.1 has);
      },
    )

pub returns-in-Ok-clause-converted : goal.returns-in-Ok-clause-converted
returns-in-Ok-clause-converted g c = record {
  picture = c.in_ok-picture.picture;
  says = c.in_ok-picture.ensures.says;
  holds = c.holds.ensures.0 c.if-not-holds.false;
  written = c.in-Ok.ensures.took;
}

pub returns-clause-part : goal.returns-clause-part
returns-clause-part g c =
    inr (c.in_ok-picture.picture, c.in_ok-picture.ensures.says, c.in-Err.ensures.part)
