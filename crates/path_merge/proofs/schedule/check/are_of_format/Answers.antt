use Rattle.std.proofs.Common.{ℕ, ◌≡◌, ◌∙◌, ap, arith, below_more, get_or, subst, sym, refl}
use Rattle.st_format.specs.Picture.{Values, IsPicture}
use Rattle.path_merge.proofs.OpeningLemmas.{of_item}
use Rattle.path_merge.proofs.schedule.check.are_of_format.Goals as goal

pub loop-picture-preserved : goal.loop-picture-preserved
loop-picture-preserved g c =
    below_more (λ (k : ℕ). (d : Values)
    → ((get_or c.args.pictures.now k d).format ≡ c.args.format)
    × IsPicture (get_or c.args.pictures.now k d)) _ c.loop-picture.invariant
    (λ d.
    let e =
    of_item c.args.pictures.now c.loop-picture.picture-index d c.picture-item.result
    (omega (arith, c.loop-picture-test.true)) c.picture-item.is in (
      ap (λ (p : Values). p.format) e ∙ sym c.format.ensures.value
          ∙ c.if-not-same.ensures.value.0 refl,
      subst IsPicture (sym e) c.format.ensures.whole,
    ))

pub returns-then-not-same-clause-other : goal.returns-then-not-same-clause-other
returns-then-not-same-clause-other g c _ all =
    let e =
    c.if-not-same.ensures.value.1
    (c.format.ensures.value ∙ ap (λ (p : Values). p.format) c.picture-item.is
    ∙ all c.loop-picture.picture-index c.picture-item.result
    (omega (arith, c.loop-picture-test.true))) in
    absurd cc

pub returns-clause-all : goal.returns-clause-all
returns-clause-all g c _ k d below =
    (c.loop-picture.invariant k (omega (arith, below, c.loop-picture-test.false)) d).0

pub returns-clause-whole : goal.returns-clause-whole
returns-clause-whole g c _ k d below =
    (c.loop-picture.invariant k (omega (arith, below, c.loop-picture-test.false)) d).1
