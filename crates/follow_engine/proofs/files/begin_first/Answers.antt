use Rattle.std.proofs.Common.{inl, inr, refl}
use Rattle.run_outcome.proofs.Refusals.{if_err_map, of_refusal_map}
use Rattle.follow_engine.proofs.Blamed.{none_of, some_octets}
use Rattle.follow_engine.proofs.files.begin_first.Goals as goal

pub returns-then-is_empty-clause-refusal : goal.returns-then-is_empty-clause-refusal
returns-then-is_empty-clause-refusal g c =
    inl (refl, none_of c.args.said.now c.is_empty.result c.if-is_empty.true c.is_empty.ensures)

pub returns-clause-refusal : goal.returns-clause-refusal
returns-clause-refusal g c =
    if_err_map c.begin_by.result
    (λ f is. of_refusal_map f (λ r why. inr (
      some_octets c.args.said.now c.is_empty.result c.if-is_empty.false c.is_empty.ensures,
      why,
    )) is) c.begin_by.ensures.refusal
