use Rattle.std.proofs.Common.{◌∙◌, List, Option, ap, length, subst, sym}
use Rattle.std.specs.Prelude.{IfSome, ◌+◌, ◌≤◌, ℕ}
use Rattle.std.proofs.lemmas.List.{length-map}
use Rattle.side_by_side.specs.Going.{first_place, sooner}
use Rattle.side_by_side.specs.Side.{goings}
use Rattle.side_by_side.specs.declared.going.Going.{Going}
use Rattle.side_by_side.specs.declared.side.Side.{Side}
use Rattle.side_by_side.proofs.Chosen.{place_fits}
use Rattle.side_by_side.proofs.Told.{some_within}
use Rattle.side_by_side.proofs.choosing.+first_side.Goals as goal

pub sooner-requires : goal.sooner-requires
sooner-requires g t c =
    let parts = c.in-Some.ensures.cases in
    subst (λ (x : Option (ℕ × Going)). IfSome x (λ y. y.0 + 1 ≤ length c.args.sides.now))
    (sym c.first_side.ensures.first)
    (place_fits (goings c.in-Some.rest.now) c.in-Some.first.now.going (length c.args.sides.now)
    (ap (λ (n : ℕ). n + 1) (length-map c.in-Some.rest.now (λ s. s.going)) ∙ parts.1))

pub returns-clause-first : goal.returns-clause-first
returns-clause-first g t c =
    let parts = c.in-Some.ensures.cases in
    c.sooner.ensures
    ∙ ap (λ (x : Option (ℕ × Going)). sooner c.in-Some.first.now.going x) c.first_side.ensures.first
    ∙ sym (ap (λ (ss : List (Side _ _)). first_place (goings ss)) parts.0)

pub returns-clause-within : goal.returns-clause-within
returns-clause-within g t c =
    some_within c.sooner.result c.args.sides.now (returns-clause-first g t c)
