use Rattle.std.proofs.Common.{subst}
use Rattle.side_by_side.specs.Sides.{IsSideBySide, Sides}
use Rattle.side_by_side.proofs.sides.SideBySide.into_sides.Goals as goal

pub returns-clause-facts : goal.returns-clause-facts
returns-clause-facts g c =
    subst (λ (s : Sides _ _). IsSideBySide s) c.self.view_is c.self.invariant
