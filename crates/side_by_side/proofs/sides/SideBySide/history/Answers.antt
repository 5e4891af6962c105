use Rattle.std.proofs.Common.{◌∙◌, List, ap, subst}
use Rattle.std.specs.List.{AllByRecursion}
use Rattle.recording_engines.specs.Files.{HasKnownOctets, IsReadByFlows}
use Rattle.side_by_side.specs.declared.side.Side.{Side}
use Rattle.side_by_side.specs.Sides.{AllOver, HasGivenAll, Sides}
use Rattle.side_by_side.proofs.Sound.{seen}
use Rattle.side_by_side.proofs.Whole.{given_all}
use Rattle.side_by_side.proofs.sides.SideBySide.history.Goals as goal

pub returns-clause-known : goal.returns-clause-known
returns-clause-known g c =
    subst (λ (ss : List (Side _ _)).
    AllByRecursion (λ s. HasKnownOctets g.S.ByteSource.gave g.S.ByteSource.ended s.file) ss)
    (c.deref.ensures.value ∙ ap (λ (s : Sides _ _). s.sides) c.self.view_is)
    c.know_all.ensures.known

pub returns-clause-by_flows : goal.returns-clause-by_flows
returns-clause-by_flows g c =
    subst (λ (ss : List (Side _ _)). AllByRecursion (λ s. IsReadByFlows s.file) ss)
    (c.deref.ensures.value ∙ ap (λ (s : Sides _ _). s.sides) c.self.view_is)
    c.know_all.ensures.by_flows

pub returns-clause-all : goal.returns-clause-all
returns-clause-all g c =
    let gave = g.S.ByteSource.gave in
    let ended = g.S.ByteSource.ended in
    let was = c.self.inside in
    subst (λ (s : Sides _ _). AllOver s.sides → HasGivenAll gave ended s) c.self.view_is
    (λ over. given_all gave ended
    (seen was.steering was.sides.items was.delivered was.failures was.fault) c.self.invariant
    (rw c.deref.ensures.value at c.know_all.ensures.known) over)
