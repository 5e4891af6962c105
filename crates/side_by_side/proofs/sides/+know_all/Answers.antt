use Rattle.std.proofs.Common.{List, subst, sym}
use Rattle.std.specs.List.{AllByRecursion}
use Rattle.recording_engines.specs.Files.{HasKnownOctets, IsReadByFlows}
use Rattle.side_by_side.specs.declared.side.Side.{Side}
use Rattle.side_by_side.proofs.sides.+know_all.Goals as goal

pub returns-clause-known : goal.returns-clause-known
returns-clause-known g t c =
    let parts = c.in-Some.ensures.cases in
    subst (λ (ss : List (Side _ _)).
    AllByRecursion (λ s. HasKnownOctets g.S.ByteSource.gave g.S.ByteSource.ended s.file) ss)
    (sym parts.0) (c.know.ensures.known, c.know_all.ensures.known)

pub returns-clause-by_flows : goal.returns-clause-by_flows
returns-clause-by_flows g t c =
    let parts = c.in-Some.ensures.cases in
    subst (λ (ss : List (Side _ _)). AllByRecursion (λ s. IsReadByFlows s.file) ss)
    (sym parts.0) (c.know.ensures.by_flows, c.know_all.ensures.by_flows)
