use Rattle.std.proofs.Common.{List, subst, sym}
use Rattle.std.specs.List.{AllByRecursion}
use Rattle.recording_engines.specs.Files.{HasKnownOctets, IsReadByFlows}
use Rattle.recording_engines.specs.declared.file.ImportFile.{ImportFile}
use Rattle.recording_engines.proofs.files.+know_all.Goals as goal

pub returns-clause-known : goal.returns-clause-known
returns-clause-known g t c =
    let parts = c.in-Some.ensures.cases in
    subst (λ (fs : List (ImportFile _ _)).
    AllByRecursion (HasKnownOctets g.S.ByteSource.gave g.S.ByteSource.ended) fs) (sym parts.0)
    (c.know.ensures.known, c.know_all.ensures.known)

pub returns-clause-by_flows : goal.returns-clause-by_flows
returns-clause-by_flows g t c =
    let parts = c.in-Some.ensures.cases in
    subst (λ (fs : List (ImportFile _ _)). AllByRecursion IsReadByFlows fs) (sym parts.0)
    (c.know.ensures.by_flows, c.know_all.ensures.by_flows)
