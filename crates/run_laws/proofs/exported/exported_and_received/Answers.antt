use Rattle.st_format.specs.History.{since}
use Rattle.capture_engines.specs.Files.{capture_datagrams, file_datagrams}
use Rattle.capture_engines.specs.declared.way.Way.TheVariants.{Flows as ByFlows}
use Rattle.run_laws.proofs.ImportedExport.{one_received, run_datagrams}
use Rattle.run_laws.proofs.exported.exported_and_received.Goals as goal

pub returns-clause-datagrams : goal.returns-clause-datagrams
returns-clause-datagrams g c =
    λ a b counts source later old new run text flows asked two fit few bytes none.
    run_datagrams a b counts (g.S.ByteSource.gave source) (g.S.ByteSource.gave later)
    (g.S.ByteSource.ended later) old new run text flows asked two fit few bytes none

pub returns-clause-file : goal.returns-clause-file
returns-clause-file g c =
    λ a b counts source later old new run text flows window by said file other asked two fit few
    bytes none x y.
    one_received window by said
    (capture_datagrams (since (g.S.ByteSource.gave source) (g.S.ByteSource.gave later)))
    (file_datagrams (ByFlows flows) (since old new)) file other
    (run_datagrams a b counts (g.S.ByteSource.gave source) (g.S.ByteSource.gave later)
    (g.S.ByteSource.ended later) old new run text flows asked two fit few bytes none) x y
