use Rattle.recording_engines.specs.Files.{ended_by, gave_by}
use Rattle.run_laws.proofs.NoImportRefusals.{import_not}
use Rattle.run_laws.proofs.unrefused.import_unrefused.Goals as goal

pub returns : goal.returns
returns g c =
    λ a b sdp sdp_later files took took' shown shown' other other' sums r run.
    import_not g.D.ByteSource.gave g.D.ByteSource.ended (gave_by g.S.ByteSource.gave)
    (ended_by g.S.ByteSource.ended) a b sdp sdp_later files took took' shown shown' sums run other
    other' r
