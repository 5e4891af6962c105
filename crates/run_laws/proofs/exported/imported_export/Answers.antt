use Rattle.std.proofs.Common.{subst}
use Rattle.run_outcome.specs.Moments.{WasRead}
use Rattle.run_outcome.specs.Text.{GivesText}
use Rattle.recording_engines.specs.Files.{ended_by, gave_by}
use Rattle.run_laws.proofs.ImportedExport.{imported_records, run_written}
use Rattle.run_laws.proofs.Receiving.{was_read}
use Rattle.run_laws.proofs.exported.imported_export.Goals as goal

pub returns-clause-records : goal.returns-clause-records
returns-clause-records g c =
    λ a b counts source later old new run sdp sdp_later file file_later took took' shown shown' sums
    taken same two fit few.
    let told = g.T.ByteSource in
    let read = WasRead (gave_by told.gave) (ended_by told.ended) (file, file_later) in
    imported_records a b counts (g.S.ByteSource.gave source) (g.S.ByteSource.gave later)
    (g.S.ByteSource.ended later) old new run
    (GivesText 65535 (g.D.ByteSource.gave sdp) (g.D.ByteSource.gave sdp_later)
    (g.D.ByteSource.ended sdp_later)) (WasRead (gave_by told.gave) (ended_by told.ended))
    (file, file_later) took took' shown shown' sums taken
    (subst read same (was_read (gave_by told.gave) (ended_by told.ended) (file, file_later))) two fit
    few

pub returns-clause-written : goal.returns-clause-written
returns-clause-written g c =
    λ a b sdp sdp_later file file_later took took' shown shown' sums taken.
    run_written taken
