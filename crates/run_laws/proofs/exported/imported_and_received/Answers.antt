use Rattle.std.proofs.Common.{subst}
use Rattle.st_format.specs.History.{since}
use Rattle.run_outcome.specs.Moments.{WasRead}
use Rattle.run_outcome.specs.Text.{GivesText}
use Rattle.capture_engines.specs.Files.{capture_datagrams}
use Rattle.recording_engines.specs.Files.{ended_by, gave_by}
use Rattle.run_laws.proofs.ImportedExport.{imported_datagrams, one_received, text_short}
use Rattle.run_laws.proofs.Receiving.{was_read}
use Rattle.run_laws.proofs.exported.imported_and_received.Goals as goal

pub returns-clause-datagrams : goal.returns-clause-datagrams
returns-clause-datagrams g c =
    λ a b counts source later old new run sdp sdp_later file file_later took took' shown shown' sums
    taken same two fit few bytes none.
    let told = g.T.ByteSource in
    let read = WasRead (gave_by told.gave) (ended_by told.ended) (file, file_later) in
    imported_datagrams a b counts (g.S.ByteSource.gave source) (g.S.ByteSource.gave later)
    (g.S.ByteSource.ended later) old new run
    (GivesText 65535 (g.D.ByteSource.gave sdp) (g.D.ByteSource.gave sdp_later)
    (g.D.ByteSource.ended sdp_later)) (WasRead (gave_by told.gave) (ended_by told.ended))
    (file, file_later) took took' shown shown' sums taken (text_short taken.said)
    (subst read same (was_read (gave_by told.gave) (ended_by told.ended) (file, file_later))) two fit
    few bytes none

pub returns-clause-file : goal.returns-clause-file
returns-clause-file g c =
    λ a b counts source later old new run sdp sdp_later file file_later took took' shown shown' sums
    taken window by said received again same two fit few bytes none x y.
    let told = g.T.ByteSource in
    let read = WasRead (gave_by told.gave) (ended_by told.ended) (file, file_later) in
    one_received window by said
    (capture_datagrams (since (g.S.ByteSource.gave source) (g.S.ByteSource.gave later)))
    (capture_datagrams (since took took')) received again
    (imported_datagrams a b counts (g.S.ByteSource.gave source) (g.S.ByteSource.gave later)
    (g.S.ByteSource.ended later) old new run
    (GivesText 65535 (g.D.ByteSource.gave sdp) (g.D.ByteSource.gave sdp_later)
    (g.D.ByteSource.ended sdp_later)) (WasRead (gave_by told.gave) (ended_by told.ended))
    (file, file_later) took took' shown shown' sums taken (text_short taken.said)
    (subst read same (was_read (gave_by told.gave) (ended_by told.ended) (file, file_later))) two fit
    few bytes none) x y
