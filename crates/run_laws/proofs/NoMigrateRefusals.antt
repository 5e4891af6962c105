-- Against what a run of `migrate` read that ended well no refusal speaks.
use Rattle.std.proofs.Common.{◌≡◌, ℕ, List, [], ◌∙◌, ap}
use Rattle.st_format.proofs.Histories.{since_is}
use Rattle.media_file.specs.Migrated.{old_at}
use Rattle.media_file.specs.Records.{Entry}
use Rattle.run_outcome.specs.Moments.{WasRead}
use Rattle.run_outcome.specs.Text.{GivesText}
use Rattle.run_outcome.specs.TextRefusals.{SaysCaptureText}
use Rattle.run_outcome.specs.declared.refusal.Refusal.{Refusal}
use Rattle.run_outcome.specs.declared.refusal.Refusal.TheVariants as why
use Rattle.capture_engines.specs.MigrateRefused.{IsMigrateRefusal}
use Rattle.capture_engines.specs.Migrating.{PrintsMigrated}
use Rattle.run_laws.specs.Received.{read_of}
use Rattle.run_laws.proofs.NoProcessRefusals.{not_text}
use Rattle.run_laws.proofs.NoRefusals.{apart}
use Rattle.run_laws.proofs.Receiving.{was_read}

pub migrate_not : {D S : Type 0} (text_gave : D → List ℕ) (text_ended : D → Type 0)
    (gave : S → List ℕ) (ended : S → Type 0) (sdp sdp_later : D) (source later : S)
    (old new shown printed : List ℕ) (r : Refusal)
    → PrintsMigrated
    (GivesText 65535 (text_gave sdp) (text_gave sdp_later) (text_ended sdp_later))
    (gave source) (gave later) (ended later) old new shown printed
    → SaysCaptureText (WasRead text_gave text_ended (sdp, sdp_later))
    → IsMigrateRefusal (WasRead text_gave text_ended (sdp, sdp_later))
    (WasRead gave ended (source, later)) r → ⊥
migrate_not text_gave text_ended gave ended sdp sdp_later source later old new shown printed
    (why.Capture f) run says wrong =
    let read = run.migrated.written.read in
    let octets : List ℕ = read_of gave (source, later) in
    let rest : List ℕ = [] in
    let pair : List Entry × List ℕ = (run.migrated.written.entries, rest) in
    let same : octets ≡ read.part = since_is (gave source) (gave later) read.part read.grown in
    apart (old_at 16777216 octets) pair f (ap (old_at 16777216) same ∙ read.says)
    (wrong.1 octets (was_read gave ended (source, later)))
migrate_not text_gave text_ended gave ended sdp sdp_later source later old new shown printed r
    run says wrong =
    let text : List ℕ = read_of text_gave (sdp, sdp_later) in
    let there = was_read text_gave text_ended (sdp, sdp_later) in
    not_text why.MigrateSdp (WasRead text_gave text_ended (sdp, sdp_later)) text r there
    (says text there) wrong
