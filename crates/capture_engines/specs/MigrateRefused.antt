-- Which refusal ends a run of `migrate` (own). Each is said to stand only where none before it
-- does. What was read is told by a predicate: it holds of any octets that begin with it, and of no
-- others where the source has ended.
use Rattle.std.specs.Prelude.{◌≡◌, ℕ, List, Err}
use Rattle.media_file.specs.Migrated.{old_at}
use Rattle.run_outcome.specs.declared.refusal.Refusal.{Refusal}
use Rattle.run_outcome.specs.declared.refusal.Refusal.TheVariants as refusal
use Rattle.run_outcome.specs.TextRefusals.{IsTextRefusal, SaysCaptureText}

-- the refusal of a capture of version 01: the fault is the first of what was read
abbrev pub IsCaptureRefusal : (List ℕ → Type 0) → Refusal → Type 0
IsCaptureRefusal told (refusal.Capture f) =
    (octets : List ℕ) → told octets → old_at 16777216 octets ≡ Err f
IsCaptureRefusal told r = ⊥

-- The refusals of `migrate` in their order: of the SDP text; of the capture.
abbrev pub IsMigrateRefusal : (List ℕ → Type 0) → (List ℕ → Type 0) → Refusal → Type 0
IsMigrateRefusal sdp source (refusal.Capture f) =
    SaysCaptureText sdp × IsCaptureRefusal source (refusal.Capture f)
IsMigrateRefusal sdp source r = IsTextRefusal refusal.MigrateSdp sdp r
