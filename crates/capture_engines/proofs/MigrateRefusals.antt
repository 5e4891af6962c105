-- Which refusal ends a run of `migrate`.
use Rattle.std.proofs.Common.{◌≡◌, ℕ, inl, inr, List, Err}
use Rattle.st_format.specs.History.{IsRead}
use Rattle.media_file.specs.Faults.{IfContent}
use Rattle.media_file.specs.Fields.{GaveFault}
use Rattle.media_file.proofs.Gave.{fault_read}
use Rattle.media_file.specs.Migrated.{old_at}
use Rattle.media_file.specs.declared.fault.FileFault.{FileFault}
use Rattle.media_file.specs.declared.fault.FileFault.TheVariants.{NoMemory, Device, BadName}
use Rattle.media_file.specs.declared.fault.FileFault.TheVariants.{BadVersion, Truncated, BadField}
use Rattle.media_file.specs.declared.fault.FileFault.TheVariants.{TrailingBytes, MixedGroup}
use Rattle.media_file.specs.declared.fault.FileFault.TheVariants.{TooManyRecords}
use Rattle.sdp_format.specs.declared.fault.SdpFault.TheVariants as sdp
use Rattle.run_outcome.specs.LowerFaults.{capture_fault}
use Rattle.capture_engines.specs.MigrateRefused.{IsCaptureRefusal, IsMigrateRefusal}
use Rattle.run_outcome.specs.TextRefusals.{IsTextRefusal, SaysCaptureText}
use Rattle.run_outcome.specs.Refusing.{OfRefusal}
use Rattle.run_outcome.specs.declared.refusal.Refusal.{Refusal}
use Rattle.run_outcome.specs.declared.refusal.Refusal.TheVariants as why

told_octets : (before now : List ℕ) (ended : Type 0) (f : FileFault)
    → GaveFault (old_at 16777216) before now ended f → (octets : List ℕ)
    → IsRead before now ended octets → IfContent f (old_at 16777216 octets ≡ Err f)
told_octets before now ended f fails octets read =
    fault_read (old_at 16777216) before now ended f octets fails read

-- a fault of a capture's file as a refusal
pub capture_refused : (before now : List ℕ) (ended : Type 0) (f : FileFault)
    → GaveFault (old_at 16777216) before now ended f
    → OfRefusal (capture_fault f) (IsCaptureRefusal (IsRead before now ended))
capture_refused before now ended NoMemory fails = tt
capture_refused before now ended Device fails = tt
capture_refused before now ended BadName fails = told_octets before now ended BadName fails
capture_refused before now ended BadVersion fails = told_octets before now ended BadVersion fails
capture_refused before now ended Truncated fails = told_octets before now ended Truncated fails
capture_refused before now ended BadField fails = told_octets before now ended BadField fails
capture_refused before now ended TrailingBytes fails =
    told_octets before now ended TrailingBytes fails
capture_refused before now ended MixedGroup fails = told_octets before now ended MixedGroup fails
capture_refused before now ended TooManyRecords fails =
    told_octets before now ended TooManyRecords fails

-- the refusals of a text and of a capture are those of `migrate`
pub text_refused : (sdp source : List ℕ → Type 0) (r : Refusal)
    → IsTextRefusal why.MigrateSdp sdp r → IsMigrateRefusal sdp source r
text_refused sdp source (why.Capture f) (inl is) = absurd (other is.0)
  where
    other : why.Capture f ≡ why.MigrateSdp → ⊥
    other same = cc
text_refused sdp source (why.Capture f) (inr is) = absurd is.1
text_refused sdp source r is = is

pub file_refused : (sdp source : List ℕ → Type 0) → SaysCaptureText sdp → (r : Refusal)
    → IsCaptureRefusal source r → IsMigrateRefusal sdp source r
file_refused sdp source says (why.Capture f) is = (says, is)
file_refused sdp source says r is = absurd is
