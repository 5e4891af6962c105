-- Which refusal ends a run of `export`, and what it leaves.
use Rattle.std.proofs.Common.{◌≡◌, ℕ, List, Option, inl, inr, Result, Ok, Err, subst}
use Rattle.std.specs.Prelude.{IfErr}
use Rattle.st_format.specs.Device.{AreOctets}
use Rattle.st_format.specs.History.{IsRead}
use Rattle.media_file.specs.Capture.{capture_walk}
use Rattle.media_file.specs.CaptureFaults.{IsCaptureFault}
use Rattle.media_file.specs.Faults.{IfContent}
use Rattle.media_file.specs.Fields.{GaveFault}
use Rattle.media_file.specs.Migrated.{IsOfCapture}
use Rattle.media_file.specs.declared.fault.FileFault.{FileFault}
use Rattle.media_file.specs.declared.fault.FileFault.TheVariants as file
use Rattle.media_file.proofs.GaveCaptures.{capture_refused}
use Rattle.run_outcome.specs.Fault.{IfRefused}
use Rattle.run_outcome.specs.LowerFaults.{capture_fault}
use Rattle.run_outcome.specs.Refusing.{OfRefusal}
use Rattle.run_outcome.specs.declared.fault.Fault.{Fault}
use Rattle.run_outcome.specs.declared.fault.Fault.TheVariants as fault
use Rattle.run_outcome.specs.declared.refusal.Refusal.{Refusal}
use Rattle.run_outcome.specs.declared.refusal.Refusal.TheVariants as why
use Rattle.export_engine.specs.ExportRefused.{IsExportRefusal, IsReadRefusal}
use Rattle.export_engine.specs.Exported.{Exports, IsUntouched, LeavesExport, LeavesRecording}
use Rattle.export_engine.specs.Exported.{StopsExport}
use Rattle.export_engine.specs.Packets.{AreEnvelopes}
use Rattle.export_engine.specs.declared.packets.ExportCounts.{ExportCounts}
use Rattle.export_engine.specs.declared.places.Envelopes.{Envelopes}

-- what holds of octets that were read
abbrev Wrong : (before now : List ℕ) → Type 0 → FileFault → Type 0
Wrong before now ended f = (octets : List ℕ) → IsRead before now ended octets → AreOctets octets
    → IfContent f (IsCaptureFault f 16777216 octets)

wrong_read : (before now : List ℕ) (ended : Type 0) (f : FileFault)
    → GaveFault (capture_walk 16777216) before now ended f → Wrong before now ended f
wrong_read before now ended f is =
    let r : Result ℕ FileFault = Err f in capture_refused 16777216 before now ended r is

refused_by : (before now : List ℕ) (ended : Type 0) (f : FileFault) → Wrong before now ended f
    → OfRefusal (capture_fault f) (IsReadRefusal (IsRead before now ended))
refused_by before now ended file.NoMemory wrong = tt
refused_by before now ended file.Device wrong = tt
refused_by before now ended file.BadName wrong = wrong
refused_by before now ended file.BadVersion wrong = wrong
refused_by before now ended file.Truncated wrong = wrong
refused_by before now ended file.BadField wrong = wrong
refused_by before now ended file.TrailingBytes wrong = wrong
refused_by before now ended file.MixedGroup wrong = wrong
refused_by before now ended file.TooManyRecords wrong = wrong

-- the refusal of a capture
pub read_refused : (before now : List ℕ) (ended : Type 0) (f : FileFault)
    → GaveFault (capture_walk 16777216) before now ended f
    → OfRefusal (capture_fault f) (IsReadRefusal (IsRead before now ended))
read_refused before now ended f is =
    refused_by before now ended f (wrong_read before now ended f is)

-- and what it leaves
pub recording_left : (es : Envelopes) (before now : List ℕ) (ended : Type 0)
    (took took' : List ℕ) (f : FileFault) → IsOfCapture f
    → StopsExport es f before now ended took took'
    → LeavesRecording (capture_fault f) es before now ended took took'
recording_left es before now ended took took' file.NoMemory named is = absurd named
recording_left es before now ended took took' file.Device named is = is
recording_left es before now ended took took' file.BadName named is = is
recording_left es before now ended took took' file.BadVersion named is = is
recording_left es before now ended took took' file.Truncated named is = is
recording_left es before now ended took took' file.BadField named is = is
recording_left es before now ended took took' file.TrailingBytes named is = absurd named
recording_left es before now ended took took' file.MixedGroup named is = absurd named
recording_left es before now ended took took' file.TooManyRecords named is = is

-- ---- the run

-- behind the flows the refusals are those of the capture
one_refusal : (a : List ℕ) (b : Option (List ℕ)) (told : List ℕ → Type 0) (es : Envelopes)
    → AreEnvelopes a b es → (r : Refusal) → IsReadRefusal told r → IsExportRefusal a b told r
one_refusal a b told es are (why.Capture f) is = ((es, are), is)
one_refusal a b told es are r is = absurd is

pub run_refused : (a : List ℕ) (b : Option (List ℕ)) (told : List ℕ → Type 0) (es : Envelopes)
    → AreEnvelopes a b es → (f : Fault) → OfRefusal f (IsReadRefusal told)
    → OfRefusal f (IsExportRefusal a b told)
run_refused a b told es are (fault.Refused r) is = one_refusal a b told es are r is
run_refused a b told es are fault.Device is = tt
run_refused a b told es are fault.Memory is = tt

pub run_left : (a : List ℕ) (b : Option (List ℕ)) (es : Envelopes) → AreEnvelopes a b es
    → (before now : List ℕ) (ended : Type 0) (took took' : List ℕ) (f : Fault)
    → LeavesRecording f es before now ended took took'
    → LeavesExport f a b before now ended took took'
run_left a b es are before now ended took took' (fault.Refused (why.Capture f)) is =
    record { envelopes = es; are = are; stopped = is }
run_left a b es are before now ended took took' (fault.Refused r) is = absurd is
run_left a b es are before now ended took took' fault.Device is =
    inl (record { envelopes = es; are = are; stopped = is })
run_left a b es are before now ended took took' fault.Memory is = inl is

-- all was exported, and printing failed
pub unsaid_left : {V : Type 0} (r : Result V Fault) (a : List ℕ) (b : Option (List ℕ))
    (counts : ExportCounts) (before now : List ℕ) (ended : Type 0) (took took' : List ℕ)
    → Exports a b counts before now ended took took' → IfErr r (λ f. IfRefused f ⊥)
    → IfErr r (λ f. LeavesExport f a b before now ended took took')
unsaid_left (Ok v) a b counts before now ended took took' all none = tt
unsaid_left (Err (fault.Refused e)) a b counts before now ended took took' all none = absurd none
unsaid_left (Err fault.Device) a b counts before now ended took took' all none =
    inr (counts, all)
unsaid_left (Err fault.Memory) a b counts before now ended took took' all none =
    inr (counts, all)

-- ---- want of memory

-- where it is wanted, nothing was read or written
pub untouched_by : (f : Fault) (es : Envelopes) (before now : List ℕ) (ended : Type 0)
    (took took' : List ℕ) → LeavesRecording f es before now ended took took' → f ≡ fault.Memory
    → IsUntouched before now took took'
untouched_by f es before now ended took took' left memory =
    subst (λ (x : Fault). LeavesRecording x es before now ended took took') memory left
