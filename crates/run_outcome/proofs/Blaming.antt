-- What the fault of a file says of how often its source failed.
use Rattle.std.proofs.Common.{◌≡◌, ℕ, ◌-◌, ◌^◌, inl, inr, [], ◌∷◌, arith, sym, subst}
use Rattle.std.proofs.lemmas.Bool.{cases_lt}
use Rattle.media_file.specs.declared.fault.FileFault.TheVariants as file
use Rattle.pcap_file.specs.declared.fault.RecordingFault.TheVariants as recording
use Rattle.recording_reader.specs.Files.{CountsReadingFault}
use Rattle.recording_reader.specs.declared.fault.ReadingFault.{ReadingFault}
use Rattle.recording_reader.specs.declared.fault.ReadingFault.TheVariants.{Capture, Recording}
use Rattle.run_outcome.specs.Fault.{Blames, counts}
use Rattle.run_outcome.specs.declared.fault.Fault.{Fault}
use Rattle.run_outcome.specs.LowerFaults.{reading_fault}
use Rattle.st_format.specs.Device.{CountsOne, Failed}

pub failed_one : (old new : ℕ) → CountsOne old new → Failed old new
failed_one old new is = elim (cases_lt old (2 ^ 64 - 1)) [
  | inl less ↦ inl (omega (arith, is, less))
  | inr most ↦ inr (omega (arith, most))
]

pub reading_blames : (f : ReadingFault) (old new : ℕ) → CountsReadingFault f old new
    → Blames (counts old new ∷ []) (reading_fault f)
reading_blames (Capture file.NoMemory) old new is = is
reading_blames (Capture file.Device) old new is = failed_one old new is
reading_blames (Capture file.BadName) old new is = is
reading_blames (Capture file.BadVersion) old new is = is
reading_blames (Capture file.Truncated) old new is = is
reading_blames (Capture file.BadField) old new is = is
reading_blames (Capture file.TrailingBytes) old new is = is
reading_blames (Capture file.MixedGroup) old new is = is
reading_blames (Capture file.TooManyRecords) old new is = is
reading_blames (Recording recording.Device) old new is = failed_one old new is
reading_blames (Recording recording.Truncated) old new is = is
reading_blames (Recording recording.BadMagic) old new is = is
reading_blames (Recording recording.BadVersion) old new is = is
reading_blames (Recording recording.BadBlock) old new is = is
reading_blames (Recording recording.BadInterface) old new is = is
reading_blames (Recording recording.TooManyInterfaces) old new is = is
reading_blames (Recording recording.BadTime) old new is = is
reading_blames (Recording recording.PacketTooLong) old new is = is
reading_blames (Recording recording.Packed) old new is = is
reading_blames (Recording recording.TooManyBlocks) old new is = is

-- so what a run ends by, of a source that had not failed before
pub reading_blamed : (f : ReadingFault) (g : Fault) (was old new : ℕ) → old ≡ was
    → CountsReadingFault f old new → g ≡ reading_fault f → Blames (counts was new ∷ []) g
reading_blamed f g was old new same counted is =
    subst (λ (x : Fault). Blames (counts was new ∷ []) x) (sym is)
    (reading_blames f was new (subst (λ (n : ℕ). CountsReadingFault f n new) same counted))
