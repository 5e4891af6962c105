-- Which refusal ends a run of `export` (own). Each is said to stand only where none before it does.
-- What was read is told by a predicate: it holds of any octets that begin with it, and of no others
-- where the source has ended.
use Rattle.std.specs.Prelude.{ℕ, List, Option}
use Rattle.st_format.specs.Device.{AreOctets}
use Rattle.media_file.specs.CaptureFaults.{IsCaptureFault}
use Rattle.run_outcome.specs.declared.refusal.Refusal.{Refusal}
use Rattle.run_outcome.specs.declared.refusal.Refusal.TheVariants as refusal
use Rattle.export_engine.specs.Packets.{AreEnvelopes}
use Rattle.export_engine.specs.declared.places.Envelopes.{Envelopes}

-- the refusal of a capture of either version: the fault's condition holds of what was read
abbrev pub IsReadRefusal : (List ℕ → Type 0) → Refusal → Type 0
IsReadRefusal told (refusal.Capture f) =
    (octets : List ℕ) → told octets → AreOctets octets → IsCaptureFault f 16777216 octets
IsReadRefusal told r = ⊥

-- The refusals of `export` in their order: the texts are no flows to addresses; of the capture.
abbrev pub IsExportRefusal : List ℕ → Option (List ℕ) → (List ℕ → Type 0) → Refusal → Type 0
IsExportRefusal a b told refusal.ExportFlow = (es : Envelopes) → AreEnvelopes a b es → ⊥
IsExportRefusal a b told r =
    ((es : Envelopes) × AreEnvelopes a b es) × IsReadRefusal told r
