-- What a run of `export` read, wrote and printed (own).
use Rattle.std.specs.Prelude.{◌≡◌, ℕ, ◌+◌, ◌⊎◌, List, [], ◌∷◌, ◌++◌, length, Option}
use Rattle.st_format.specs.Device.{GrowsPart}
use Rattle.media_file.specs.Capture.{Content, capture_walk, records_at}
use Rattle.media_file.specs.Fields.{GaveFault}
use Rattle.st_format.specs.Given.{GaveValue, GaveWhole}
use Rattle.media_file.specs.Fronts.{front_at}
use Rattle.media_file.specs.Reading.{entries_in}
use Rattle.media_file.specs.Records.{AllFit, Entry, records_text}
use Rattle.media_file.specs.declared.fault.FileFault.{FileFault}
use Rattle.media_file.specs.declared.fault.FileFault.TheVariants as file
use Rattle.run_outcome.specs.Line.{line_text}
use Rattle.run_outcome.specs.declared.fault.Fault.{Fault}
use Rattle.run_outcome.specs.declared.fault.Fault.TheVariants as fault
use Rattle.run_outcome.specs.declared.line.Line.TheVariants as line
use Rattle.run_outcome.specs.declared.refusal.Refusal.TheVariants as refusal
use Rattle.pcap_file.specs.Writing.{file_text}
use Rattle.export_engine.specs.Packets.{AreEnvelopes, packet_count, packets_text, pcap_text}
use Rattle.export_engine.specs.declared.places.Envelopes.{Envelopes}
use Rattle.export_engine.specs.declared.packets.ExportCounts.{ExportCounts}

-- how many of some records have a packet, and how many are left out
pub record CountsPackets (es : Envelopes) (entries : List Entry) (counts : ExportCounts)
    : Type 0 where
  pub written : counts.written ≡ packet_count es entries
  pub all : counts.written + counts.left_out ≡ length entries

-- records up to the source's end were read, and their packets written
pub record ExportsRecords (limit : ℕ) (es : Envelopes) (counts : ExportCounts)
    (before now : List ℕ) (ended : Type 0) (took took' : List ℕ) : Type 0 where
  pub entries : List Entry
  pub read : GaveWhole (records_at limit) before now ended entries
  pub written : took' ≡ took ++ packets_text es entries
  pub counted : CountsPackets es entries counts

-- a capture was read, of either version, all that its source gave, and a recording of it written
pub record ExportsCapture (limit : ℕ) (es : Envelopes) (counts : ExportCounts)
    (before now : List ℕ) (ended : Type 0) (took took' : List ℕ) : Type 0 where
  pub content : Content
  pub read : GaveWhole (capture_walk limit) before now ended content
  pub written : took' ≡ took ++ pcap_text es content.records
  pub counted : CountsPackets es content.records counts

-- so by the texts of two flows
pub record Exports (a : List ℕ) (b : Option (List ℕ)) (counts : ExportCounts)
    (before now : List ℕ) (ended : Type 0) (took took' : List ℕ) : Type 0 where
  pub envelopes : Envelopes
  pub are : AreEnvelopes a b envelopes
  pub exported : ExportsCapture 16777216 envelopes counts before now ended took took'

-- and the numbers were printed
pub record PrintsExported (a : List ℕ) (b : Option (List ℕ)) (before now : List ℕ)
    (ended : Type 0) (took took' shown shown' : List ℕ) : Type 0 where
  pub counts : ExportCounts
  pub exported : Exports a b counts before now ended took took'
  pub printed : shown'
      ≡ shown ++ (line_text (line.Exported counts.written counts.left_out) ++ 10 ∷ [])

-- ---- where it stops

-- A sink took a text; or, where a device failed, maybe only a first part of it.
abbrev pub TakesUpTo : FileFault → List ℕ → List ℕ → List ℕ → Type 0
TakesUpTo file.Device took took' text = (took' ≡ took ++ text) ⊎ GrowsPart took took' text
TakesUpTo f took took' text = took' ≡ took ++ text

-- Whole records were read, and behind them octets that are none; and the sink took, behind this
-- text, the packets of those records, as far as the fault says.
pub record StopsPackets (head : List ℕ) (es : Envelopes) (f : FileFault)
    (before now took took' : List ℕ) : Type 0 where
  pub entries : List Entry
  pub fit : AllFit entries
  pub rest : List ℕ
  pub grown : now ≡ before ++ (records_text entries ++ rest)
  pub none : entries_in rest ≡ []
  pub taken : TakesUpTo f took took' (head ++ packets_text es entries)

-- A capture was exported up to a fault: what its source gave is no front of one, and nothing was
-- written; or a text was read at its front, and behind it records, whose packets were written.
pub data StopsExport (es : Envelopes) (f : FileFault) (before now : List ℕ) (ended : Type 0)
    (took took' : List ℕ) : Type 0 where
  Unread : GaveFault front_at before now ended f → took' ≡ took
      → StopsExport es f before now ended took took'
  Begun : (text mid : List ℕ) → GaveValue front_at before mid text
      → StopsPackets file_text es f mid now took took'
      → StopsExport es f before now ended took took'

-- nothing was read or written
abbrev pub IsUntouched : List ℕ → List ℕ → List ℕ → List ℕ → Type 0
IsUntouched before now took took' = (now ≡ before) × (took' ≡ took)

-- what a capture's fault left, or want of memory
abbrev pub LeavesRecording : Fault → Envelopes → List ℕ → List ℕ → Type 0 → List ℕ → List ℕ
    → Type 0
LeavesRecording (fault.Refused (refusal.Capture f)) es before now ended took took' =
    StopsExport es f before now ended took took'
LeavesRecording (fault.Refused r) es before now ended took took' = ⊥
LeavesRecording fault.Device es before now ended took took' =
    StopsExport es file.Device before now ended took took'
LeavesRecording fault.Memory es before now ended took took' = IsUntouched before now took took'

-- by the texts of two flows a capture was exported up to a fault
pub record StopsByFlows (a : List ℕ) (b : Option (List ℕ)) (f : FileFault)
    (before now : List ℕ) (ended : Type 0) (took took' : List ℕ) : Type 0 where
  pub envelopes : Envelopes
  pub are : AreEnvelopes a b envelopes
  pub stopped : StopsExport envelopes f before now ended took took'

-- all was exported, and printing failed
abbrev pub ExportsUnsaid : List ℕ → Option (List ℕ) → List ℕ → List ℕ → Type 0 → List ℕ → List ℕ
    → Type 0
ExportsUnsaid a b before now ended took took' =
    (counts : ExportCounts) × Exports a b counts before now ended took took'

-- What a run did that came to a fault: the capture was exported up to its fault, or up to where a
-- device failed; or it was neither read nor written; or all of it was exported.
abbrev pub LeavesExport : Fault → List ℕ → Option (List ℕ) → List ℕ → List ℕ → Type 0 → List ℕ
    → List ℕ → Type 0
LeavesExport (fault.Refused (refusal.Capture f)) a b before now ended took took' =
    StopsByFlows a b f before now ended took took'
LeavesExport (fault.Refused r) a b before now ended took took' =
    IsUntouched before now took took'
LeavesExport fault.Device a b before now ended took took' =
    StopsByFlows a b file.Device before now ended took took'
    ⊎ ExportsUnsaid a b before now ended took took'
LeavesExport fault.Memory a b before now ended took took' =
    IsUntouched before now took took' ⊎ ExportsUnsaid a b before now ended took took'
