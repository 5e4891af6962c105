-- Reading a recording from one record of the flows to the next.
use Rattle.std.specs.Prelude.{◌≡◌, ℕ, List, [], ◌++◌, Option, None, Some, option_to_list}
use Rattle.flow.specs.declared.flows.Flows.{Flows}
use Rattle.recording_counts.specs.LeftOut.{left_out_of}
use Rattle.recording_counts.specs.declared.left_out.LeftOut.{LeftOut}
use Rattle.media_file.specs.Records.{Entry}
use Rattle.pcap_file.specs.PcapReading.{Recorded}
use Rattle.pcap_file.specs.Runs.{HasFailed, HasRead, HasReadAll, layout_seen, most_packet}
use Rattle.pcap_file.specs.declared.fault.RecordingFault.{RecordingFault}
use Rattle.pcap_file.specs.declared.recording.Layout.{Layout}
use Rattle.recording_reader.specs.Found.{entry_at}
use Rattle.recording_reader.specs.Records.{omissions_of, records_of}
use Rattle.recording_reader.specs.declared.found.Found.{Found}

-- the record that was found in a buffer, if one was
abbrev pub entry_there : Option Found → List ℕ → Option Entry
entry_there None buffer = None
entry_there (Some f) buffer = Some (entry_at f buffer)

-- packets were read of a source: up to here where something was found, and else all
abbrev pub HasReadTo : Option Found → List ℕ → List ℕ → Type 0 → Layout → List Recorded → Type 0
HasReadTo None before now ended layout packets = HasReadAll most_packet before now ended packets
HasReadTo (Some f) before now ended layout packets =
    HasRead most_packet before now (layout_seen layout) packets

-- Behind these packets others were read, of which the last one has the record that was found, if
-- any was, and no other has one. It is counted why packets have none.
pub record ReadsTo (flows : Flows) (found : Option Found) (buffer before now : List ℕ)
    (ended : Type 0) (layout : Layout) (left : LeftOut) (packets : List Recorded) : Type 0 where
  pub more : List Recorded
  pub read : HasReadTo found before now ended layout (packets ++ more)
  pub left_is : left ≡ left_out_of (omissions_of flows (packets ++ more))
  pub records : records_of flows more ≡ option_to_list (entry_there found buffer)

-- so it is, whatever was read before
abbrev pub ReadsToNext : Flows → Option Found → List ℕ → List ℕ → List ℕ → Type 0 → Layout
    → Layout → LeftOut → LeftOut → Type 0
ReadsToNext flows found buffer old new ended was layout left left' =
    (before : List ℕ) (packets : List Recorded)
    → HasRead most_packet before old (layout_seen was) packets
    → left ≡ left_out_of (omissions_of flows packets)
    → ReadsTo flows found buffer before new ended layout left' packets

-- Behind these packets others were read, none with a record, and then came a fault.
pub record FailsBehind (flows : Flows) (before now : List ℕ) (ended : Type 0) (f : RecordingFault)
    (left : LeftOut) (packets : List Recorded) : Type 0 where
  pub more : List Recorded
  pub failed : HasFailed most_packet before now ended f (packets ++ more)
  pub left_is : left ≡ left_out_of (omissions_of flows (packets ++ more))
  pub none : records_of flows more ≡ []

-- so it is, whatever was read before
abbrev pub FailsNext : Flows → List ℕ → List ℕ → Type 0 → Layout → RecordingFault → LeftOut
    → LeftOut → Type 0
FailsNext flows old new ended was f left left' =
    (before : List ℕ) (packets : List Recorded)
    → HasRead most_packet before old (layout_seen was) packets
    → left ≡ left_out_of (omissions_of flows packets)
    → FailsBehind flows before new ended f left' packets
