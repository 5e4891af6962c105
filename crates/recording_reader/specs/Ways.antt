-- Where a reader of a file of datagrams stands, by the kind of the file.
use Rattle.std.specs.Prelude.{◌≡◌, ℕ, ◌≤◌, ⊤, Bool, true, false, List, [], ◌++◌, Option, None, Some}
use Rattle.std.specs.Prelude.{Ok}
use Rattle.flow.specs.declared.flows.Flows.{Flows}
use Rattle.recording_counts.specs.LeftOut.{left_out_of}
use Rattle.recording_counts.specs.declared.left_out.LeftOut.{LeftOut}
use Rattle.media_file.specs.Fronts.{front_at}
use Rattle.media_file.specs.Records.{AllFit, Entry, records_text}
use Rattle.pcap_file.specs.PcapReading.{Recorded}
use Rattle.pcap_file.specs.Runs.{HasFailed, HasRead, HasReadAll, layout_seen, most_packet}
use Rattle.pcap_file.specs.declared.recording.Layout.{Layout}
use Rattle.recording_reader.specs.Capturing.{FailsRecord, IsNoRecord, ReadsRecord}
use Rattle.recording_reader.specs.Files.{HasFrontBy}
use Rattle.recording_reader.specs.Found.{entry_at}
use Rattle.recording_reader.specs.Kinds.{is_recording}
use Rattle.recording_reader.specs.Reading.{FailsNext, ReadsToNext}
use Rattle.recording_reader.specs.Records.{omissions_of, records_of}
use Rattle.recording_reader.specs.declared.fault.ReadingFault.{ReadingFault}
use Rattle.recording_reader.specs.declared.fault.ReadingFault.TheVariants as fault
use Rattle.recording_reader.specs.declared.found.Found.{Found}
use Rattle.recording_reader.specs.declared.way.Standing.{Standing}
use Rattle.recording_reader.specs.declared.way.Standing.TheVariants.{Reads, Ended, Failed}
use Rattle.recording_reader.specs.declared.way.FileKind.{FileKind}
use Rattle.recording_reader.specs.declared.way.FileKind.TheVariants.{Capture, Recording}
use Rattle.st_format.specs.History.{GrewFrom}

-- ---- a capture

-- Octets stand before the records of a capture of this text, whatever is behind them.
pub record IsFront (text octets : List ℕ) : Type 0 where
  pub kind : (behind : List ℕ) → is_recording (octets ++ behind) ≡ false
  pub says : (behind : List ℕ) → front_at (octets ++ behind) ≡ Ok (text, behind)

-- what was read behind whole records, by where its reader stands: nothing, or at a fault what is
-- none
abbrev pub IsBehindRecords : Standing → Type 0 → List ℕ → Type 0
IsBehindRecords Reads ended octets = octets ≡ []
IsBehindRecords Ended ended octets = (octets ≡ []) × ended
IsBehindRecords (Failed (fault.Capture f)) ended octets = IsNoRecord f ended octets
IsBehindRecords (Failed (fault.Recording f)) ended octets = ⊥

-- Of a capture were read its front with this text, these records, and what is behind them.
pub record CaptureStands (standing : Standing) (before now : List ℕ) (ended : Type 0)
    (text : List ℕ) (records : List Entry) : Type 0 where
  pub front : List ℕ
  pub behind : List ℕ
  pub is_front : IsFront text front
  pub fit : AllFit records
  pub grown : now ≡ before ++ (front ++ (records_text records ++ behind))
  pub stands : IsBehindRecords standing ended behind

-- ---- a recording

-- packets were read of a source, by where its reader stands: up to here, up to the end, or up to
-- the fault
abbrev pub HasReadPackets : Standing → Layout → List ℕ → List ℕ → Type 0 → List Recorded → Type 0
HasReadPackets Reads layout before now ended packets =
    HasRead most_packet before now (layout_seen layout) packets
HasReadPackets Ended layout before now ended packets =
    HasReadAll most_packet before now ended packets
HasReadPackets (Failed (fault.Capture f)) layout before now ended packets = ⊥
HasReadPackets (Failed (fault.Recording f)) layout before now ended packets =
    HasFailed most_packet before now ended f packets

-- a source gave octets that begin a recording, and its front without a fault, whatever is behind
-- them
pub record HasBegun (before now : List ℕ) : Type 0 where
  pub part : List ℕ
  pub grown : now ≡ before ++ part
  pub kind : (behind : List ℕ) → is_recording (part ++ behind) ≡ true
  pub opens : (behind : List ℕ) → HasFrontBy true (part ++ behind)

-- Of a recording packets were read that have these records, and it is counted why the others have
-- none.
pub record RecordingStands (flows : Flows) (standing : Standing) (layout : Layout)
    (before now : List ℕ) (ended : Type 0) (records : List Entry) (left : LeftOut) : Type 0 where
  pub begun : HasBegun before now
  pub packets : List Recorded
  pub read : HasReadPackets standing layout before now ended packets
  pub records_are : records ≡ records_of flows packets
  pub left_is : left ≡ left_out_of (omissions_of flows packets)

-- ---- a file

-- where its reader stands: its flows, and what it has read since its source gave `before`
abbrev pub WayStands : FileKind → Option Flows → Standing → List ℕ → List ℕ → Type 0 → List ℕ
    → List Entry → Type 0
WayStands Capture flows standing before now ended text records =
    CaptureStands standing before now ended text records
WayStands (Recording t) flows standing before now ended text records =
    (flows ≡ Some t.flows) × (text ≡ [])
    × RecordingStands t.flows standing t.layout before now ended records t.left_out

-- of a file that was just opened
abbrev pub BeginsWay : FileKind → Option Flows → List ℕ → List ℕ → Type 0 → List ℕ → Type 0
BeginsWay way flows before now ended text = WayStands way flows Reads before now ended text []

-- whether it is a recording
abbrev pub is_recording_way : FileKind → Bool
is_recording_way Capture = false
is_recording_way (Recording t) = true

-- how many packets were left out; of a capture none
abbrev pub left_out_by : FileKind → LeftOut
left_out_by Capture = left_out_of []
left_out_by (Recording t) = t.left_out

-- there is the room that it needs
abbrev pub HasSpace : FileKind → ℕ → Type 0
HasSpace Capture count = 65535 ≤ count
HasSpace (Recording t) count = count ≡ most_packet

-- a datagram is at hand only between records
abbrev pub IsAtHand : Standing → Option Found → Type 0
IsAtHand standing None = ⊤
IsAtHand standing (Some f) = standing ≡ Reads

-- ---- what a call reads

-- the next record of a capture was read, or its end
abbrev pub ReadsNextRecord : Option Found → List ℕ → List ℕ → List ℕ → Type 0 → Type 0
ReadsNextRecord None buffer old new ended = (new ≡ old) × ended
ReadsNextRecord (Some f) buffer old new ended = ReadsRecord old new (entry_at f buffer)

-- so of a file, of the kind that it is
abbrev pub FindsNext : FileKind → FileKind → Option Found → List ℕ → List ℕ → List ℕ → Type 0 → Type 0
FindsNext Capture Capture found buffer old new ended =
    ReadsNextRecord found buffer old new ended
FindsNext (Recording t) (Recording u) found buffer old new ended = (u.flows ≡ t.flows)
    × GrewFrom old new
    × ReadsToNext t.flows found buffer old new ended t.layout u.layout t.left_out u.left_out
FindsNext was way found buffer old new ended = ⊥

-- a fault was found before the next record
abbrev pub FailsNextBy : FileKind → FileKind → ReadingFault → List ℕ → List ℕ → Type 0 → Type 0
FailsNextBy Capture Capture (fault.Capture f) old new ended = FailsRecord f old new ended
FailsNextBy (Recording t) (Recording u) (fault.Recording f) old new ended = (u.flows ≡ t.flows)
    × GrewFrom old new × FailsNext t.flows old new ended t.layout f t.left_out u.left_out
FailsNextBy was way f old new ended = ⊥
