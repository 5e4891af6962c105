-- A reader of a file of datagrams (own).
use Rattle.std.specs.Prelude.{◌≡◌, ℕ, ◌<◌, ⊤, Bool, true, false, List, [], ◌∷◌, ◌++◌, take}
use Rattle.std.specs.Prelude.{Option, None, Some}
use Rattle.flow.specs.declared.flows.Flows.{Flows}
use Rattle.recording_counts.specs.LeftOut.{left_out_of}
use Rattle.recording_counts.specs.declared.left_out.LeftOut.{LeftOut}
use Rattle.media_file.specs.Records.{Entry}
use Rattle.pcap_file.specs.Fields.{IsContent}
use Rattle.recording_reader.specs.Files.{AreFirst, CountsReadingFault, HasFirstRecords, HasFrontBy}
use Rattle.recording_reader.specs.Files.{HaveFileRecords, IfFile, IsFileFault, IsWholeFile}
use Rattle.recording_reader.specs.Files.{records_of_file}
use Rattle.recording_reader.specs.Files.{source_fault}
use Rattle.recording_reader.specs.Files.{text_of_file}
use Rattle.recording_reader.specs.Kinds.{is_recording}
use Rattle.recording_reader.specs.declared.fault.ReadingFault.{ReadingFault}
use Rattle.recording_reader.specs.declared.fault.ReadingFault.TheVariants.{Capture, Recording}
use Rattle.recording_reader.specs.declared.room.RecordView.{RecordView}
use Rattle.recording_reader.specs.declared.way.Standing.{Standing}
use Rattle.recording_reader.specs.declared.way.Standing.TheVariants.{Reads, Ended, Failed}
use Rattle.st_format.specs.Device.{CountsOne, Told}
use Rattle.st_format.specs.History.{IsRead}
use Rattle.st_format.specs.declared.device.SourceFault.{SourceFault}
use Rattle.st_format.specs.declared.device.Turn.{Turn}
use Rattle.st_format.specs.declared.device.Turn.TheVariants.{Datagram, Quiet, End}
use Rattle.st_format.specs.declared.path.Path.{Path}

-- What is seen of a reader: `before` is what its source told before the file's first octet,
-- `records` those of the datagrams that it gave, and `at_hand` the last one's, where that can be
-- borrowed.
pub record FileReader (S : Type 0) : Type 0 where
  pub source : S
  pub before : Told
  pub flows : Option Flows
  pub is_recording : Bool
  pub text : List ℕ
  pub standing : Standing
  pub records : List Entry
  pub at_hand : Option Entry
  pub left_out : LeftOut
  pub delivered : ℕ
  pub failures : ℕ

-- the fault that a reader stays at, where it came to one
abbrev pub fault_of : Standing → Option ReadingFault
fault_of Reads = None
fault_of Ended = None
fault_of (Failed f) = Some f

-- so as a source of datagrams tells it
abbrev pub last_fault_of : Standing → Option SourceFault
last_fault_of Reads = None
last_fault_of Ended = None
last_fault_of (Failed f) = Some (source_fault f)

-- ---- what is known of a file of which a reader read the first octets

-- While it reads, their first records; at the end, all of them; and at a fault of the file's that
-- this is its first, and which records come before it.
abbrev pub IsKnownBy : Option Flows → Standing → List ℕ → List Entry → LeftOut → Type 0
IsKnownBy flows Reads octets records left = AreFirst records (records_of_file flows octets)
IsKnownBy flows Ended octets records left =
    HaveFileRecords flows octets records left × IsWholeFile octets
IsKnownBy flows (Failed f) octets records left =
    AreFirst records (records_of_file flows octets)
    × IfFile f (HaveFileRecords flows octets records left × IsFileFault f octets)

-- its kind and its text, that its front has no fault, and which records it has
pub record IsKnownFile {S : Type 0} (r : FileReader S) (octets : List ℕ) : Type 0 where
  pub kind : is_recording octets ≡ r.is_recording
  pub text : text_of_file octets ≡ r.text
  pub front : HasFrontBy r.is_recording octets
  pub known : IsKnownBy r.flows r.standing octets r.records r.left_out

-- so it is of all octets of which those are the first that the source gave
abbrev pub HasGivenFile : {S : Type 0} → (S → List ℕ) → (S → Type 0) → FileReader S → Type 0
HasGivenFile gave ended r = (octets : List ℕ)
    → IsRead r.before.gave (gave r.source) (ended r.source) octets → IsKnownFile r octets

-- of a capture, its front and the text of its records among all such octets
abbrev pub HasGivenRecords : {S : Type 0} → (S → List ℕ) → (S → Type 0) → FileReader S → Type 0
HasGivenRecords gave ended r = (octets : List ℕ)
    → IsRead r.before.gave (gave r.source) (ended r.source) octets
    → HasFirstRecords r.text r.records octets

-- Just what was given is known where a reader stands: but where its source failed within a packet
-- of a recording, of which it isn't said that the octets so far have no other record.
abbrev pub IsExact : Standing → Type 0
IsExact Reads = ⊤
IsExact Ended = ⊤
IsExact (Failed (Capture f)) = ⊤
IsExact (Failed (Recording f)) = IsContent f

-- ---- what a call does

-- a reader that has told nothing yet
pub record IsNewFileReader {S : Type 0} (flows : Option Flows) (r : FileReader S) : Type 0 where
  pub by_flows : r.flows ≡ flows
  pub reads : r.standing ≡ Reads
  pub records : r.records ≡ []
  pub at_hand : r.at_hand ≡ None
  pub left_out : r.left_out ≡ left_out_of []
  pub delivered : r.delivered ≡ 0
  pub failures : r.failures ≡ 0

-- what stays while a file is read
pub record IsSameFile {S : Type 0} (old new : FileReader S) : Type 0 where
  pub before : new.before ≡ old.before
  pub flows : new.flows ≡ old.flows
  pub kind : new.is_recording ≡ old.is_recording
  pub text : new.text ≡ old.text

-- One record more was read, and its datagram is at hand.
pub record FindsOne {S : Type 0} (old new : FileReader S) : Type 0 where
  pub entry : Entry
  pub records : new.records ≡ old.records ++ entry ∷ []
  pub at_hand : new.at_hand ≡ Some entry
  pub reads : new.standing ≡ Reads
  pub delivered : CountsOne old.delivered new.delivered

-- None is left.
pub record FindsNone {S : Type 0} (old new : FileReader S) : Type 0 where
  pub records : new.records ≡ old.records
  pub at_hand : new.at_hand ≡ None
  pub ended : new.standing ≡ Ended
  pub delivered : new.delivered ≡ old.delivered

-- by what a call answers
abbrev pub FindsRecord : {S : Type 0} → Bool → FileReader S → FileReader S → Type 0
FindsRecord true old new = FindsOne old new
FindsRecord false old new = FindsNone old new

-- A fault was found, at which the reader stays.
pub record FindsFault {S : Type 0} (f : ReadingFault) (old new : FileReader S) : Type 0 where
  pub records : new.records ≡ old.records
  pub at_hand : new.at_hand ≡ None
  pub failed : new.standing ≡ Failed f
  pub delivered : new.delivered ≡ old.delivered

-- A call told the datagram of one record more, whose octets stand at the front of a buffer.
pub record TellsOne {S : Type 0} (path : Path) (count : ℕ) (buf : List ℕ) (old new : FileReader S)
    : Type 0 where
  pub entry : Entry
  pub records : new.records ≡ old.records ++ entry ∷ []
  pub by : path ≡ entry.path
  pub octets : take count buf ≡ entry.octets
  pub few : count < 65536
  pub at_hand : new.at_hand ≡ None
  pub reads : new.standing ≡ Reads
  pub delivered : CountsOne old.delivered new.delivered

-- by the turn that a call told: that, or the end
abbrev pub TellsNext : {S : Type 0} → Turn → List ℕ → FileReader S → FileReader S → Type 0
TellsNext (Datagram path count) buf old new = TellsOne path count buf old new
TellsNext Quiet buf old new = ⊥
TellsNext End buf old new = FindsNone old new

-- The datagram at hand was told, whose octets stand at the front of a buffer, or the end where
-- there is none.
abbrev pub TellsTurn : Option Entry → Turn → List ℕ → Type 0
TellsTurn None End buf = ⊤
TellsTurn (Some e) (Datagram path count) buf =
    (path ≡ e.path) × (take count buf ≡ e.octets) × (count < 65536)
TellsTurn at_hand turn buf = ⊥

-- the record that is borrowed
abbrev pub record_seen : Option RecordView → Option Entry
record_seen None = None
record_seen (Some r) = Some (record { path = r.path; moment = r.moment; octets = r.octets.now })

-- its octets; none where there is none
abbrev pub octets_at_hand : Option Entry → List ℕ
octets_at_hand None = []
octets_at_hand (Some e) = e.octets

-- a fault of the device is one failure of the source more, and all else none
abbrev pub CountsDeviceAt : Standing → ℕ → ℕ → Type 0
CountsDeviceAt Reads old new = new ≡ old
CountsDeviceAt Ended old new = new ≡ old
CountsDeviceAt (Failed f) old new = CountsReadingFault f old new
