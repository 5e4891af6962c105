-- A file of datagrams (own): a capture, or a recording of another tool, by its first four octets.
use Rattle.std.specs.Prelude.{◌≡◌, ℕ, ◌⊎◌, if◌then◌else◌, List, [], ◌++◌, Bool, true, false, map}
use Rattle.std.specs.Prelude.{Option, None, Some, Result, Ok, Err}
use Rattle.std.specs.List.{list_any}
use Rattle.flow.specs.declared.flows.Flows.{Flows}
use Rattle.recording_counts.specs.LeftOut.{left_out_of}
use Rattle.recording_counts.specs.declared.left_out.LeftOut.{LeftOut}
use Rattle.recording_counts.specs.declared.omission.Omission.{Omission}
use Rattle.media_file.specs.Faults.{CountsFault as CountsCaptureFault, IfContent as IfCapture}
use Rattle.media_file.specs.Fronts.{front_at}
use Rattle.media_file.specs.Reader.{due_of_entry}
use Rattle.media_file.specs.Reader.{source_fault as capture_source_fault}
use Rattle.media_file.specs.Reading.{entries_in, fault_at}
use Rattle.media_file.specs.Records.{AllFit, Entry, records_text}
use Rattle.media_file.specs.declared.fault.FileFault.{FileFault}
use Rattle.pcap_file.specs.Fields.{CountsFault as CountsRecordingFault, IfContent as IfRecording}
use Rattle.pcap_file.specs.RecordingFaults.{recording_fault_number}
use Rattle.pcap_file.specs.Runs.{Laid, fault_in, most_packet, opened_at, packets_in}
use Rattle.pcap_file.specs.declared.fault.RecordingFault.{RecordingFault}
use Rattle.pcap_file.specs.declared.fault.RecordingFault.TheVariants.{Device}
use Rattle.recording_reader.specs.Kinds.{is_recording}
use Rattle.recording_reader.specs.Records.{omissions_of, records_in}
use Rattle.recording_reader.specs.declared.fault.ReadingFault.{ReadingFault}
use Rattle.recording_reader.specs.declared.fault.ReadingFault.TheVariants.{Capture, Recording}
use Rattle.st_format.specs.Turns.{came_of, is_path}
use Rattle.st_format.specs.declared.device.SourceFault.{SourceFault}
use Rattle.st_format.specs.declared.device.SourceFault.TheVariants.{Content}
use Rattle.st_format.specs.declared.device.SourceFault.TheVariants.{Device as FailedDevice}
use Rattle.st_format.specs.declared.path.Path.{Path}

-- ---- its records

-- the records behind the front of a capture, up to their end or their first fault; none where there
-- is no front
abbrev pub records_behind : Result (List ℕ × List ℕ) FileFault → List Entry
records_behind (Ok x) = entries_in x.1
records_behind (Err f) = []

-- the records of a capture, up to its end or its first fault
abbrev pub capture_records : List ℕ → List Entry
capture_records octets = records_behind (front_at octets)

-- those of a recording, by the flows of the paths; none where there are no flows
abbrev pub records_by : Option Flows → List ℕ → List Entry
records_by None octets = []
records_by (Some flows) octets = records_in flows octets

-- The records of a file, up to its end or its first fault: a recording is taken by the flows of the
-- paths, and all else is a capture.
abbrev pub records_of_file : Option Flows → List ℕ → List Entry
records_of_file flows octets =
    if is_recording octets then records_by flows octets else capture_records octets

-- the datagrams of records, each with its path, in order
abbrev pub datagrams_of : List Entry → List (Path × List ℕ)
datagrams_of records = came_of (map due_of_entry records)

-- a record came by this path
abbrev pub has_path : Path → List Entry → Bool
has_path path records = list_any (λ e. is_path path e.path) records

-- the datagrams of a file, each with its path, up to its end or its first fault
abbrev pub datagrams_of_file : Option Flows → List ℕ → List (Path × List ℕ)
datagrams_of_file flows octets = datagrams_of (records_of_file flows octets)

-- why packets of a recording have no record
abbrev pub omissions_by : Option Flows → List ℕ → List Omission
omissions_by None octets = []
omissions_by (Some flows) octets = omissions_of flows (packets_in most_packet octets)

-- of a capture each record is taken
abbrev pub omissions_of_file : Option Flows → List ℕ → List Omission
omissions_of_file flows octets = if is_recording octets then omissions_by flows octets else []

-- ---- its text

-- the text at the front of a capture; none where there is no front
abbrev pub text_before : Result (List ℕ × List ℕ) FileFault → List ℕ
text_before (Ok x) = x.0
text_before (Err f) = []

-- a recording has none
abbrev pub text_of_file : List ℕ → List ℕ
text_of_file octets = if is_recording octets then [] else text_before (front_at octets)

-- ---- its fault

-- The fault is the file's: then this holds. One of the device says nothing of the file.
abbrev pub IfFile : ReadingFault → Type 0 → Type 0
IfFile (Capture f) P = IfCapture f P
IfFile (Recording f) P = IfRecording f P

-- What is wrong behind the records at the front of octets: what follows is none, by this fault.
pub record HasWrongRecord (octets : List ℕ) (f : FileFault) : Type 0 where
  pub records : List Entry
  pub behind : List ℕ
  pub fit : AllFit records
  pub parts : octets ≡ records_text records ++ behind
  pub fault : fault_at behind ≡ Some f

-- what is wrong with a capture: its front, or what is behind its records
abbrev pub HasWrongPart : List ℕ → FileFault → Type 0
HasWrongPart octets f = (front_at octets ≡ Err f)
    ⊎ ((x : List ℕ × List ℕ) × (front_at octets ≡ Ok x) × HasWrongRecord x.1 f)

-- the first fault of a file: a capture's, or a recording's by what it begins with
abbrev pub IsFileFault : ReadingFault → List ℕ → Type 0
IsFileFault (Capture f) octets = (is_recording octets ≡ false) × HasWrongPart octets f
IsFileFault (Recording f) octets =
    (is_recording octets ≡ true) × (fault_in most_packet octets ≡ Some f)

-- one of a file's front: of what stands before a capture's records, or before all packets of a
-- recording, the head of a pcap file or the block of a pcapng file's first section
abbrev pub IsFrontFault : ReadingFault → List ℕ → Type 0
IsFrontFault (Capture f) octets = (is_recording octets ≡ false) × (front_at octets ≡ Err f)
IsFrontFault (Recording f) octets = (is_recording octets ≡ true) × (opened_at octets ≡ Err f)

-- a recording's front has none, or a capture's
abbrev pub HasFrontBy : Bool → List ℕ → Type 0
HasFrontBy true octets = (x : Laid × List ℕ) × (opened_at octets ≡ Ok x)
HasFrontBy false octets = (x : List ℕ × List ℕ) × (front_at octets ≡ Ok x)

-- Octets begin with a capture's front, which has this text, and with the text of these records.
pub record HasFirstRecords (text : List ℕ) (records : List Entry) (octets : List ℕ) : Type 0 where
  pub behind : List ℕ
  pub fit : AllFit records
  pub front : front_at octets ≡ Ok (text, records_text records ++ behind)

-- A capture is whole: behind its front there are records, and nothing else.
pub record IsWholeCapture (octets : List ℕ) : Type 0 where
  pub text : List ℕ
  pub records : List Entry
  pub fit : AllFit records
  pub front : front_at octets ≡ Ok (text, records_text records)

-- a file is whole: it has no fault
abbrev pub IsWholeBy : Bool → List ℕ → Type 0
IsWholeBy true octets = fault_in most_packet octets ≡ None
IsWholeBy false octets = IsWholeCapture octets

-- a file is whole as a recording or as a capture, by its first four octets
abbrev pub IsWholeFile : List ℕ → Type 0
IsWholeFile octets = IsWholeBy (is_recording octets) octets

-- a fault as a source of datagrams tells it
abbrev pub recording_source_fault : RecordingFault → SourceFault
recording_source_fault Device = FailedDevice
recording_source_fault f = Content (recording_fault_number f)

-- a capture's or a recording's fault, as a source of datagrams tells it
abbrev pub source_fault : ReadingFault → SourceFault
source_fault (Capture f) = capture_source_fault f
source_fault (Recording f) = recording_source_fault f

-- a fault of the device is one failure more, and any other none
abbrev pub CountsReadingFault : ReadingFault → ℕ → ℕ → Type 0
CountsReadingFault (Capture f) old new = CountsCaptureFault f old new
CountsReadingFault (Recording f) old new = CountsRecordingFault f old new

-- what is answered without a fault is none either
abbrev pub CountsReading : {V : Type 0} → ℕ → ℕ → Result V ReadingFault → Type 0
CountsReading old new (Ok v) = new ≡ old
CountsReading old new (Err f) = CountsReadingFault f old new

-- ---- what is known of its octets

-- Octets have these records by the flows, and so many packets without one.
pub record HaveFileRecords (flows : Option Flows) (octets : List ℕ) (records : List Entry)
    (left : LeftOut) : Type 0 where
  pub records_are : records_of_file flows octets ≡ records
  pub left_is : left ≡ left_out_of (omissions_of_file flows octets)

-- these records are the first of others
abbrev pub AreFirst : List Entry → List Entry → Type 0
AreFirst records all = (behind : List Entry) × (all ≡ records ++ behind)
