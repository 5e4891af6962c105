-- A reader of a capture as a source of datagrams (own).
use Rattle.std.specs.Prelude.{◌≡◌, ℕ, List, [], ⊤, map, Option, None, Some}
use Rattle.std.specs.Option.{option_map}
use Rattle.std.specs.Io.KnownBytes.{IsAtEnd}
use Rattle.st_format.specs.Device.{Told, capped}
use Rattle.st_format.specs.Turns.{Due, Comes}
use Rattle.st_format.specs.declared.device.SourceFault.{SourceFault}
use Rattle.st_format.specs.declared.device.SourceFault.TheVariants.{Content}
use Rattle.st_format.specs.declared.device.SourceFault.TheVariants.{Device as FailedDevice}
use Rattle.st_format.specs.declared.device.Turn.{Turn}
use Rattle.st_format.specs.declared.device.Turn.TheVariants.{Datagram, Quiet, End}
use Rattle.media_file.specs.declared.fault.FileFault.{FileFault}
use Rattle.media_file.specs.declared.fault.FileFault.TheVariants.{Device}
use Rattle.media_file.specs.declared.reader.Standing.{Standing}
use Rattle.media_file.specs.declared.reader.Standing.TheVariants.{Reads, Ended, Failed}
use Rattle.media_file.specs.Faults.{CountsFault, file_fault_number}
use Rattle.media_file.specs.Reading.{entries_in}
use Rattle.media_file.specs.Records.{Entry}
use Rattle.media_file.specs.Source.{FailsRecord, GivesRecords, ReadsRecord}

-- a record as a turn
abbrev pub due_of_entry : Entry → Due
due_of_entry e = Comes e.path e.octets

-- the turns of octets: their records in order, up to their first fault
abbrev pub dues_in : List ℕ → List Due
dues_in octets = map due_of_entry (entries_in octets)

-- The turns to come. After the end, and after a fault, no datagram comes.
abbrev pub turns_of : Standing → Option (List ℕ) → Option (List Due)
turns_of Reads to_give = option_map dues_in to_give
turns_of Ended to_give = Some []
turns_of (Failed f) to_give = Some []

-- a fault as a source of datagrams tells it
abbrev pub source_fault : FileFault → SourceFault
source_fault Device = FailedDevice
source_fault f = Content (file_fault_number f)

-- the fault that a reader of records stays at, where it came to one
abbrev pub last_fault_of : Standing → Option SourceFault
last_fault_of Reads = None
last_fault_of Ended = None
last_fault_of (Failed f) = Some (source_fault f)

-- a source gave the records that were delivered, of which at most 2^64 - 1 are counted
pub record HasDelivered (delivered : ℕ) (old new : Option (List ℕ)) : Type 0 where
  pub count : ℕ
  pub counted : delivered ≡ capped count
  pub gave : GivesRecords count old new

-- a source was to give whole records, and then what is none by this fault
pub record FailsBehind (f : FileFault) (old : Option (List ℕ)) : Type 0 where
  pub count : ℕ
  pub behind : Option (List ℕ)
  pub gave : GivesRecords count old behind
  pub fails : FailsRecord f behind

-- Where a reader stands, by what it delivered, what its source told when the reader began with the
-- records, what that is to give now, and how often it has failed now: whole records were read up to
-- here, up to the end, or up to the fault.
abbrev pub StandsRight : Standing → ℕ → Told → Option (List ℕ) → ℕ → Type 0
StandsRight Reads delivered before to_give failures =
    HasDelivered delivered before.to_give to_give × (failures ≡ before.failures)
StandsRight Ended delivered before to_give failures =
    HasDelivered delivered before.to_give to_give × (failures ≡ before.failures) × IsAtEnd to_give
StandsRight (Failed f) delivered before to_give failures =
    FailsBehind f before.to_give × CountsFault f before.failures failures

-- what is seen of a reader: `before` is what its source told when it began with the records
pub record Reader (S : Type 0) : Type 0 where
  pub source : S
  pub before : Told
  pub text_len : ℕ
  pub standing : Standing
  pub delivered : ℕ
  pub failures : ℕ

-- Where a reader stands after a turn: it reads on after a datagram, and no octet is left at the
-- end. No turn is without a datagram.
abbrev pub StandsAfter : Turn → Standing → Option (List ℕ) → Type 0
StandsAfter (Datagram path count) stands to_give = stands ≡ Reads
StandsAfter Quiet stands to_give = ⊥
StandsAfter End stands to_give = (stands ≡ Ended) × IsAtEnd to_give

-- a datagram was told of the record that a source gave
abbrev pub GivesRecord : Turn → Option (List ℕ) → Option (List ℕ) → Type 0
GivesRecord (Datagram path count) old new = (e : Entry) × ReadsRecord old new e
GivesRecord Quiet old new = ⊤
GivesRecord End old new = ⊤

-- where a reader stands after a fault, by the octets that were to come
abbrev pub StandsAtFault : Standing → Option (List ℕ) → Type 0
StandsAtFault Reads to_give = ⊥
StandsAtFault Ended to_give = ⊥
StandsAtFault (Failed f) to_give = FailsRecord f to_give

-- a fault of the device is one failure of the source more, and all else none
abbrev pub CountsDeviceAt : Standing → ℕ → ℕ → Type 0
CountsDeviceAt Reads old new = new ≡ old
CountsDeviceAt Ended old new = new ≡ old
CountsDeviceAt (Failed f) old new = CountsFault f old new

-- a reader that has told nothing yet
pub record IsNewReader {S : Type 0} (r : Reader S) : Type 0 where
  pub reads : r.standing ≡ Reads
  pub delivered : r.delivered ≡ 0
  pub failures : r.failures ≡ 0
