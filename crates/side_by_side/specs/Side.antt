-- What is known of one of the files that are read side by side (own).
use Rattle.std.specs.Prelude.{◌≡◌, ℕ, ◌⊎◌, ⊤, List, [], ◌∷◌, Option, None, Some, Result, Ok, Err}
use Rattle.std.specs.Prelude.{map, Bool, true, false}
use Rattle.flow.specs.declared.flows.Flows.{Flows}
use Rattle.media_file.specs.Records.{Entry}
use Rattle.recording_engines.specs.Files.{IsFailedAt, IsUnread}
use Rattle.recording_engines.specs.Steps.{Ahead, Coming, Over, Standing, Unknown}
use Rattle.recording_engines.specs.declared.file.ImportFile.{ImportFile}
use Rattle.recording_engines.specs.declared.file.ImportFile.TheVariants.{Closed, Open, Taken}
use Rattle.recording_reader.specs.FileReader.{FileReader, fault_of}
use Rattle.recording_reader.specs.declared.fault.ReadingFault.{ReadingFault}
use Rattle.recording_reader.specs.declared.way.Standing.{Standing as Stand}
use Rattle.recording_reader.specs.declared.way.Standing.TheVariants.{Reads, Ended, Failed}
use Rattle.run_outcome.specs.Fault.{Blames, counts}
use Rattle.side_by_side.specs.Going.{IsReadBy, going_by}
use Rattle.side_by_side.specs.Steering.{stamp_of}
use Rattle.side_by_side.specs.Steps.{HasReadOn}
use Rattle.side_by_side.specs.declared.going.Going.{Going}
use Rattle.side_by_side.specs.declared.going.Going.TheVariants.{Unread, AtOnce, By, Never}
use Rattle.side_by_side.specs.declared.side.Side.{Side}
use Rattle.side_by_side.specs.declared.steering.Steering.{Steering}
use Rattle.run_outcome.specs.LowerFaults.{reading_fault}

-- one of this source, which isn't opened
abbrev pub closed_side : {A S : Type 0} → S → Side A S
closed_side source = record { file = Closed source; going = Unread }

-- when the next datagram of each goes
abbrev pub goings : {A S : Type 0} → List (Side A S) → List Going
goings sides = map (λ s. s.going) sides

-- ---- what comes next of it

-- what comes next is the record at hand; where none is at hand it is not known
abbrev pub coming_by : Option Entry → Ahead
coming_by None = Unknown
coming_by (Some e) = Coming e

-- by what its reader has at hand: nothing where that was given
abbrev pub ahead_of_hand : Going → Option Entry → Ahead
ahead_of_hand Unread at_hand = Unknown
ahead_of_hand AtOnce at_hand = coming_by at_hand
ahead_of_hand (By timestamp) at_hand = coming_by at_hand
ahead_of_hand Never at_hand = Unknown

-- and by where its reader stands
abbrev pub ahead_by : Stand → Going → Option Entry → Ahead
ahead_by Reads going at_hand = ahead_of_hand going at_hand
ahead_by Ended going at_hand = Over None
ahead_by (Failed f) going at_hand = Over (Some f)

-- the records that were read of it, and what comes next
abbrev pub reader_standing : {S : Type 0} → Going → FileReader S → Standing
reader_standing going r =
    record { entries = r.records; ahead = ahead_by r.standing going r.at_hand }

-- of a file that isn't opened there are none
abbrev pub standing_by : {A S : Type 0} → Going → ImportFile A S → Standing
standing_by going (Closed s) = record { entries = []; ahead = Over None }
standing_by going (Open r) = reader_standing going r
standing_by going Taken = record { entries = []; ahead = Over None }

-- the records that were read of a file, and what comes next of it
abbrev pub standing_of : {A S : Type 0} → Side A S → Standing
standing_of s = standing_by s.going s.file

-- ---- when that goes

-- what was found goes so: a datagram of these octets, or the end
abbrev pub going_found : Steering → Bool → List ℕ → Going
going_found steering true octets = going_by (stamp_of steering octets)
going_found steering false octets = Never

-- a datagram is at hand, and goes so
abbrev pub HandGoes : Steering → Going → Stand → Option Entry → Type 0
HandGoes steering going stand at_hand =
    (e : Entry) × (stand ≡ Reads) × (at_hand ≡ Some e)
    × (going ≡ going_by (stamp_of steering e.octets))

-- when its next datagram goes, where that is read, is so by what is at hand; at its end never
abbrev pub IsSoundBy : Steering → Going → Stand → Option Entry → Type 0
IsSoundBy steering Unread stand at_hand = ⊤
IsSoundBy steering AtOnce stand at_hand = HandGoes steering AtOnce stand at_hand
IsSoundBy steering (By timestamp) stand at_hand = HandGoes steering (By timestamp) stand at_hand
IsSoundBy steering Never stand at_hand = stand ≡ Ended

-- so of a file; of one that isn't opened nothing was read, or it never goes
abbrev pub IsSoundFile : {A S : Type 0} → Steering → Going → ImportFile A S → Type 0
IsSoundFile steering going (Closed s) = (going ≡ Unread) ⊎ (going ≡ Never)
IsSoundFile steering going (Open r) = IsSoundBy steering going r.standing r.at_hand
IsSoundFile steering going Taken = (going ≡ Unread) ⊎ (going ≡ Never)

-- a file goes next by its own datagram at hand
abbrev pub IsSoundSide : {A S : Type 0} → Steering → Side A S → Type 0
IsSoundSide steering s = IsSoundFile steering s.going s.file

-- its reader came to no fault
abbrev pub IsUnfailedFile : {A S : Type 0} → ImportFile A S → Type 0
IsUnfailedFile (Closed s) = ⊤
IsUnfailedFile (Open r) = fault_of r.standing ≡ None
IsUnfailedFile Taken = ⊤

-- so of a file that is read beside others
abbrev pub IsUnfailed : {A S : Type 0} → Side A S → Type 0
IsUnfailed s = IsUnfailedFile s.file

-- ---- what calls do

-- what a call answers says how often sources failed: not, but where a device did
abbrev pub AccountsFor : {V : Type 0} → Result V ReadingFault → ℕ → ℕ → Type 0
AccountsFor (Ok v) old new = new ≡ old
AccountsFor (Err f) old new = Blames (counts old new ∷ []) (reading_fault f)

-- A reader was read on, to its next datagram or to its end, which goes so.
pub record ReadsReader {S : Type 0} (steering : Steering) (w : Going) (old new : FileReader S)
    : Type 0 where
  pub sound : IsSoundBy steering w new.standing new.at_hand
  pub read : IsReadBy w
  pub goes_on : HasReadOn (reader_standing Unread old) (reader_standing w new)

-- One was read on, to a fault, at which it stays.
pub record StopsReader {S : Type 0} (f : ReadingFault) (old new : FileReader S) : Type 0 where
  pub at : new.standing ≡ Failed f
  pub goes_on : HasReadOn (reader_standing Unread old) (reader_standing Unread new)

-- The same of a file; one that isn't opened has none.
abbrev pub ReadsFile : {A S : Type 0} → Steering → Going → ImportFile A S → ImportFile A S → Type 0
ReadsFile steering w (Closed s) new = (w ≡ Never) × (new ≡ Closed s)
ReadsFile steering w (Open r) (Closed s) = ⊥
ReadsFile steering w (Open r) (Open r') = ReadsReader steering w r r'
ReadsFile steering w (Open r) Taken = ⊥
ReadsFile steering w Taken new = (w ≡ Never) × (new ≡ Taken)

-- reading on, a file came to this fault
abbrev pub ComesToFault : {A S : Type 0} → ReadingFault → ImportFile A S → ImportFile A S → Type 0
ComesToFault f (Closed s) new = ⊥
ComesToFault f (Open r) (Closed s) = ⊥
ComesToFault f (Open r) (Open r') = StopsReader f r r'
ComesToFault f (Open r) Taken = ⊥
ComesToFault f Taken new = ⊥

-- It was read on, to its next datagram or to its end.
pub record ReadsSide {A S : Type 0} (steering : Steering) (old new : Side A S) : Type 0 where
  pub sound : IsSoundSide steering new
  pub read : IsReadBy new.going
  pub goes_on : HasReadOn (standing_of old) (standing_of new)

-- It was read on, to a fault, at which it stays.
pub record StopsSide {A S : Type 0} (f : ReadingFault) (old new : Side A S) : Type 0 where
  pub unread : new.going ≡ Unread
  pub at : IsFailedAt f new.file
  pub goes_on : HasReadOn (standing_of old) (standing_of new)

-- Its datagram was given.
pub record GivesDatagram {A S : Type 0} (old new : Side A S) : Type 0 where
  pub file : new.file ≡ old.file
  pub unread : new.going ≡ Unread

-- How a file was begun: by these flows, where its source had given these octets; and its text.
pub record Begun : Type 0 where
  pub flows : Option Flows
  pub before : List ℕ
  pub text : List ℕ

-- so it was, where it is opened
abbrev pub begun_at : {A S : Type 0} → ImportFile A S → Option Begun
begun_at (Closed s) = None
begun_at (Open r) = Some (record { flows = r.flows; before = r.before.gave; text = r.text })
begun_at Taken = None

-- It was opened by these flows, where its source had given these octets, and has this text; nothing
-- of it was read behind that.
pub record IsNewSide {A S : Type 0} (flows : Option Flows) (before text : List ℕ) (s : Side A S)
    : Type 0 where
  pub begun : begun_at s.file ≡ Some (record { flows = flows; before = before; text = text })
  pub unread : IsUnread s.file
  pub going : s.going ≡ Unread
