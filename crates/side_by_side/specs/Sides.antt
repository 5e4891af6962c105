-- What is known of files that are read side by side (own).
use Rattle.std.specs.Prelude.{◌≡◌, ℕ, ◌⊎◌, ◌↔◌, ⊤, List, [], ◌∷◌, ◌++◌, get_or, map, set}
use Rattle.std.specs.Prelude.{Option, None, Some, MatchOption}
use Rattle.std.specs.List.{AllByRecursion, AllZip, sum_by}
use Rattle.std.specs.Option.{option_map}
use Rattle.media_file.specs.Records.{Entry}
use Rattle.recording_engines.specs.Files.{IsFailedAt, failures_by, next_entry}
use Rattle.recording_engines.specs.Steps.{Over, Standing, nothing}
use Rattle.recording_engines.specs.declared.file.ImportFile.{ImportFile}
use Rattle.recording_engines.specs.declared.file.ImportFile.TheVariants.{Closed, Open, Taken}
use Rattle.recording_engines.specs.Joining.{Strand}
use Rattle.recording_engines.specs.Strands.{strand_in}
use Rattle.recording_reader.specs.Files.{datagrams_of, source_fault}
use Rattle.recording_reader.specs.declared.fault.ReadingFault.{ReadingFault}
use Rattle.recording_reader.specs.declared.way.Standing.TheVariants.{Reads}
use Rattle.run_outcome.specs.Fault.{Blames, counts}
use Rattle.st_format.specs.Device.{CountsOne}
use Rattle.st_format.specs.History.{IsRead}
use Rattle.st_format.specs.Turns.{CountsTurn, IsEnd, IsWithin, arrived}
use Rattle.st_format.specs.declared.device.SourceFault.{SourceFault}
use Rattle.st_format.specs.declared.device.Turn.{Turn}
use Rattle.st_format.specs.declared.device.Turn.TheVariants.{Datagram, Quiet, End}
use Rattle.st_format.specs.declared.path.Path.{Path}
use Rattle.side_by_side.specs.Going.{IsReadBy}
use Rattle.side_by_side.specs.InOrder.{gone_of}
use Rattle.side_by_side.specs.Side.{Begun, GivesDatagram, IsSoundSide, IsUnfailed, begun_at}
use Rattle.side_by_side.specs.Side.{standing_of}
use Rattle.side_by_side.specs.Steps.{HasGone, HaveReadOn}
use Rattle.side_by_side.specs.Strands.{GoesWhole}
use Rattle.side_by_side.specs.declared.going.Going.TheVariants.{Unread}
use Rattle.side_by_side.specs.declared.side.Side.{Side}
use Rattle.side_by_side.specs.declared.steering.Steering.{Steering}
use Rattle.run_outcome.specs.LowerFaults.{reading_fault}

-- ---- files

-- what was read of each file, and what comes next of it
abbrev pub standings : {A S : Type 0} → List (Side A S) → List Standing
standings sides = map standing_of sides

-- how each file was opened, where it was: by its flows, behind what was given, and with its text
abbrev pub begun_each : {A S : Type 0} → List (Side A S) → List (Option Begun)
begun_each sides = map (λ s. begun_at s.file) sides

-- how often their sources failed, all together
abbrev pub failures_each : {A S : Type 0} → (S → ℕ) → List (Side A S) → ℕ
failures_each failures sides = sum_by (λ s. failures_by failures s.file) sides

-- the record that the file of a place has at hand, whether it was given or goes next
abbrev pub hand_at : {A S : Type 0} → List (Side A S) → ℕ → Option Entry
hand_at sides place = get_or (map (λ s. next_entry s.file) sides) place None

-- each file goes next by its own datagram at hand
abbrev pub AllSound : {A S : Type 0} → Steering → List (Side A S) → Type 0
AllSound steering sides = AllByRecursion (λ s. IsSoundSide steering s) sides

-- no file came to a fault
abbrev pub AllUnfailed : {A S : Type 0} → List (Side A S) → Type 0
AllUnfailed sides = AllByRecursion IsUnfailed sides

-- what comes next of each is read
abbrev pub AllRead : {A S : Type 0} → List (Side A S) → Type 0
AllRead sides = AllByRecursion (λ s. IsReadBy s.going) sides

-- nothing more comes of any file, and none came to a fault
abbrev pub AllOver : {A S : Type 0} → List (Side A S) → Type 0
AllOver sides = AllByRecursion (λ s. (standing_of s).ahead ≡ Over None) sides

-- one of the files came to this fault, and what comes next of each before it is read: those are at
-- none
abbrev pub FirstSideAt : {A S : Type 0} → ReadingFault → List (Side A S) → Type 0
FirstSideAt f [] = ⊥
FirstSideAt f (s ∷ ss) = IsFailedAt f s.file ⊎ (IsReadBy s.going × FirstSideAt f ss)

-- nothing was read of a file behind what stands before its records, if it is opened
abbrev pub IsFreshFile : {A S : Type 0} → ImportFile A S → Type 0
IsFreshFile (Closed s) = ⊤
IsFreshFile (Open r) = (r.standing ≡ Reads) × (r.records ≡ [])
IsFreshFile Taken = ⊤

-- a file of which no datagram was read yet
abbrev pub IsUnreadSide : {A S : Type 0} → Side A S → Type 0
IsUnreadSide s = (s.going ≡ Unread) × IsFreshFile s.file

-- ---- what calls do

-- Each was read on, to its next datagram or to its end.
pub record ReadsAll {A S : Type 0} (steering : Steering) (olds news : List (Side A S))
    : Type 0 where
  pub sound : AllSound steering news
  pub read : AllRead news
  pub goes_on : HaveReadOn (standings olds) (standings news)

-- One was read on to a fault, at which it stays, behind those before it, which came to none.
pub record StopsAll {A S : Type 0} (steering : Steering) (f : ReadingFault)
    (olds news : List (Side A S)) : Type 0 where
  pub sound : AllSound steering news
  pub stopped : FirstSideAt f news
  pub goes_on : HaveReadOn (standings olds) (standings news)

-- The datagram that the one of a place has at hand was given.
pub record GivesHand {A S : Type 0} (place : ℕ) (olds news : List (Side A S)) : Type 0 where
  pub other : Side A S
  pub given : Side A S
  pub is : GivesDatagram (get_or olds place other) given
  pub now : news ≡ set olds place given

-- The datagram of the one that goes first was given, that of this place, whose reader has the
-- record at hand still.
pub record GivesSide {A S : Type 0} (steering : Steering) (place : ℕ) (olds news : List (Side A S))
    : Type 0 where
  pub entry : Entry
  pub hand : hand_at news place ≡ Some entry
  pub sound : AllSound steering news
  pub gone : (entries : List Entry) → HasGone steering (standings olds) entries
      → HasGone steering (standings news) (entries ++ entry ∷ [])
  pub left : AllOver news → ⊥

-- None has one.
pub record GivesNoSide {A S : Type 0} (steering : Steering) (olds news : List (Side A S))
    : Type 0 where
  pub sound : AllSound steering news
  pub gone : (entries : List Entry) → HasGone steering (standings olds) entries
      → HasGone steering (standings news) entries
  pub over : AllOver news

-- by the place that a call told
abbrev pub GivesNextSide : {A S : Type 0} → Steering → Option ℕ → List (Side A S)
    → List (Side A S) → Type 0
GivesNextSide steering None olds news = GivesNoSide steering olds news
GivesNextSide steering (Some place) olds news = GivesSide steering place olds news

-- ---- a source over them

-- the datagrams that went of files: those of the records that went
abbrev pub given_of : {A S : Type 0} → Steering → List (Side A S) → List (Path × List ℕ)
given_of steering sides = datagrams_of (gone_of steering (standings sides))

-- What is seen of it: the files, the datagrams that it gave, and the fault at which it stays.
pub record Sides (A S : Type 0) : Type 0 where
  pub steering : Steering
  pub sides : List (Side A S)
  pub came : List (Path × List ℕ)
  pub delivered : ℕ
  pub failures : ℕ
  pub fault : Option ReadingFault

-- so as a source of datagrams tells it
abbrev pub last_fault_of : Option ReadingFault → Option SourceFault
last_fault_of fault = option_map source_fault fault

-- where it came to a fault, that is the first of the files', in their order
abbrev pub IsFaultOfFiles : {A S : Type 0} → Option ReadingFault → List (Side A S) → Type 0
IsFaultOfFiles None sides = ⊤
IsFaultOfFiles (Some f) sides = FirstSideAt f sides

-- What is so of each: the datagrams that it gave are those of the files' records, each file's in
-- its order, always that of the file that goes first.
pub record IsSideBySide {A S : Type 0} (s : Sides A S) : Type 0 where
  pub sound : AllSound s.steering s.sides
  pub entries : List Entry
  pub gone : HasGone s.steering (standings s.sides) entries
  pub came_is : s.came ≡ datagrams_of entries
  pub stopped : IsFaultOfFiles s.fault s.sides

-- a turn tells a datagram, or the end
abbrev pub IsDatagramOrEnd : Turn → Type 0
IsDatagramOrEnd (Datagram path count) = ⊤
IsDatagramOrEnd Quiet = ⊥
IsDatagramOrEnd End = ⊤

-- The datagram came of the record that the file of a place has at hand.
pub record ComesAt {A S : Type 0} (place : ℕ) (sides : List (Side A S))
    (old new : List (Path × List ℕ)) : Type 0 where
  pub entry : Entry
  pub hand : hand_at sides place ≡ Some entry
  pub came : new ≡ old ++ (entry.path, entry.octets) ∷ []

-- one more was given where a place is told, and else none
abbrev pub CountsPlace : Option ℕ → ℕ → ℕ → Type 0
CountsPlace at old new = MatchOption at (new ≡ old) (λ _. CountsOne old new)

-- A call went on to the datagram of the file that goes first, and told the place of that file,
-- whose reader has it at hand still; or it told none at the end, where no file has one.
pub record LendsSides {A S : Type 0} (at : Option ℕ) (old new : Sides A S) : Type 0 where
  pub came : MatchOption at (new.came ≡ old.came)
      (λ place. ComesAt place new.sides old.came new.came)
  pub delivered : CountsPlace at old.delivered new.delivered
  pub failures : new.failures ≡ old.failures
  pub fault : new.fault ≡ old.fault
  pub over : AllOver new.sides ↔ (at ≡ None)
  pub unfailed : AllUnfailed new.sides

-- A call told a turn: the datagram of the file that goes first, or the end where none has one.
pub record TellsSides {A S : Type 0} (t : Turn) (buf : List ℕ) (old new : Sides A S) : Type 0 where
  pub tells : IsDatagramOrEnd t
  pub within : IsWithin t
  pub came : new.came ≡ old.came ++ arrived t buf
  pub delivered : CountsTurn t old.delivered new.delivered
  pub failures : new.failures ≡ old.failures
  pub fault : new.fault ≡ old.fault
  pub over : AllOver new.sides ↔ IsEnd t
  pub unfailed : AllUnfailed new.sides

-- A call came to the fault of a file, the first that is at one, at which it stays.
pub record StopsSides {A S : Type 0} (f : ReadingFault) (old new : Sides A S) : Type 0 where
  pub stopped : FirstSideAt f new.sides
  pub came : new.came ≡ old.came
  pub delivered : new.delivered ≡ old.delivered
  pub failures : CountsOne old.failures new.failures
  pub fault : new.fault ≡ Some f

-- What a source of datagrams says of a call that failed: by which fault, at which it stays; and
-- where no file was at a fault before, whether a device failed.
pub record FailsByReading {A S : Type 0} (failures : S → ℕ) (e : SourceFault) (old new : Sides A S)
    : Type 0 where
  pub reading : ReadingFault
  pub told : e ≡ source_fault reading
  pub stays : new.fault ≡ Some reading
  pub device : AllUnfailed old.sides → Blames (counts (failures_each failures old.sides)
      (failures_each failures new.sides) ∷ []) (reading_fault reading)

-- ---- the octets of files

-- octets are what was read of a file since it was opened
abbrev pub FileGave : {A S : Type 0} → (S → List ℕ) → (S → Type 0) → ImportFile A S → List ℕ
    → Type 0
FileGave gave ended (Closed s) octets = ⊤
FileGave gave ended (Open r) octets =
    IsRead r.before.gave (gave r.source) (ended r.source) octets
FileGave gave ended Taken octets = ⊤

-- so of a file that is read beside others
abbrev pub SideGave : {A S : Type 0} → (S → List ℕ) → (S → Type 0) → Side A S → List ℕ → Type 0
SideGave gave ended s octets = FileGave gave ended s.file octets

-- the records that octets have as this file, and their fault; none of one that isn't opened
abbrev pub strand_of : {A S : Type 0} → ImportFile A S → List ℕ → Strand
strand_of (Closed s) octets = nothing
strand_of (Open r) octets = strand_in r.flows octets
strand_of Taken octets = nothing

-- the records that each file has in its octets, and its fault
abbrev pub strands_of : {A S : Type 0} → List (Side A S) → List (List ℕ) → List Strand
strands_of [] octets = []
strands_of (s ∷ ss) [] = []
strands_of (s ∷ ss) (o ∷ os) = strand_of s.file o ∷ strands_of ss os

-- The datagrams that it gave are those of all records of what was read of the files, in the order
-- in which these go.
pub record HasGivenAll {A S : Type 0} (gave : S → List ℕ) (ended : S → Type 0) (s : Sides A S)
    : Type 0 where
  pub entries : List Entry
  pub came_is : s.came ≡ datagrams_of entries
  pub goes : (octets : List (List ℕ)) → AllZip (SideGave gave ended) s.sides octets
      → GoesWhole s.steering (strands_of s.sides octets) entries
