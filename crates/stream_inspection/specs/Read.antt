-- What was read of files. What was read is told by a predicate: it holds of any octets that begin
-- with it, and of no others where the source has ended (own).
use Rattle.std.specs.Prelude.{◌≡◌, ℕ, ◌-◌, ◌^◌, ◌⊎◌, ⊤, List, [], ◌∷◌, ◌++◌, length, take}
use Rattle.std.specs.Prelude.{Option, None, Some, Result, Ok, Err}
use Rattle.std.specs.List.{AllZip}
use Rattle.capture_engines.specs.Files.{HasFileText, first_way, flows_in, other_ways, way_at}
use Rattle.capture_engines.specs.Received.{IsFileOpenedRefusal, StopsFront}
use Rattle.capture_engines.specs.declared.way.Way.{Way}
use Rattle.flow.specs.declared.flows.Flows.{Flows}
use Rattle.media_file.specs.Records.{Entry}
use Rattle.media_file.specs.declared.fault.FileFault.TheVariants.{TooManyRecords}
use Rattle.recording_reader.specs.Files.{AreFirst, CountsReadingFault, IfFile, IsFileFault}
use Rattle.recording_reader.specs.Files.{IsWholeFile, records_of_file, text_of_file}
use Rattle.recording_reader.specs.declared.fault.ReadingFault.{ReadingFault}
use Rattle.recording_reader.specs.declared.fault.ReadingFault.TheVariants.{Capture}
use Rattle.recording_reader.specs.declared.way.Standing.{Standing}
use Rattle.recording_reader.specs.declared.way.Standing.TheVariants.{Ended, Failed, Reads}
use Rattle.run_outcome.specs.declared.fault.Fault.{Fault}
use Rattle.run_outcome.specs.declared.refusal.Refusal.{Refusal}
use Rattle.run_outcome.specs.LowerFaults.{reading_fault}
use Rattle.stream_inspection.specs.Aim.{AnnouncesTarget}
use Rattle.stream_inspection.specs.Inspected.{IsInspected}
use Rattle.stream_inspection.specs.declared.inspection.Inspection.{Inspection}
use Rattle.stream_inspection.specs.declared.target.Target.{Target}

-- ---- ends

-- this is so, unless a device's fault ended the reading
abbrev pub IfEnd : Option ReadingFault → Type 0 → Type 0
IfEnd None P = P
IfEnd (Some f) P = IfFile f P

-- a device's fault is one failure more, and any other end none
abbrev pub counts_end : Option ReadingFault → ℕ → ℕ → Type 0
counts_end None old new = new ≡ old
counts_end (Some f) old new = CountsReadingFault f old new

-- what an end comes to
abbrev pub end_outcome : Result (Option ReadingFault) Fault → Result (Unit {0}) Fault
end_outcome (Ok None) = Ok tt
end_outcome (Ok (Some f)) = Err (reading_fault f)
end_outcome (Err f) = Err f

-- so many records are counted of a file
abbrev pub most_counted : ℕ
most_counted = 2 ^ 64 - 1

-- Where a reader stands that gave so many records: at the file's end; or at its fault, or where as
-- many records came as are counted.
abbrev pub StandsAtEnd : Standing → ℕ → Option ReadingFault → Type 0
StandsAtEnd standing count None = standing ≡ Ended
StandsAtEnd standing count (Some f) = (standing ≡ Failed f)
    ⊎ ((standing ≡ Reads) × (f ≡ Capture TooManyRecords) × (count ≡ most_counted))

-- ---- a file

-- Octets have these records by the flows: all that they have, and the file is whole, or this is its
-- first fault; or the first of them, as many as are counted.
abbrev pub EndsAfter : Option Flows → List ℕ → List Entry → Option ReadingFault → Type 0
EndsAfter flows octets records None =
    (records_of_file flows octets ≡ records) × IsWholeFile octets
EndsAfter flows octets records (Some f) =
    ((records_of_file flows octets ≡ records) × IsFileFault f octets)
    ⊎ ((f ≡ Capture TooManyRecords) × (length records ≡ most_counted)
    × AreFirst records (records_of_file flows octets))

-- A file that is taken so has these records behind its text, up to this end.
pub record HasRecords (w : Way) (octets : List ℕ) (records : List Entry)
    (end : Option ReadingFault) : Type 0 where
  pub text : List ℕ
  pub has_text : HasFileText w octets text
  pub ends : EndsAfter (flows_in w) octets records end

-- Files, each taken so, have these records, one file's behind the other's: each all that it has,
-- and the last as many as it has up to this end.
abbrev pub HaveRecords : List (Result Flows Refusal) → List (List ℕ) → List Entry
    → Option ReadingFault → Type 0
HaveRecords ways [] records end = (records ≡ []) × (end ≡ None)
HaveRecords ways (octets ∷ []) records end = HasRecords (first_way ways) octets records end
HaveRecords ways (octets ∷ (next ∷ files)) records end =
    (first : List Entry) × (others : List Entry) × (records ≡ first ++ others)
    × HasRecords (first_way ways) octets first None
    × HaveRecords (other_ways ways) (next ∷ files) others end

-- ---- the first refusal

-- The refusals of the front of a file that is taken so: what stops it before its records; and of
-- its text, where what is looked for isn't known.
abbrev pub IsStartRefusal : Way → Type 0 → (List ℕ → Type 0) → Refusal → Type 0
IsStartRefusal w Unknown told r =
    StopsFront w told r ⊎ (Unknown × IsFileOpenedRefusal (0 ∷ []) w told r)

-- The front of a file is refused, of files that are read in turn, each taken so, and it is the
-- first: those before it are whole, and what is looked for is known behind them.
pub record IsFirstFront {S : Type 0} (Unknown : Type 0) (Known : List (List ℕ) → Type 0)
    (ways : List (Result Flows Refusal)) (told : S → List ℕ → Type 0) (files : List S)
    (r : Refusal) : Type 0 where
  pub front : List S
  pub at : S
  pub behind : List S
  pub parts : files ≡ front ++ at ∷ behind
  pub known : (octets : List (List ℕ)) → AllZip told front octets → Known octets
  pub whole : (octets : List (List ℕ)) → AllZip told front octets
      → (records : List Entry) × HaveRecords ways octets records None
  pub refused : IsStartRefusal (way_at ways (length front)) (Unknown × (front ≡ [])) (told at) r

-- ---- on the way there

-- what is looked for behind files, by what was begun with: that, or what the first one's text says
abbrev pub Settles : Option Target → List (List ℕ) → Option Target → Type 0
Settles (Some t) files after = after ≡ Some t
Settles None [] after = after ≡ None
Settles None (octets ∷ files) after =
    (t : Target) × (after ≡ Some t) × AnnouncesTarget (text_of_file octets) t

-- it is known then
abbrev pub IsSettled : Option Target → List (List ℕ) → Type 0
IsSettled begun files = (after : Option Target) × Settles begun files after

-- so behind one with this text
abbrev pub SettlesBy : Option Target → List ℕ → Option Target → Type 0
SettlesBy (Some t) text after = after ≡ Some t
SettlesBy None text after = (t : Target) × (after ≡ Some t) × AnnouncesTarget text t

-- what is looked for may be this
abbrev pub MayBe : Option Target → Target → Type 0
MayBe None t = ⊤
MayBe (Some u) t = t ≡ u

-- Records more were noted, by what is looked for then.
abbrev pub NotesMore : {A : Type 0} → Option Target → List Entry → Inspection A → Inspection A
    → Type 0
NotesMore after records old new = (t : Target) → MayBe after t → (earlier : List Entry)
    → IsInspected t old earlier → IsInspected t new (earlier ++ records)

-- those of a file with this text were
pub record NotesRecords {A : Type 0} (text : List ℕ) (records : List Entry)
    (before after : Option Target) (old new : Inspection A) : Type 0 where
  pub settles : SettlesBy before text after
  pub noted : NotesMore after records old new

-- those of a file were that is taken so, up to this end
pub record NotesFile {A : Type 0} (w : Way) (told : List ℕ → Type 0) (end : Option ReadingFault)
    (before after : Option Target) (old new : Inspection A) : Type 0 where
  pub records : List Entry
  pub settles : (octets : List ℕ) → told octets → Settles before (octets ∷ []) after
  pub noted : (octets : List ℕ) → told octets
      → HasRecords w octets records end × NotesMore after records old new

-- those of files were, up to the end of the last or up to a fault of it
pub record NotesFiles {S A : Type 0} (ways : List (Result Flows Refusal))
    (told : S → List ℕ → Type 0) (files : List S) (end : Option ReadingFault)
    (before after : Option Target) (old new : Inspection A) : Type 0 where
  pub records : List Entry
  pub settles : (octets : List (List ℕ)) → AllZip told files octets → Settles before octets after
  pub noted : (octets : List (List ℕ)) → AllZip told files octets
      → HaveRecords ways octets records end × NotesMore after records old new

-- those of all of them were, or of as many as there are up to a fault
abbrev pub NotesUpTo : {S A : Type 0} → List (Result Flows Refusal) → (S → List ℕ → Type 0)
    → List S → Option ReadingFault → Option Target → Option Target → Inspection A → Inspection A
    → Type 0
NotesUpTo ways told files None before after old new =
    NotesFiles ways told files None before after old new
NotesUpTo ways told files (Some f) before after old new =
    (count : ℕ) × NotesFiles ways told (take count files) (Some f) before after old new
