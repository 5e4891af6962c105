-- What a run of `import` does from one record to the next.
use Rattle.std.specs.Prelude.{◌≡◌, ℕ, ◌+◌, ◌<◌, ◌≤◌, ◌⊎◌, List, [], ◌∷◌, ◌++◌, length}
use Rattle.std.specs.Prelude.{None, Some, ⊤}
use Rattle.std.specs.List.{AllByRecursion, count_by}
use Rattle.media_file.specs.Records.{Entry, records_text}
use Rattle.st_format.specs.Turns.{is_path}
use Rattle.st_format.specs.declared.path.Path.{Path}
use Rattle.st_format.specs.declared.path.Path.TheVariants.{A, B}
use Rattle.run_outcome.specs.declared.fault.Fault.{Fault}
use Rattle.run_outcome.specs.declared.fault.Fault.TheVariants.{Device, Refused}
use Rattle.run_outcome.specs.declared.refusal.Refusal.{Refusal}
use Rattle.run_outcome.specs.declared.refusal.Refusal.TheVariants.{ImportRecords}
use Rattle.run_outcome.specs.LowerFaults.{reading_fault}
use Rattle.recording_engines.specs.Files.{IsFailedAt, IsReady, next_entry, standing_of, standings}
use Rattle.recording_engines.specs.Steps.{Coming, HasJoined, Standing, TakesEarliest, lefts, wholes}
use Rattle.recording_engines.specs.Joining.{IsJoinedNext, JoinsByMoment, Strand}
use Rattle.run_outcome.specs.AtFault.{WrittenAtFault}
use Rattle.recording_engines.specs.declared.file.ImportFile.{ImportFile}
use Rattle.recording_engines.specs.declared.joining.Written.{Written}
use Rattle.recording_reader.specs.declared.fault.ReadingFault.{ReadingFault}

-- ---- how many records of each path

-- how many records are of this path
abbrev pub count_of_path : Path → List Entry → ℕ
count_of_path path entries = count_by (λ e. is_path path e.path) entries

-- one record more of this path is counted, and none of the other
abbrev pub CountsPath : Path → Written → Written → Type 0
CountsPath A w w' = (w'.a ≡ w.a + 1) × (w'.b ≡ w.b)
CountsPath B w w' = (w'.a ≡ w.a) × (w'.b ≡ w.b + 1)

-- these records were written and counted
pub record WritesRecords (entries : List Entry) (old new : List ℕ) (w w' : Written) : Type 0 where
  pub text : new ≡ old ++ records_text entries
  pub a : w'.a ≡ w.a + count_of_path A entries
  pub b : w'.b ≡ w.b + count_of_path B entries

-- the record that comes next of a file was written
abbrev pub WritesNext : {X S : Type 0} → ImportFile X S → List ℕ → List ℕ → Written → Written
    → Type 0
WritesNext f old new w w' =
    (e : Entry) → next_entry f ≡ Some e → WritesRecords (e ∷ []) old new w w'

-- ---- one record

-- The earliest record was written, and its file read on.
pub record WritesEarliest {X S : Type 0} (files files' : List (ImportFile X S)) (old new : List ℕ)
    (w w' : Written) : Type 0 where
  pub entry : Entry
  pub takes : TakesEarliest (standings files) entry (standings files')
  pub ready : AllByRecursion IsReady files'
  pub writes : WritesRecords (entry ∷ []) old new w w'

-- one file is at this fault, and each other is read on
abbrev pub OneFileAt : {X S : Type 0} → ReadingFault → List (ImportFile X S) → Type 0
OneFileAt f [] = ⊥
OneFileAt f (x ∷ xs) = (IsFailedAt f x × AllByRecursion IsReady xs) ⊎ (IsReady x × OneFileAt f xs)

-- The earliest record was written, and behind it its file is at a fault.
pub record StopsOne {X S : Type 0} (f : ReadingFault) (files files' : List (ImportFile X S))
    (old new : List ℕ) : Type 0 where
  pub entry : Entry
  pub takes : TakesEarliest (standings files) entry (standings files')
  pub stopped : OneFileAt f files'
  pub text : new ≡ old ++ records_text (entry ∷ [])

-- so it is where this is a refusal
abbrev pub StopsBy : {X S : Type 0} → Refusal → List (ImportFile X S) → List (ImportFile X S)
    → List ℕ → List ℕ → Type 0
StopsBy r files files' old new =
    (f : ReadingFault) × (reading_fault f ≡ Refused r) × StopsOne f files files' old new

-- a fault is a device's, or that of one file, at which its reader stands
abbrev pub IsDeviceOrFile : {X S : Type 0} → List (ImportFile X S) → Fault → Type 0
IsDeviceOrFile files f =
    (f ≡ Device) ⊎ ((g : ReadingFault) × (f ≡ reading_fault g) × OneFileAt g files)

-- ---- all records

-- Files were joined to these records, which were written and counted.
pub record HasWritten {X S : Type 0} (files : List (ImportFile X S)) (old new : List ℕ)
    (w w' : Written) (n : ℕ) : Type 0 where
  pub entries : List Entry
  pub joined : HasJoined (standings files) entries
  pub writes : WritesRecords entries old new w w'
  pub number : length entries ≡ n

-- none of a path yet
abbrev pub none_written : Written
none_written = record { a = 0; b = 0 }

-- All records were written, and counted.
pub record HasWrittenAll {X S : Type 0} (files' : List (ImportFile X S)) (old new : List ℕ)
    (w : Written) : Type 0 where
  pub number : ℕ
  pub written : HasWritten files' old new none_written w number
  pub ready : AllByRecursion IsReady files'
  pub over : AllByRecursion (λ f. next_entry f ≡ None) files'
  pub few : number ≤ 16777216

-- Files were joined to these records, which were written, and it ended so.
pub record EndsJoining {X S : Type 0} (Ends : List Entry → List (ImportFile X S) → Type 0)
    (files : List (ImportFile X S)) (old new : List ℕ) : Type 0 where
  pub entries : List Entry
  pub joined : HasJoined (standings files) entries
  pub ends : Ends entries files
  pub text : new ≡ old ++ records_text entries

-- those before a fault were, and there are some
abbrev pub HasStopped : {X S : Type 0} → ReadingFault → List Entry → List (ImportFile X S)
    → Type 0
HasStopped f entries files = (0 < length entries) × OneFileAt f files

-- what comes next of one file is a record
abbrev pub OneComes : List Standing → Type 0
OneComes [] = ⊥
OneComes (s ∷ ss) = ((e : Entry) × (s.ahead ≡ Coming e)) ⊎ OneComes ss

-- as many as there may be were, and there is one more
abbrev pub HasOneTooMany : {X S : Type 0} → List Entry → List (ImportFile X S) → Type 0
HasOneTooMany entries files =
    (length entries ≡ 16777216) × AllByRecursion IsReady files × OneComes (standings files)

-- What was written where it ends by a refusal: what came before the fault of a file; or as many
-- records as there may be.
abbrev pub StopsJoining : {X S : Type 0} → Refusal → List (ImportFile X S) → List ℕ → List ℕ
    → Type 0
StopsJoining r files' old new =
    ((f : ReadingFault) × (reading_fault f ≡ Refused r)
    × EndsJoining (HasStopped f) files' old new)
    ⊎ ((r ≡ ImportRecords) × EndsJoining HasOneTooMany files' old new)

-- ---- where it fails

-- A file stands so, read on; or a record was to come next of it, and behind that it is at a fault.
abbrev pub StandsStill : {X S : Type 0} → ImportFile X S → Standing → Type 0
StandsStill f s =
    (IsReady f × (s ≡ standing_of f))
    ⊎ ((e : Entry) × (g : ReadingFault) × (s.ahead ≡ Coming e) × IsFailedAt g f
    × ((standing_of f).entries ≡ s.entries))

-- so does each of some files
abbrev pub AllStandStill : {X S : Type 0} → List (ImportFile X S) → List Standing → Type 0
AllStandStill [] [] = ⊤
AllStandStill (f ∷ fs) (s ∷ ss) = StandsStill f s × AllStandStill fs ss
AllStandStill fs ss = ⊥

-- The earliest record was to be written: it was, or the sink failed at it.
pub record StopsEarliest {X S : Type 0} (Fails : Type 0) (files files' : List (ImportFile X S))
    (old new : List ℕ) : Type 0 where
  pub entry : Entry
  pub next : (rs : List Strand)
      → (left : List Strand) × IsJoinedNext (lefts (standings files) rs) entry left
  pub still : AllStandStill files' (standings files)
  pub text : WrittenAtFault Fails old new (records_text (entry ∷ []))

-- Files that stand so are joined to these records, which were to be written: they were, or the sink
-- failed at one.
pub record StopsUpTo {X S : Type 0} (Fails : Type 0) (files : List (ImportFile X S))
    (old new : List ℕ) : Type 0 where
  pub stood : List Standing
  pub still : AllStandStill files stood
  pub entries : List Entry
  pub joined : (rs : List Strand)
      → (left : List Strand) × JoinsByMoment (wholes stood rs) entries left
  pub few : length entries ≤ 16777216
  pub text : WrittenAtFault Fails old new (records_text entries)
