-- What a run of `import` knows of each file while it reads them.
use Rattle.std.specs.Prelude.{◌≡◌, ℕ, zero, suc, ◌+◌, ◌<◌, ◌≤◌, ◌⊎◌, List, [], ◌∷◌, ◌++◌, ⊤, map}
use Rattle.std.specs.Prelude.{Bool, true, false, Option, None, Some, IsSome}
use Rattle.std.specs.List.{AllByRecursion}
use Rattle.flow.specs.declared.flows.Flows.{Flows}
use Rattle.recording_counts.specs.LeftOut.{left_out_of}
use Rattle.recording_counts.specs.declared.left_out.LeftOut.{LeftOut}
use Rattle.recording_counts.specs.declared.omission.Omission.{Omission}
use Rattle.media_file.specs.Records.{Entry}
use Rattle.recording_engines.specs.Steps.{Ahead, Coming, IsFresh, Over, ReadsMore, Standing}
use Rattle.recording_engines.specs.declared.file.ImportFile.{ImportFile}
use Rattle.recording_engines.specs.declared.file.ImportFile.TheVariants.{Closed, Open, Taken}
use Rattle.recording_reader.specs.FileReader.{HasGivenFile}
use Rattle.recording_reader.specs.declared.fault.ReadingFault.{ReadingFault}
use Rattle.recording_reader.specs.declared.way.Standing.{Standing as Stand}
use Rattle.recording_reader.specs.declared.way.Standing.TheVariants.{Reads, Ended, Failed}
use Rattle.run_outcome.specs.declared.fault.Fault.{Fault}
use Rattle.run_outcome.specs.LowerFaults.{reading_fault}

-- ---- one file

-- the source of a file; none while it is opened
abbrev pub source_of : {A S : Type 0} → ImportFile A S → Option S
source_of (Closed s) = Some s
source_of (Open r) = Some r.source
source_of Taken = None

-- what its source gave, whether that has ended, and how often it failed
abbrev pub gave_by : {A S : Type 0} → (S → List ℕ) → ImportFile A S → List ℕ
gave_by gave (Closed s) = gave s
gave_by gave (Open r) = gave r.source
gave_by gave Taken = []

-- the source of a file has ended
abbrev pub ended_by : {A S : Type 0} → (S → Type 0) → ImportFile A S → Type 0
ended_by ended (Closed s) = ended s
ended_by ended (Open r) = ended r.source
ended_by ended Taken = ⊥

-- how often the source of a file failed
abbrev pub failures_by : {A S : Type 0} → (S → ℕ) → ImportFile A S → ℕ
failures_by failures (Closed s) = failures s
failures_by failures (Open r) = failures r.source
failures_by failures Taken = 0

-- it is opened, and a recording of another tool
abbrev pub is_recording_file : {A S : Type 0} → ImportFile A S → Bool
is_recording_file (Closed s) = false
is_recording_file (Open r) = r.is_recording
is_recording_file Taken = false

-- it isn't opened yet
abbrev pub IsClosed : {A S : Type 0} → ImportFile A S → Type 0
IsClosed (Closed s) = ⊤
IsClosed (Open r) = ⊥
IsClosed Taken = ⊥

-- no file is opened yet
abbrev pub AllClosed : {A S : Type 0} → List (ImportFile A S) → Type 0
AllClosed files = AllByRecursion IsClosed files

-- by which flows it is read, and what its source had given before its first octet
abbrev pub begun_of : {A S : Type 0} → ImportFile A S → Option Flows × List ℕ
begun_of (Closed s) = (None, [])
begun_of (Open r) = (r.flows, r.before.gave)
begun_of Taken = (None, [])

-- the record that comes next
abbrev pub next_entry : {A S : Type 0} → ImportFile A S → Option Entry
next_entry (Closed s) = None
next_entry (Open r) = r.at_hand
next_entry Taken = None

-- the packets that were left out of it so far
abbrev pub left_out_by : {A S : Type 0} → ImportFile A S → LeftOut
left_out_by (Closed s) = left_out_of []
left_out_by (Open r) = r.left_out
left_out_by Taken = left_out_of []

-- what comes next of it, by where its reader stands
abbrev pub ahead_by : Stand → Option Entry → Ahead
ahead_by Reads None = Over None
ahead_by Reads (Some e) = Coming e
ahead_by Ended at_hand = Over None
ahead_by (Failed f) at_hand = Over (Some f)

-- the records that were read of it, and what comes next
abbrev pub standing_of : {A S : Type 0} → ImportFile A S → Standing
standing_of (Closed s) = record { entries = []; ahead = Over None }
standing_of (Open r) = record { entries = r.records; ahead = ahead_by r.standing r.at_hand }
standing_of Taken = record { entries = []; ahead = Over None }

-- what was read of each file, and what comes next of it
abbrev pub standings : {A S : Type 0} → List (ImportFile A S) → List Standing
standings files = map standing_of files

-- its reader goes on
abbrev pub IsReading : {A S : Type 0} → ImportFile A S → Type 0
IsReading (Closed s) = ⊥
IsReading (Open r) = r.standing ≡ Reads
IsReading Taken = ⊥

-- a record is at hand, or the end was read
abbrev pub HasAhead : Stand → Option Entry → Type 0
HasAhead Reads (Some e) = ⊤
HasAhead Ended None = ⊤
HasAhead standing at_hand = ⊥

-- of a file that is opened the next record, or the end, is known
abbrev pub IsReady : {A S : Type 0} → ImportFile A S → Type 0
IsReady (Closed s) = ⊥
IsReady (Open r) = HasAhead r.standing r.at_hand
IsReady Taken = ⊥

-- so of all files
abbrev pub AllReady : {A S : Type 0} → List (ImportFile A S) → Type 0
AllReady files = AllByRecursion IsReady files

-- the reader of a file came to this fault, at which it stays
abbrev pub IsFailedAt : {A S : Type 0} → ReadingFault → ImportFile A S → Type 0
IsFailedAt f (Closed s) = ⊥
IsFailedAt f (Open r) = r.standing ≡ Failed f
IsFailedAt f Taken = ⊥

-- what is known of the octets that it has
abbrev pub HasKnownOctets : {A S : Type 0} → (S → List ℕ) → (S → Type 0) → ImportFile A S → Type 0
HasKnownOctets gave ended (Closed s) = ⊤
HasKnownOctets gave ended (Open r) = HasGivenFile gave ended r
HasKnownOctets gave ended Taken = ⊤

-- a recording is read by flows
abbrev pub IsReadByFlows : {A S : Type 0} → ImportFile A S → Type 0
IsReadByFlows (Closed s) = ⊤
IsReadByFlows (Open r) = r.is_recording ≡ true → IsSome r.flows
IsReadByFlows Taken = ⊤

-- ---- reading on

-- It was read on, to the next record or to the end.
pub record ReadsFileOn {A S : Type 0} (old new : ImportFile A S) : Type 0 where
  pub ready : IsReady new
  pub more : ReadsMore (standing_of old).entries (standing_of new).ahead (standing_of new).entries

-- It was read on, to a fault, by which the run ends.
pub record ReadsToFault {A S : Type 0} (fault : Fault) (old new : ImportFile A S) : Type 0 where
  pub reading : ReadingFault
  pub told : fault ≡ reading_fault reading
  pub at : IsFailedAt reading new
  pub over : (standing_of new).ahead ≡ Over (Some reading)
  pub same : (standing_of new).entries ≡ (standing_of old).entries

-- ---- opening

-- it has a reader that has read nothing behind the file's front
pub record IsUnread {A S : Type 0} (f : ImportFile A S) : Type 0 where
  pub reading : IsReading f
  pub none : (standing_of f).entries ≡ []

-- so, by these flows, where its source had given these octets
pub record IsNew {A S : Type 0} (flows : Option Flows) (before : List ℕ) (f : ImportFile A S)
    : Type 0 where
  pub begun : begun_of f ≡ (flows, before)
  pub unread : IsUnread f

-- it was opened by these flows, and read on to its first record
pub record IsOpenedFile {A S : Type 0} (gave : S → List ℕ) (flows : Option Flows)
    (old new : ImportFile A S) : Type 0 where
  pub begun : begun_of new ≡ (flows, gave_by gave old)
  pub ready : IsReady new
  pub fresh : IsFresh (standing_of new)

-- so it is of each file
abbrev pub AllOpened : {A S : Type 0} → (S → List ℕ) → List (Option Flows)
    → List (ImportFile A S) → List (ImportFile A S) → Type 0
AllOpened gave [] [] [] = ⊤
AllOpened gave (f ∷ fs) (o ∷ os) (n ∷ ns) =
    IsOpenedFile gave f o n × AllOpened gave fs os ns
AllOpened gave each olds news = ⊥

-- ---- what was left out

-- why packets were left out of files
abbrev pub AreLeftOut : {A S : Type 0} → List (ImportFile A S) → List Omission → Type 0
AreLeftOut [] omissions = omissions ≡ []
AreLeftOut (f ∷ fs) omissions =
    (some more : List Omission) × (left_out_by f ≡ left_out_of some) × AreLeftOut fs more
    × (omissions ≡ some ++ more)

-- ---- the earliest

-- what comes next, if anything does, comes later than this moment
abbrev pub NextIsLater : ℕ → Option Entry → Type 0
NextIsLater moment None = ⊤
NextIsLater moment (Some e) = moment < e.moment

-- what comes next, if anything does, comes at this moment or later
abbrev pub NextIsNoSooner : ℕ → Option Entry → Type 0
NextIsNoSooner moment None = ⊤
NextIsNoSooner moment (Some e) = moment ≤ e.moment

-- The file of a place comes next, at this moment: it is before those before it, and not behind
-- those behind it.
abbrev pub Leads : {A S : Type 0} → ℕ → ℕ → List (ImportFile A S) → Type 0
Leads k moment [] = ⊥
Leads zero moment (f ∷ fs) =
    ((e : Entry) × (next_entry f ≡ Some e) × (e.moment ≡ moment))
    × AllByRecursion (λ g. NextIsNoSooner moment (next_entry g)) fs
Leads (suc k) moment (f ∷ fs) = NextIsLater moment (next_entry f) × Leads k moment fs

-- so at some moment
abbrev pub IsLed : {A S : Type 0} → ℕ → List (ImportFile A S) → Type 0
IsLed k files = (moment : ℕ) × Leads k moment files

-- the place and the moment of the record that comes first; none where no file has one
abbrev pub IsEarliest : {A S : Type 0} → List (ImportFile A S) → Option (ℕ × ℕ) → Type 0
IsEarliest fs None = AllByRecursion (λ f. next_entry f ≡ None) fs
IsEarliest fs (Some x) = Leads x.0 x.1 fs

-- the sooner of a first one's moment, and of the place and moment of the one behind it that comes
-- next
abbrev pub IsSooner : Option ℕ → Option (ℕ × ℕ) → Option (ℕ × ℕ) → Type 0
IsSooner None None found = found ≡ None
IsSooner None (Some x) found = found ≡ Some (x.0 + 1, x.1)
IsSooner (Some m) None found = found ≡ Some (0, m)
IsSooner (Some m) (Some x) found =
    ((x.1 < m) × (found ≡ Some (x.0 + 1, x.1))) ⊎ ((m ≤ x.1) × (found ≡ Some (0, m)))
