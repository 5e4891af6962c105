-- How far files were read, and how far a run of `import` has joined them, whatever is still to come
-- of them.
use Rattle.std.specs.Prelude.{◌≡◌, ℕ, ◌<◌, ◌≤◌, ◌⊎◌, List, [], ◌∷◌, ◌++◌, Option, None, Some, ⊤}
use Rattle.std.specs.List.{AllByRecursion}
use Rattle.st_format.specs.History.{IsRead}
use Rattle.flow.specs.declared.flows.Flows.{Flows}
use Rattle.media_file.specs.Records.{Entry}
use Rattle.recording_engines.specs.Joining.{JoinsByMoment, Strand}
use Rattle.recording_engines.specs.Strands.{strand_in}
use Rattle.recording_reader.specs.declared.fault.ReadingFault.{ReadingFault}

-- what comes next of a file: it isn't read; this record; or its end, or its fault
pub data Ahead : Type 0 where
  Unknown : Ahead
  Coming : Entry → Ahead
  Over : Option ReadingFault → Ahead

-- the records of a file that were read, that which comes next among them
pub record Standing : Type 0 where
  pub entries : List Entry
  pub ahead : Ahead

-- all of a file, where this is still to come of it behind what was read
abbrev pub whole_by : List Entry → Ahead → Strand → Strand
whole_by es Unknown r = record { entries = es ++ r.entries; fault = r.fault }
whole_by es (Coming e) r = record { entries = es ++ r.entries; fault = r.fault }
whole_by es (Over f) r = record { entries = es; fault = f }

-- all of a file: what was read of it, and what is still to come
abbrev pub whole : Standing → Strand → Strand
whole s r = whole_by s.entries s.ahead r

-- what is left of it from the next record on
abbrev pub left_by : Ahead → Strand → Strand
left_by Unknown r = r
left_by (Coming e) r = record { entries = e ∷ r.entries; fault = r.fault }
left_by (Over f) r = record { entries = []; fault = f }

-- what is left of a file from the next record on
abbrev pub left_of : Standing → Strand → Strand
left_of s r = left_by s.ahead r

-- a file without records, and without a fault
abbrev pub nothing : Strand
nothing = record { entries = []; fault = None }

-- the same of files
abbrev pub wholes : List Standing → List Strand → List Strand
wholes [] rs = []
wholes (s ∷ ss) [] = whole s nothing ∷ wholes ss []
wholes (s ∷ ss) (r ∷ rs) = whole s r ∷ wholes ss rs

-- what is left of each file
abbrev pub lefts : List Standing → List Strand → List Strand
lefts [] rs = []
lefts (s ∷ ss) [] = left_of s nothing ∷ lefts ss []
lefts (s ∷ ss) (r ∷ rs) = left_of s r ∷ lefts ss rs

-- files are joined to these records so far, whatever is still to come
pub record HasJoined (ss : List Standing) (entries : List Entry) : Type 0 where
  pub joins : (rs : List Strand) → JoinsByMoment (wholes ss rs) entries (lefts ss rs)

-- of a file nothing was read but what comes next
abbrev pub IsFresh : Standing → Type 0
IsFresh s = (r : Strand) → whole s r ≡ left_of s r

-- nothing was read of any file but what comes next
abbrev pub AllFresh : List Standing → Type 0
AllFresh ss = AllByRecursion IsFresh ss

-- ---- a record more

-- What comes next of a file is a record later than this moment, or its end. Where that isn't read,
-- and where it is a fault, it isn't known.
abbrev pub IsLater : ℕ → Ahead → Type 0
IsLater moment Unknown = ⊥
IsLater moment (Coming e) = moment < e.moment
IsLater moment (Over None) = ⊤
IsLater moment (Over (Some f)) = ⊥

-- what comes next of a file comes at this moment or later
abbrev pub IsNoSooner : ℕ → Ahead → Type 0
IsNoSooner moment Unknown = ⊥
IsNoSooner moment (Coming e) = moment ≤ e.moment
IsNoSooner moment (Over None) = ⊤
IsNoSooner moment (Over (Some f)) = ⊥

-- behind these records one more was read, or the end or a fault
abbrev pub ReadsMore : List Entry → Ahead → List Entry → Type 0
ReadsMore es Unknown es' = ⊥
ReadsMore es (Coming e) es' = es' ≡ es ++ e ∷ []
ReadsMore es (Over f) es' = es' ≡ es

-- this record was the earliest next, and its file was read on
abbrev pub TakesEarliest : List Standing → Entry → List Standing → Type 0
TakesEarliest [] e ss' = ⊥
TakesEarliest (s ∷ ss) e [] = ⊥
TakesEarliest (s ∷ ss) e (s' ∷ ss') =
    ((s.ahead ≡ Coming e) × ReadsMore s.entries s'.ahead s'.entries × (ss' ≡ ss)
    × AllByRecursion (λ t. IsNoSooner e.moment t.ahead) ss)
    ⊎ ((s' ≡ s) × IsLater e.moment s.ahead × TakesEarliest ss e ss')

-- ---- what was read

-- whatever a source gives, its file is what was read and something behind it
pub record Lays (before now : List ℕ) (ended : Type 0) (flows : Option Flows) (s : Standing)
    : Type 0 where
  pub says : (octets : List ℕ) → IsRead before now ended octets
      → (r : Strand) × (strand_in flows octets ≡ whole s r)

-- so of each of some files, taken by these flows
abbrev pub AllLay : {S : Type 0} → (S → List ℕ) → (S → Type 0) → List (S × S)
    → List (Option Flows) → List Standing → Type 0
AllLay gave ended [] [] [] = ⊤
AllLay gave ended (z ∷ zs) (f ∷ fs) (s ∷ ss) =
    Lays (gave z.0) (gave z.1) (ended z.1) f s × AllLay gave ended zs fs ss
AllLay gave ended zs fs ss = ⊥
