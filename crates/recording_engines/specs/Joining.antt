-- Files joined by the moments of their records (own).
use Rattle.std.specs.Prelude.{◌≡◌, ℕ, ◌<◌, ◌≤◌, ◌⊎◌, List, [], ◌∷◌, Option, None, Some, ⊤}
use Rattle.std.specs.List.{AllByRecursion}
use Rattle.media_file.specs.Records.{Entry}
use Rattle.recording_reader.specs.declared.fault.ReadingFault.{ReadingFault}

-- the records of a file that are left, and the fault behind them, if there is one
pub record Strand : Type 0 where
  pub entries : List Entry
  pub fault : Option ReadingFault

-- The next record comes later than this moment, or none comes. Where the fault is next, it isn't
-- known.
abbrev pub ComesLater : ℕ → List Entry → Option ReadingFault → Type 0
ComesLater moment [] None = ⊤
ComesLater moment [] (Some f) = ⊥
ComesLater moment (e ∷ es) fault = moment < e.moment

-- it comes not before this moment
abbrev pub ComesNoSooner : ℕ → List Entry → Option ReadingFault → Type 0
ComesNoSooner moment [] None = ⊤
ComesNoSooner moment [] (Some f) = ⊥
ComesNoSooner moment (e ∷ es) fault = moment ≤ e.moment

-- A record is the first of one strand, and comes before the first of each strand before that one,
-- and not behind the first of each strand behind it. Without it, these strands are left.
abbrev pub IsJoinedNext : List Strand → Entry → List Strand → Type 0
IsJoinedNext [] e left = ⊥
IsJoinedNext (s ∷ ss) e [] = ⊥
IsJoinedNext (s ∷ ss) e (l ∷ ls) =
    ((s ≡ record { entries = e ∷ l.entries; fault = l.fault }) × (ls ≡ ss)
    × AllByRecursion (λ t. ComesNoSooner e.moment t.entries t.fault) ss)
    ⊎ ((l ≡ s) × ComesLater e.moment s.entries s.fault × IsJoinedNext ss e ls)

-- Strands are joined to these records, always the earliest next; these strands are left.
abbrev pub JoinsByMoment : List Strand → List Entry → List Strand → Type 0
JoinsByMoment strands [] left = left ≡ strands
JoinsByMoment strands (e ∷ es) left =
    (behind : List Strand) × IsJoinedNext strands e behind × JoinsByMoment behind es left

-- nothing is left, and no fault
abbrev pub IsOver : Strand → Type 0
IsOver s = s ≡ record { entries = []; fault = None }

-- a record comes next, or the end does
abbrev pub ComesNoFault : List Entry → Option ReadingFault → Type 0
ComesNoFault [] None = ⊤
ComesNoFault [] (Some f) = ⊥
ComesNoFault (e ∷ es) fault = ⊤

-- so it is of a strand: it is at no fault
abbrev pub IsAtNoFault : Strand → Type 0
IsAtNoFault s = ComesNoFault s.entries s.fault

-- one of some strands is at this fault, and no other is at a fault
abbrev pub OneAt : ReadingFault → List Strand → Type 0
OneAt f [] = ⊥
OneAt f (s ∷ ss) =
    ((s ≡ record { entries = []; fault = Some f }) × AllByRecursion IsAtNoFault ss)
    ⊎ (IsAtNoFault s × OneAt f ss)

-- one has a record more
abbrev pub OneHasMore : List Strand → Type 0
OneHasMore [] = ⊥
OneHasMore (s ∷ ss) = ((e : Entry) × (es : List Entry) × (s.entries ≡ e ∷ es)) ⊎ OneHasMore ss

-- one has, and none is at a fault
abbrev pub GoFurther : List Strand → Type 0
GoFurther ss = AllByRecursion IsAtNoFault ss × OneHasMore ss

-- Strands are joined to these records, and what is left is so.
pub record JoinsTo (Ends : List Strand → Type 0) (strands : List Strand) (entries : List Entry)
    : Type 0 where
  pub left : List Strand
  pub joins : JoinsByMoment strands entries left
  pub ends : Ends left
