-- Runs of numbers, and the set that they are.
use Rattle.std.specs.Prelude.{◌≡◌, ◌≢◌, ℕ, zero, suc, ◌+◌, ◌-◌, ◌≤◌, ◌<◌, Bool, true, false, ◌==◌}
use Rattle.std.specs.Prelude.{◌&&◌, nat_le, if◌then◌else◌, List, [], ◌∷◌}
use Rattle.std.specs.Prelude.{map, Option, Some, None, IsSome}
use Rattle.std.specs.BTreeMap.{BTreeMap, IsOrdered, get}
use Rattle.std.specs.FinSet.{FinSet, contains, from_list, insert}
use Rattle.std.specs.List.{flat_map, list_any}
use Rattle.std.specs.Ordering.{nat_cmp}
use Rattle.recording_counts.specs.declared.number_set.Run.{Run}

-- so many numbers, from the first
abbrev pub counting : ℕ → ℕ → List ℕ
counting first zero = []
counting first (suc n) = first ∷ counting (suc first) n

-- the numbers of a run: from its first to its last
abbrev pub run_numbers : Run → List ℕ
run_numbers r = counting r.first (r.last + 1 - r.first)

-- the set of the numbers of runs
abbrev pub numbers_of : List Run → FinSet nat_cmp
numbers_of runs = from_list (flat_map run_numbers runs)

-- whether a number is one of a run, and of some run
abbrev pub in_run : ℕ → Run → Bool
in_run n r = nat_le r.first n && nat_le n r.last

-- whether a number is one of some run's
abbrev pub is_in : ℕ → List Run → Bool
is_in n runs = list_any (in_run n) runs

-- the runs of a tree, which has the last number of each at its first
abbrev pub run_of : ℕ × ℕ → Run
run_of e = record { first = e.0; last = e.1 }

-- the runs of a tree, in the order of their first numbers
abbrev pub runs_of : BTreeMap ℕ ℕ → List Run
runs_of below = map run_of below.entries

-- the runs of a tree, and the top one, if there is one
abbrev pub all_runs : Option Run → BTreeMap ℕ ℕ → List Run
all_runs None below = runs_of below
all_runs (Some top) below = top ∷ runs_of below

-- a number is in a run of a tree
abbrev pub HoldsNumber : BTreeMap ℕ ℕ → ℕ → Type 0
HoldsNumber runs n = (first : ℕ) × (last : ℕ) × (get nat_cmp runs first ≡ Some last)
    × (first ≤ n) × (n ≤ last)

-- Between a run and the next one is a number or more, and so between the last one and a limit.
pub record Apart (limit : ℕ) (runs : BTreeMap ℕ ℕ) : Type 0 where
  pub ordered : IsOrdered nat_cmp runs
  pub each : (first last : ℕ) → get nat_cmp runs first ≡ Some last → first ≤ last
  pub between : (first last next end : ℕ) → get nat_cmp runs first ≡ Some last
      → get nat_cmp runs next ≡ Some end → first < next → last + 2 ≤ next
  pub below : (first last : ℕ) → get nat_cmp runs first ≡ Some last → last + 2 ≤ limit

-- The runs below the top one lie apart from it and from one another; without a top one there are
-- none.
abbrev pub AreRunsApart : Option Run → BTreeMap ℕ ℕ → Type 0
AreRunsApart None below = below.entries ≡ []
AreRunsApart (Some top) below = (top.first ≤ top.last) × Apart top.first below

-- the last run that begins at a number or before it, if there is one
abbrev pub IsLastFrom : ℕ → BTreeMap ℕ ℕ → Option Run → Type 0
IsLastFrom n runs None = (q : ℕ) → q ≤ n → get nat_cmp runs q ≡ None
IsLastFrom n runs (Some r) =
    (get nat_cmp runs r.first ≡ Some r.last) × (r.first ≤ n)
    × ((q : ℕ) → q ≤ n → IsSome (get nat_cmp runs q) → q ≤ r.first)

-- A number that is in no run makes with those right before it a run that begins at this one, and
-- the others lie apart from that.
pub record BeginsRun (first n : ℕ) (runs : BTreeMap ℕ ℕ) : Type 0 where
  pub bound : first ≤ n
  pub own : (last : ℕ) → get nat_cmp runs first ≡ Some last → last + 1 ≡ n
  pub joined : first < n → IsSome (get nat_cmp runs first)
  pub before : (q last : ℕ) → get nat_cmp runs q ≡ Some last → q < first → last + 2 ≤ first
  pub behind : (q : ℕ) → IsSome (get nat_cmp runs q) → first < q → n < q

-- whether that run has the number, and where a run begins that the number is put to
abbrev pub reaches : Option Run → ℕ → Bool
reaches None n = false
reaches (Some r) n = nat_le n r.last

-- where a run begins that a number is put to: at the first of the run that ends right before it,
-- or else at itself
abbrev pub begin_of : Option Run → ℕ → ℕ
begin_of None n = n
begin_of (Some r) n = if r.last + 1 == n then r.first else n

-- the runs of a tree have one number more
abbrev pub HasOneMore : BTreeMap ℕ ℕ → ℕ → BTreeMap ℕ ℕ → Type 0
HasOneMore old n new =
    (HoldsNumber new n) × ((q : ℕ) → HoldsNumber old q → HoldsNumber new q)
    × ((q : ℕ) → HoldsNumber new q → q ≢ n → HoldsNumber old q)

-- A number is put to runs, and this is the top one then; or it is there, and the runs stay.
abbrev pub IsPut : Option Run → BTreeMap ℕ ℕ → ℕ → Option Run → BTreeMap ℕ ℕ → Type 0
IsPut top old n None new =
    (contains (numbers_of (all_runs top old)) n ≡ true) × (new.entries ≡ old.entries)
IsPut top old n (Some next) new =
    (contains (numbers_of (all_runs top old)) n ≡ false)
    × AreRunsApart (Some next) new
    × (numbers_of (all_runs (Some next) new) ≡ insert (numbers_of (all_runs top old)) n)
