-- How many records the frames of a capture have (own).
use Rattle.std.specs.Prelude.{◌≡◌, ◌≢◌, ℕ, ◌+◌, ◌==◌, ◌&&◌, Bool, unwrap_or, count_by}
use Rattle.std.specs.Prelude.{List, [], ◌∷◌, Option, None, Some}
use Rattle.std.specs.BTreeMap.{BTreeMap, get}
use Rattle.std.specs.Ordering.{nat_cmp}
use Rattle.st_format.specs.Turns.{is_path}
use Rattle.st_format.specs.declared.path.Path.{Path}
use Rattle.st_format.specs.declared.path.Path.TheVariants.{A, B}
use Rattle.media_file.specs.Records.{Entry}
use Rattle.paced_export.specs.Pacing.{timestamp_in}
use Rattle.paced_export.specs.declared.tally.FrameCounts.{FrameCounts}

-- a record is of a path, and has a timestamp
abbrev pub is_of : Path → ℕ → Entry → Bool
is_of path ts e = is_path path e.path && timestamp_in e.octets == ts

-- how many records of a path have a timestamp
abbrev pub count_of : Path → ℕ → List Entry → ℕ
count_of path ts entries = count_by (is_of path ts) entries

-- the timestamp of the first record, from which on those of the others are counted
abbrev pub first_timestamp : List Entry → Option ℕ
first_timestamp [] = None
first_timestamp (e ∷ entries) = Some (timestamp_in e.octets)

-- ---- as they are kept

-- the count of a timestamp, 0 where none was counted
abbrev pub counted_in : BTreeMap ℕ ℕ → ℕ → ℕ
counted_in m ts = unwrap_or (get nat_cmp m ts) 0

-- how many records of a path and a timestamp are counted
abbrev pub counted : {Al : Type 0} → FrameCounts Al → Path → ℕ → ℕ
counted t A ts = counted_in t.a ts
counted t B ts = counted_in t.b ts

-- one more of this timestamp
pub record AddsOne (old new : BTreeMap ℕ ℕ) (ts : ℕ) : Type 0 where
  pub mine : counted_in new ts ≡ counted_in old ts + 1
  pub others : (q : ℕ) → q ≢ ts → counted_in new q ≡ counted_in old q

-- one more of this timestamp is counted of a path, and nothing else is changed
abbrev pub AddsTo : {Al : Type 0} → FrameCounts Al → FrameCounts Al → Path → ℕ → Type 0
AddsTo old new A ts = AddsOne old.a new.a ts × (new.b ≡ old.b) × (new.first ≡ old.first)
AddsTo old new B ts = AddsOne old.b new.b ts × (new.a ≡ old.a) × (new.first ≡ old.first)

-- what is kept are the counts of these records
pub record Counts {Al : Type 0} (t : FrameCounts Al) (entries : List Entry) : Type 0 where
  pub first : t.first ≡ first_timestamp entries
  pub by_a : (ts : ℕ) → counted_in t.a ts ≡ count_of A ts entries
  pub by_b : (ts : ℕ) → counted_in t.b ts ≡ count_of B ts entries
