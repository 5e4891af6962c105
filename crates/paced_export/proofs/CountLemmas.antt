-- The counts of records, one more at a time.
use Rattle.std.proofs.Common.{◌≡◌, ℕ, ◌+◌, ◌≤◌, true, false, cond, List, []}
use Rattle.std.proofs.Common.{◌∷◌, ◌++◌, length, Option, None, Some, refl, sym, ap, ◌∙◌, arith}
use Rattle.std.proofs.Common.{⊎_elim}
use Rattle.std.specs.Prelude.{unwrap_or}
use Rattle.std.proofs.lemmas.Bool.{cases_eq}
use Rattle.std.proofs.lemmas.List.Sums.{sum_by-append, count_by-le-length}
use Rattle.std.specs.BTreeMap.{BTreeMap}
use Rattle.st_format.specs.declared.path.Path.{Path}
use Rattle.st_format.specs.declared.path.Path.TheVariants.{A, B}
use Rattle.st_format.specs.Turns.{is_path}
use Rattle.media_file.specs.Records.{Entry}
use Rattle.paced_export.specs.Counts.{AddsOne, AddsTo, Counts, count_of, counted}
use Rattle.paced_export.specs.Counts.{counted_in}
use Rattle.paced_export.specs.Counts.{first_timestamp, is_of}
use Rattle.paced_export.specs.Pacing.{timestamp_in}
use Rattle.paced_export.specs.declared.tally.FrameCounts.{FrameCounts}

-- no records
pub counts_none : {Al : Type 0} (t : FrameCounts Al) → t.first ≡ None
    → ((ts : ℕ) → counted_in t.a ts ≡ 0) → ((ts : ℕ) → counted_in t.b ts ≡ 0) → Counts t []
counts_none t first a b = record { first = first; by_a = a; by_b = b }

-- ---- a record more

more_counted : (path : Path) (ts : ℕ) (entries : List Entry) (e : Entry)
    → count_of path ts (entries ++ e ∷ []) ≡ count_of path ts entries + count_of path ts (e ∷ [])
more_counted path ts entries e =
    sum_by-append (λ (d : Entry). cond (is_of path ts d) 1 0) entries (e ∷ [])

one_by : (path : Path) (ts : ℕ) (e : Entry) → is_path path e.path ≡ true
    → timestamp_in e.octets ≡ ts → count_of path ts (e ∷ []) ≡ 1
one_by path ts e by is = grind (arith, by, is)

none_at : (path : Path) (ts q : ℕ) (e : Entry) → timestamp_in e.octets ≡ ts → (q ≡ ts → ⊥)
    → count_of path q (e ∷ []) ≡ 0
none_at path ts q e is other = grind (arith, is, other)

none_by : (path : Path) (q : ℕ) (e : Entry) → is_path path e.path ≡ false
    → count_of path q (e ∷ []) ≡ 0
none_by path q e by = grind (arith, by)

-- of its own path, and of the other one
mine_more : (path : Path) (old new : BTreeMap ℕ ℕ) (ts : ℕ) (entries : List Entry) (e : Entry)
    → is_path path e.path ≡ true → timestamp_in e.octets ≡ ts → AddsOne old new ts
    → ((q : ℕ) → counted_in old q ≡ count_of path q entries)
    → (q : ℕ) → counted_in new q ≡ count_of path q (entries ++ e ∷ [])
mine_more path old new ts entries e by is adds was q =
    ⊎_elim
    (λ here.
    ap (counted_in new) here ∙ adds.mine
    ∙ ap (λ (n : ℕ). n + 1) (was ts)
    ∙ ap (λ (n : ℕ). count_of path ts entries + n) (sym (one_by path ts e by is))
    ∙ sym (more_counted path ts entries e)
    ∙ ap (λ (n : ℕ). count_of path n (entries ++ e ∷ [])) (sym here))
    (λ other.
    adds.others q other ∙ was q
    ∙ (let none : count_of path q (e ∷ []) ≡ 0 = none_at path ts q e is other in
    let all : count_of path q (entries ++ e ∷ []) ≡ count_of path q entries + 0 =
    more_counted path q entries e
    ∙ ap (λ (n : ℕ). count_of path q entries + n) none in
    omega (arith, all)))
    (cases_eq q ts)

other_more : (path : Path) (old new : BTreeMap ℕ ℕ) (entries : List Entry) (e : Entry)
    → is_path path e.path ≡ false → new ≡ old
    → ((q : ℕ) → counted_in old q ≡ count_of path q entries)
    → (q : ℕ) → counted_in new q ≡ count_of path q (entries ++ e ∷ [])
other_more path old new entries e by same was q =
    ap (λ (m : BTreeMap ℕ ℕ). counted_in m q) same ∙ was q
    ∙ (let all : count_of path q (entries ++ e ∷ []) ≡ count_of path q entries + 0 =
    more_counted path q entries e
    ∙ ap (λ (n : ℕ). count_of path q entries + n) (none_by path q e by) in
    omega (arith, all))

first_more : (entries : List Entry) (e : Entry)
    → Some (unwrap_or (first_timestamp entries) (timestamp_in e.octets))
    ≡ first_timestamp (entries ++ e ∷ [])
first_more [] e = refl
first_more (d ∷ entries) e = refl

first_is : (ts : ℕ) (o new : Option ℕ) (entries : List Entry) (e : Entry)
    → timestamp_in e.octets ≡ ts → o ≡ first_timestamp entries → new ≡ Some (unwrap_or o ts)
    → new ≡ first_timestamp (entries ++ e ∷ [])
first_is ts o new entries e is was value =
    value ∙ ap (λ (n : Option ℕ). Some (unwrap_or n ts)) was
    ∙ ap (λ (n : ℕ). Some (unwrap_or (first_timestamp entries) n)) (sym is)
    ∙ first_more entries e

pub counts_more : {Al : Type 0} (old mid new : FrameCounts Al) (path : Path) (ts : ℕ)
    → AddsTo old mid path ts → new.a ≡ mid.a → new.b ≡ mid.b
    → new.first ≡ Some (unwrap_or mid.first ts) → (entries : List Entry) (e : Entry)
    → e.path ≡ path → timestamp_in e.octets ≡ ts → Counts old entries
    → Counts new (entries ++ e ∷ [])
counts_more old mid new A ts adds a b first entries e by is was = record {
  first =
      first_is ts mid.first new.first entries e is (adds.2 ∙ was.first) first;
  by_a = λ q.
      ap (λ (m : BTreeMap ℕ ℕ). counted_in m q) a
      ∙ mine_more A old.a mid.a ts entries e (ap (is_path A) by) is adds.0 was.by_a q;
  by_b = λ q. other_more B old.b new.b entries e (ap (is_path B) by) (b ∙ adds.1) was.by_b q;
}
counts_more old mid new B ts adds a b first entries e by is was = record {
  first =
      first_is ts mid.first new.first entries e is (adds.2 ∙ was.first) first;
  by_a = λ q. other_more A old.a new.a entries e (ap (is_path A) by) (a ∙ adds.1) was.by_a q;
  by_b = λ q.
      ap (λ (m : BTreeMap ℕ ℕ). counted_in m q) b
      ∙ mine_more B old.b mid.b ts entries e (ap (is_path B) by) is adds.0 was.by_b q;
}

-- ---- what the counts are

pub counted_is : {Al : Type 0} (t : FrameCounts Al) (entries : List Entry) → Counts t entries
    → (path : Path) (ts : ℕ) → counted t path ts ≡ count_of path ts entries
counted_is t entries c A ts = c.by_a ts
counted_is t entries c B ts = c.by_b ts

-- they are no more than the records
pub counted_few : {Al : Type 0} (t : FrameCounts Al) (entries : List Entry) → Counts t entries
    → (path : Path) (ts : ℕ) → counted t path ts ≤ length entries
counted_few t entries c path ts =
    omega (arith, counted_is t entries c path ts, count_by-le-length (is_of path ts) entries)
