-- Records told apart by a key, in the order of their first coming.
use Rattle.std.specs.Prelude.{◌≡◌, ℕ, ◌+◌, Bool, not, if◌then◌else◌, List, [], ◌∷◌, map}
use Rattle.std.specs.Prelude.{Option, Some, None, option_map}
use Rattle.std.specs.BTreeMap.{BTreeMap, get}
use Rattle.std.specs.List.{filter}
use Rattle.std.specs.declared.cmp.Ordering.{Ordering}

-- the different ones of a list, each where it comes first
abbrev pub different : {K : Type 0} → (K → K → Bool) → List K → List K
different same [] = []
different same (k ∷ ks) = k ∷ filter (λ l. not (same l k)) (different same ks)

-- the records of a key, in their order
abbrev pub of_key : {K R : Type 0} → (K → K → Bool) → (R → K) → K → List R → List R
of_key same key k records = filter (λ r. same k (key r)) records

-- what is counted of records, key by key, in the order of their first coming
abbrev pub counted_by : {K R C : Type 0} → (K → K → Bool) → (R → K) → (K → List R → C)
    → List R → List C
counted_by same key count records =
    map (λ k. count k (of_key same key k records)) (different same (map key records))

-- the first place of a key
abbrev pub first_index : {K : Type 0} → (K → K → Bool) → K → List K → Option ℕ
first_index same k [] = None
first_index same k (l ∷ ks) = if same k l then Some 0 else option_map (λ i. i + 1) (first_index same k ks)

-- an index has the place of each key, and nothing else
abbrev pub IsIndexOf : {K : Type 0} → (K → K → Ordering) → (K → K → Bool) → BTreeMap K ℕ → List K
    → Type 0
IsIndexOf {K} cmp same places ks = (k : K) → get cmp places k ≡ first_index same k ks
