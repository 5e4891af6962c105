-- Tables where one more record comes.
use Rattle.std.proofs.Common.{◌≡◌, ℕ, suc, ◌+◌, ◌<◌, Bool, true, false, not, cond, List, []}
use Rattle.std.proofs.Common.{◌∷◌, ◌++◌, map, length, Option, Some, None, option_map, get_or}
use Rattle.std.proofs.Common.{zero}
use Rattle.std.proofs.Common.{slice_set, refl, ap, sym, ◌∙◌, arith, append-nil, ◌⊎◌, ⊎_elim, inl}
use Rattle.std.proofs.Common.{inr, subst}
use Rattle.std.proofs.lemmas.Bool.{cases_Bool, false_from_ne_true, both_ways, or_parts}
use Rattle.std.proofs.lemmas.Grind.{common_steps}
use Rattle.std.proofs.lemmas.List.{map-append, length-map}
use Rattle.std.proofs.lemmas.List.Elements.{filter-append}
use Rattle.std.proofs.lemmas.Map.Lookups.{CmpEqualImpliesEq}
use Rattle.std.specs.BTreeMap.{BTreeMap, Updates, get, is_at}
use Rattle.std.specs.List.{list_any}
use Rattle.std.specs.Ordering.{is_eq}
use Rattle.std.specs.declared.cmp.Ordering.{Ordering}
use Rattle.std.specs.declared.cmp.Ordering.TheVariants.{Less, Equal, Greater}
use Rattle.recording_counts.specs.Tables.{IsIndexOf, counted_by, different, of_key, first_index}
use Rattle.recording_counts.proofs.Different.{added, different_more, without}

-- the first place is here, or behind
step : (b : Bool) (o : Option ℕ) (i : ℕ) → cond b (Some 0) (option_map (λ j. j + 1) o) ≡ Some i
    → ((b ≡ true) × (i ≡ 0)) ⊎ ((b ≡ false) × ((j : ℕ) × (o ≡ Some j) × (i ≡ suc j)))
step true o i e = inl (refl, cc)
step false None i e = absurd (cc)
step false (Some j) i e =
    let n : j + 1 ≡ i = cc in inr (refl, (j, refl, omega arith))

-- nowhere: not here, and not behind
nowhere : (b : Bool) (o : Option ℕ) → cond b (Some 0) (option_map (λ j. j + 1) o) ≡ None
    → (b ≡ false) × (o ≡ None)
nowhere true o e = absurd (cc)
nowhere false None e = (refl, refl)
nowhere false (Some j) e = absurd (cc)

-- a place is one in the list
within : {K : Type 0} (same : K → K → Bool) (k : K) (ds : List K) (i : ℕ)
    → first_index same k ds ≡ Some i → i < length ds
within same k [] i e = absurd (cc)
within same k (d ∷ ds) i e =
    ⊎_elim (λ here. let z : i ≡ 0 = here.1 in omega arith)
    (λ there. let lt : there.1.0 < length ds = within same k ds there.1.0 there.1.1 in
    let n : i ≡ suc (there.1.0) = there.1.2 in omega arith)
    (step (same k d) (first_index same k ds) i e)

pub below : {K C : Type 0} (same : K → K → Bool) (of : C → K) (counts : List C) (k : K) (i : ℕ)
    → first_index same k (map of counts) ≡ Some i → i < length counts
below same of counts k i e =
    subst (λ (n : ℕ). i < n) (length-map counts of) (within same k (map of counts) i e)

-- keys that are the same are one
pub record AreKeys {K : Type 0} (same : K → K → Bool) : Type 0 where
  pub one : (k l : K) → same k l ≡ true → k ≡ l
  pub itself : (k : K) → same k k ≡ true

-- keys fall into parts, each of those that are the same
pub record Parts {K : Type 0} (same : K → K → Bool) : Type 0 where
  pub itself : (k : K) → same k k ≡ true
  pub flips : (k l : K) → same k l ≡ true → same l k ≡ true
  pub passes : (k l m : K) → same k l ≡ true → same l m ≡ true → same k m ≡ true

-- each of one key alone
pub parts_of : {K : Type 0} (same : K → K → Bool) → AreKeys same → Parts same
parts_of {K = K} same are =
    record {
      itself = are.itself;
      flips = λ d e p. subst (λ (x : K). same x d ≡ true) (are.one d e p) (are.itself d);
      passes = λ d e f p q. subst (λ (x : K). same d x ≡ true) (are.one e f q) p;
    }

-- what is told apart by its key falls into parts too
pub coded_parts : {D K : Type 0} (same : K → K → Bool) (code : D → K) → Parts same
    → Parts (λ (d e : D). same (code d) (code e))
coded_parts same code are =
    record {
      itself = λ d. are.itself (code d);
      flips = λ d e. are.flips (code d) (code e);
      passes = λ d e f. are.passes (code d) (code e) (code f);
    }

module _ {K : Type 0} (same : K → K → Bool) (are : Parts same) where
  flips_not : (d e : K) → same d e ≡ false → same e d ≡ false
  flips_not d e p = false_from_ne_true _ (λ q. both_ways _ p (are.flips e d q))

  -- ---- keys that differ

  abbrev Apart : List K → Type 0
  Apart [] = Unit {0}
  Apart (d ∷ ds) = (list_any (λ e. same e d) ds ≡ false) × Apart ds

  none_in : (d e : K) (ds : List K) → list_any (λ f. same f d) ds ≡ false
      → list_any (λ f. same f d) (without same e ds) ≡ false
  none_in d e [] p = refl
  none_in d e (f ∷ ds) p = grind (arith, common_steps, none_in d e ds)

  none_same : (d : K) (ds : List K) → list_any (λ f. same f d) (without same d ds) ≡ false
  none_same d [] = refl
  none_same d (f ∷ ds) = grind (arith, common_steps, none_same d ds)

  apart_without : (e : K) (ds : List K) → Apart ds → Apart (without same e ds)
  apart_without e [] p = tt
  apart_without e (d ∷ ds) p =
      elim (same d e) as (λ b. Apart (cond (not b) (d ∷ without same e ds) (without same e ds))) [
        | true ↦ apart_without e ds p.1
        | false ↦ (none_in d e ds p.0, apart_without e ds p.1)
      ]

  apart : (ds : List K) → Apart (different same ds)
  apart [] = tt
  apart (d ∷ ds) =
      (none_same d (different same ds), apart_without d (different same ds) (apart ds))

  -- ---- places

  abbrev place : K → List K → Option ℕ
  place d ds = first_index same d ds

  added_there : (d : K) (ds : List K) (i : ℕ) → place d ds ≡ Some i → added same d ds ≡ ds
  added_there d [] i e = absurd (cc)
  added_there d (f ∷ ds) i e =
      ⊎_elim (λ here. ap (λ (b : Bool). cond b (f ∷ ds) (f ∷ added same d ds)) here.0)
      (λ there. ap (λ (b : Bool). cond b (f ∷ ds) (f ∷ added same d ds)) there.0
      ∙ ap (λ (t : List K). f ∷ t) (added_there d ds there.1.0 there.1.1))
      (step (same d f) (place d ds) i e)

  added_new : (d : K) (ds : List K) → place d ds ≡ None → added same d ds ≡ ds ++ d ∷ []
  added_new d [] e = refl
  added_new d (f ∷ ds) e =
      let n = nowhere (same d f) (place d ds) e in
      ap (λ (b : Bool). cond b (f ∷ ds) (f ∷ added same d ds)) n.0
      ∙ ap (λ (t : List K). f ∷ t) (added_new d ds n.1)

  place_end : (k d : K) (ds : List K) → same k d ≡ true → place k ds ≡ None
      → place k (ds ++ d ∷ []) ≡ Some (length ds)
  place_end k d [] t e = ap (λ (b : Bool). cond b (Some 0) None) t
  place_end k d (f ∷ ds) t e =
      let n = nowhere (same k f) (place k ds) e in
      ap (λ (b : Bool). cond b (Some 0) (option_map (λ j. j + 1) (place k (ds ++ d ∷ [])))) n.0
      ∙ ap (option_map (λ j. j + 1)) (place_end k d ds t n.1)
      ∙ ap (λ (j : ℕ). Some j) (let e : length ds + 1 ≡ suc (length ds) = omega arith in e)

  place_past : (k d : K) (ds : List K) → same k d ≡ false → place k (ds ++ d ∷ []) ≡ place k ds
  place_past k d [] t = ap (λ (b : Bool). cond b (Some 0) None) t
  place_past k d (f ∷ ds) t =
      ap (λ (o : Option ℕ). cond (same k f) (Some 0) (option_map (λ j. j + 1) o))
      (place_past k d ds t)

  -- ---- the index

  is_equal : (o : Ordering) → is_eq o ≡ true → o ≡ Equal
  is_equal Less e = absurd (cc)
  is_equal Equal e = refl
  is_equal Greater e = absurd (cc)

  -- one more key, which the index has then
  index_new : (keys : AreKeys same) (cmp : K → K → Ordering) → CmpEqualImpliesEq cmp → (old new : BTreeMap K ℕ)
      (ds : List K) (d : K) → IsIndexOf cmp same old ds → place d ds ≡ None
      → Updates cmp old new d (Some (length ds)) → IsIndexOf cmp same new (ds ++ d ∷ [])
  index_new keys cmp exact old new ds d index none updates k =
      ⊎_elim
      (λ here.
      let e : k ≡ d = keys.one k d here in
      ap (get cmp new) e ∙ updates.1
      ∙ sym (place_end k d ds here (ap (λ (x : K). place x ds) e ∙ none)))
      (λ other.
      let apart : is_at (cmp d) k ≡ false =
      false_from_ne_true _
      (λ t.
      let e : d ≡ k = exact d k (is_equal _ t) in
      both_ways (same k d) other (subst (λ (x : K). same x d ≡ true) e (keys.itself d))) in
      updates.2 k apart ∙ index k ∙ sym (place_past k d ds other))
      (cases_Bool (same k d))

  module _ {R C : Type 0} (key : R → K) (count : K → List R → C) where
    abbrev own : K → List R → List R
    own d all = of_key same key d all

    abbrev counted : List R → K → C
    counted all d = count d (own d all)

    abbrev keys : List R → List K
    keys all = different same (map key all)

    abbrev table : List R → List C
    table all = counted_by same key count all

    own_same : (all : List R) (a : R) (d : K) → same d (key a) ≡ true
        → own d (all ++ a ∷ []) ≡ own d all ++ a ∷ []
    own_same all a d e =
        filter-append (λ (x : R). same d (key x)) all (a ∷ [])
        ∙ ap (λ (b : Bool). own d all ++ cond b (a ∷ []) []) e

    own_other : (all : List R) (a : R) (d : K) → same d (key a) ≡ false
        → own d (all ++ a ∷ []) ≡ own d all
    own_other all a d e =
        filter-append (λ (x : R). same d (key x)) all (a ∷ [])
        ∙ ap (λ (b : Bool). own d all ++ cond b (a ∷ []) []) e ∙ append-nil (own d all)

    others_stay : (all : List R) (a : R) (d : K) (ds : List K) → same (key a) d ≡ true
        → list_any (λ e. same e d) ds ≡ false
        → map (counted all) ds ≡ map (counted (all ++ a ∷ [])) ds
    others_stay all a d [] s p = refl
    others_stay all a d (e ∷ ds) s p =
        let q = or_parts (same e d) _ p in
        let other : same e (key a) ≡ false =
        false_from_ne_true _ (λ r. both_ways _ q.0 (are.passes e (key a) d r s)) in
        ap (λ (x : List R). count e x ∷ map (counted all) ds) (sym (own_other all a e other))
        ∙ ap (λ (t : List C). counted (all ++ a ∷ []) e ∷ t) (others_stay all a d ds s q.1)

    -- a count that goes on from this one, by one more record
    abbrev pub GoesOn : C → C → R → Type 0
    GoesOn old next a =
        (d : K) (rs : List R) → old ≡ count d rs → next ≡ count d (rs ++ a ∷ [])

    set_there : (all : List R) (a : R) (ds : List K) (i : ℕ) (old next : C) → Apart ds
        → place (key a) ds ≡ Some i → old ≡ get_or (map (counted all) ds) i old
        → GoesOn old next a
        → slice_set (map (counted all) ds) i next ≡ map (counted (all ++ a ∷ [])) ds
    set_there all a [] i old next p e at g = absurd (cc)
    set_there all a (d ∷ ds) i old next p e at g =
        let cs : List C = map (counted all) (d ∷ ds) in
        let rest : List C = map (counted all) ds in
        ⊎_elim
        (λ here.
        let was : old ≡ counted all d = at ∙ ap (λ (k : ℕ). get_or cs k old) here.1 in
        ap (λ (k : ℕ). slice_set cs k next) here.1
        ∙ ap (λ (x : C). x ∷ rest)
        (g d (own d all) was ∙ ap (count d) (sym (own_same all a d (are.flips (key a) d here.0))))
        ∙ ap (λ (t : List C). counted (all ++ a ∷ []) d ∷ t)
        (others_stay all a d ds here.0 p.0))
        (λ there.
        let j : ℕ = there.1.0 in
        ap (λ (k : ℕ). slice_set cs k next) there.1.2
        ∙ ap (λ (t : List C). counted all d ∷ t)
        (set_there all a ds j old next p.1 there.1.1
        (at ∙ ap (λ (k : ℕ). get_or cs k old) there.1.2) g)
        ∙ ap (λ (x : List R). count d x ∷ map (counted (all ++ a ∷ [])) ds)
        (sym (own_other all a d (flips_not (key a) d there.0))))
        (step (same (key a) d) (place (key a) ds) i e)

    keys_more : (all : List R) (a : R) → keys (all ++ a ∷ []) ≡ added same (key a) (keys all)
    keys_more all a =
        ap (different same) (map-append key all (a ∷ []))
        ∙ different_more same are.passes (map key all) (key a)

    -- where a record is of a key that is there, its count goes on, and the others stay
    pub noted_there : (all : List R) (a : R) (i : ℕ) (old next : C)
        → place (key a) (keys all) ≡ Some i → old ≡ get_or (table all) i old
        → GoesOn old next a → slice_set (table all) i next ≡ table (all ++ a ∷ [])
    noted_there all a i old next e at g =
        set_there all a (keys all) i old next (apart (map key all)) e at g
        ∙ ap (map (counted (all ++ a ∷ [])))
        (sym (keys_more all a ∙ added_there (key a) (keys all) i e))

    -- ---- a key that is new

    all_stay : (all : List R) (a : R) (ds : List K) → place (key a) ds ≡ None
        → map (counted all) ds ≡ map (counted (all ++ a ∷ [])) ds
    all_stay all a [] e = refl
    all_stay all a (d ∷ ds) e =
        let n = nowhere (same (key a) d) (place (key a) ds) e in
        ap (λ (x : List R). count d x ∷ map (counted all) ds)
        (sym (own_other all a d (flips_not (key a) d n.0)))
        ∙ ap (λ (t : List C). counted (all ++ a ∷ []) d ∷ t) (all_stay all a ds n.1)

    -- what is nowhere among the others is nowhere among all
    behind_without : (d e : K) (ds : List K) → same d e ≡ false
        → place d (without same e ds) ≡ None → place d ds ≡ None
    behind_without d e [] p q = refl
    behind_without d e (f ∷ ds) p q =
        ⊎_elim
        (λ gone.
        let here : same d f ≡ false =
        false_from_ne_true _ (λ r. both_ways _ p (are.passes d f e r gone)) in
        let rest : place d ds ≡ None =
        behind_without d e ds p
        (sym (ap (λ (b : Bool). place d (cond (not b) (f ∷ without same e ds)
        (without same e ds))) gone) ∙ q) in
        ap (λ (b : Bool). cond b (Some 0) (option_map (λ j. j + 1) (place d ds))) here
        ∙ ap (option_map (λ j. j + 1)) rest)
        (λ kept.
        let n = nowhere (same d f) (place d (without same e ds))
        (sym (ap (λ (b : Bool). place d (cond (not b) (f ∷ without same e ds)
        (without same e ds))) kept) ∙ q) in
        ap (λ (b : Bool). cond b (Some 0) (option_map (λ j. j + 1) (place d ds))) n.0
        ∙ ap (option_map (λ j. j + 1)) (behind_without d e ds p n.1))
        (cases_Bool (same f e))

    none_came : (all : List R) (d : K) → place d (keys all) ≡ None → own d all ≡ []
    none_came [] d e = refl
    none_came (a ∷ all) d e =
        let n = nowhere (same d (key a)) (place d (without same (key a) (keys all))) e in
        ap (λ (b : Bool). cond b (a ∷ own d all) (own d all)) n.0
        ∙ none_came all d (behind_without d (key a) (keys all) n.0 n.1)

    -- where a record is of no key that is there, it begins one
    pub noted_new : (all : List R) (a : R) → place (key a) (keys all) ≡ None
        → table all ++ count (key a) (a ∷ []) ∷ [] ≡ table (all ++ a ∷ [])
    noted_new all a e =
        let d : K = key a in
        let mine : own d (all ++ a ∷ []) ≡ a ∷ [] =
        own_same all a d (are.itself d)
        ∙ ap (λ (x : List R). x ++ a ∷ []) (none_came all d e) in
        ap (λ (x : List C). x ++ count d (a ∷ []) ∷ []) (all_stay all a (keys all) e)
        ∙ ap (λ (x : List R). map (counted (all ++ a ∷ [])) (keys all) ++ count d x ∷ [])
        (sym mine)
        ∙ sym (map-append (counted (all ++ a ∷ [])) (keys all) (d ∷ []))
        ∙ ap (map (counted (all ++ a ∷ [])))
        (sym (keys_more all a ∙ added_new d (keys all) e))

    -- ---- the keys of a table

    module _ (of : C → K) (is : (d : K) (rs : List R) → of (count d rs) ≡ d) where
      told : (all : List R) (ds : List K) → map of (map (counted all) ds) ≡ ds
      told all [] = refl
      told all (d ∷ ds) =
          ap (λ (x : K). x ∷ map of (map (counted all) ds)) (is d (own d all))
          ∙ ap (λ (t : List K). d ∷ t) (told all ds)

      pub table_keys : (all : List R) (counts : List C) → counts ≡ table all
          → map of counts ≡ keys all
      table_keys all counts e = ap (map of) e ∙ told all (keys all)

  -- a count that keeps its key leaves the keys
  pub same_keys : {C : Type 0} (of : C → K) (cs : List C) (i : ℕ) (old next : C)
      → i < length cs → old ≡ get_or cs i old → of next ≡ of old
      → map of (slice_set cs i next) ≡ map of cs
  same_keys of [] i old next lt at e = refl
  same_keys of (c ∷ cs) zero old next lt at e =
      ap (λ (d : K). d ∷ map of cs) (e ∙ ap of at)
  same_keys of (c ∷ cs) (suc i) old next lt at e =
      ap (λ (ds : List K). of c ∷ ds) (same_keys of cs i old next (omega (arith, lt)) at e)

-- ---- in the words of a table's calls

module _ {K R C : Type 0} (same : K → K → Bool) (are : Parts same) (key : R → K)
    (count : K → List R → C) (of : C → K) where
  abbrev Going : C → C → R → Type 0
  Going old next a = GoesOn same are key count old next a

  abbrev all_of : List R → List C
  all_of all = counted_by same key count all

  pub note_there : ((d : K) (rs : List R) → of (count d rs) ≡ d) → (all : List R) (a : R)
      (counts : List C) (i : ℕ) (old next : C) (k : K) → counts ≡ all_of all → k ≡ key a
      → first_index same k (map of counts) ≡ Some i → old ≡ get_or counts i old
      → ((d : K) (rs : List R) → old ≡ count d rs → next ≡ count d (rs ++ a ∷ []))
      → slice_set counts i next ≡ all_of (all ++ a ∷ [])
  note_there is all a counts i old next k e k_is found at on =
      ap (λ (x : List C). slice_set x i next) e
      ∙ noted_there same are key count all a i old next
      (ap (λ (x : K). first_index same x (different same (map key all))) (sym k_is)
      ∙ ap (first_index same k) (sym (table_keys same are key count of is all counts e)) ∙ found)
      (at ∙ ap (λ (x : List C). get_or x i old) e) on

  pub note_new : ((d : K) (rs : List R) → of (count d rs) ≡ d) → (all : List R) (a : R)
      (counts new : List C) (k : K) → counts ≡ all_of all → k ≡ key a
      → first_index same k (map of counts) ≡ None → new ≡ counts ++ count (key a) (a ∷ []) ∷ []
      → new ≡ all_of (all ++ a ∷ [])
  note_new is all a counts new k e k_is none n =
      n ∙ ap (λ (x : List C). x ++ count (key a) (a ∷ []) ∷ []) e
      ∙ noted_new same are key count all a
      (ap (λ (x : K). first_index same x (different same (map key all))) (sym k_is)
      ∙ ap (first_index same k) (sym (table_keys same are key count of is all counts e)) ∙ none)

module _ {K C : Type 0} (cmp : K → K → Ordering) (exact : CmpEqualImpliesEq cmp)
    (same : K → K → Bool) (keys : AreKeys same) (of : C → K) where
  -- the index of a table where a count goes on
  pub index_kept : (places : BTreeMap K ℕ) (cs : List C) (i : ℕ) (old next : C)
      → IsIndexOf cmp same places (map of cs) → i < length cs → old ≡ get_or cs i old
      → of next ≡ of old → IsIndexOf cmp same places (map of (slice_set cs i next))
  index_kept places cs i old next index lt at e =
      subst (IsIndexOf cmp same places) (sym (same_keys same (parts_of same keys) of cs i old next lt at e)) index

  -- the index of a table with one count more
  pub index_grown : (old new : BTreeMap K ℕ) (cs grown : List C) (c : C) (k : K) (n : ℕ)
      → IsIndexOf cmp same old (map of cs) → k ≡ of c → first_index same k (map of cs) ≡ None
      → n ≡ length cs → grown ≡ cs ++ c ∷ [] → Updates cmp old new k (Some n)
      → IsIndexOf cmp same new (map of grown)
  index_grown old new cs grown c k n index k_is none n_is g updates =
      let len : n ≡ length (map of cs) = n_is ∙ sym (length-map cs of) in
      let u : Updates cmp old new k (Some (length (map of cs))) =
      subst (λ (x : ℕ). Updates cmp old new k (Some x)) len updates in
      subst (IsIndexOf cmp same new)
      (sym
      (ap (map of) g ∙ map-append of cs (c ∷ [])
      ∙ ap (λ (x : K). map of cs ++ x ∷ []) (sym k_is)))
      (index_new same (parts_of same keys) keys cmp exact old new (map of cs) k index none u)

pub grown : {C : Type 0} (new counts old : List C) (c d : C) → new ≡ counts ++ c ∷ []
    → counts ≡ old → c ≡ d → new ≡ old ++ d ∷ []
grown {C = C} new counts old c d n e f =
    n ∙ ap (λ (x : List C). x ++ c ∷ []) e ∙ ap (λ (x : C). old ++ x ∷ []) f
