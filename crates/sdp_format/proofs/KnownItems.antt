-- Items of known names: what they say, and how a map and a set of names hold them.
use Rattle.std.proofs.Common.{◌≡◌, ℕ, List, [], ◌∷◌, ◌++◌, Bool, true, false, cond, not, ◌||◌}
use Rattle.std.proofs.Common.{Option, Some, None, refl, ap, ◌∙◌, sym, map, if◌then◌else◌, codes}
use Rattle.std.proofs.Common.{Result, Ok, Err, inr}
use Rattle.std.specs.List.{list_any}
use Rattle.std.specs.Str.{bytes_eq}
use Rattle.std.specs.Prelude.{is_some}
use Rattle.std.specs.Option.{option_map}
use Rattle.std.specs.Map.{lookup}
use Rattle.std.specs.BTreeSet.{BTreeSet, contains, Updates}
use Rattle.std.proofs.lemmas.List.{map-append, append-nil}
use Rattle.std.proofs.lemmas.Map.Text.{is_eq-slice_cmp}
use Rattle.indexmap.specs.IndexMap.{IndexMap, get, insert_entry}
use Rattle.indexmap.proofs.CallerLemmas.{insert_entry-new}
use Rattle.sdp_format.specs.Naming.{Item, value_of, has_name, is_known, known_items, known_names}
use Rattle.sdp_format.specs.Naming.{has_double}
use Rattle.sdp_format.specs.Reading.{said_in, format_of, leg_of, fault_where, result_map}
use Rattle.sdp_format.specs.Reading.{GivesUnlessMemory}
use Rattle.sdp_format.specs.ReadLeg.{leg_seen}
use Rattle.sdp_format.specs.declared.sdp.Leg.{Leg as Read}
use Rattle.sdp_format.specs.declared.fault.SdpFault.{SdpFault}
use Rattle.sdp_format.specs.declared.fault.SdpFault.TheVariants.{DoubleParameter}
use Rattle.st_format.specs.Reading.{◌>>=◌}
use Rattle.sdp_format.specs.Views.{Slice, slice_order, item_of, items_in, pair_of, is_met}
use Rattle.sdp_format.specs.declared.items.Parameter.{Parameter}
use Rattle.sdp_format.proofs.Doubles.{bytes_same, known_push, or_cond, flipped}

abbrev pub same_name : Slice → Slice → Bool
same_name x y = bytes_eq x.now y.now

-- names of which one is known and the other not are two
unlike_by : (a b : List ℕ) (t : Bool) → bytes_eq a b ≡ t → is_known a ≡ true → is_known b ≡ false
    → t ≡ false
unlike_by a b true e known other =
    sym (sym other ∙ ap is_known (sym (bytes_same a b e)) ∙ known)
unlike_by a b false e known other = refl

pub unlike : (a b : List ℕ) → is_known a ≡ true → is_known b ≡ false → bytes_eq a b ≡ false
unlike a b known other = unlike_by a b (bytes_eq a b) refl known other

-- what items say under a known name, those of known names alone say
known_value_by : (name : List ℕ) (i : Item) (is : List Item) (t : Bool) → is_known i.0 ≡ t
    → is_known name ≡ true → value_of name (known_items is) ≡ value_of name is
    → value_of name (if t then i ∷ known_items is else known_items is) ≡ value_of name (i ∷ is)
known_value_by name i is true e known h =
    ap (λ r. cond (bytes_eq name i.0) (Some i.1) r) h
known_value_by name i is false e known h = rw (unlike name i.0 known e) h

pub known_value : (name : List ℕ) → is_known name ≡ true → (is : List Item)
    → value_of name (known_items is) ≡ value_of name is
known_value name known [] = refl
known_value name known (i ∷ is) =
    known_value_by name i is (is_known i.0) refl known (known_value name known is)

of_list : (name : List ℕ) → list_any (bytes_eq name) known_names ≡ true → is_known name ≡ true
unfolding is_known
of_list name e = e

listed_value : (name : List ℕ) → list_any (bytes_eq name) known_names ≡ true → (is : List Item)
    → value_of name (known_items is) ≡ value_of name is
listed_value name e is = known_value name (of_list name e) is

-- so they say the same of the video
pub known_said : (payload_type : ℕ) (is : List Item)
    → said_in payload_type (known_items is) ≡ said_in payload_type is
unfolding said_in format_of
known_said payload_type is =
    rw (
      listed_value (codes "sampling") refl is,
      listed_value (codes "width") refl is,
      listed_value (codes "height") refl is,
      listed_value (codes "exactframerate") refl is,
      listed_value (codes "depth") refl is,
      listed_value (codes "colorimetry") refl is,
      listed_value (codes "PM") refl is,
      listed_value (codes "SSN") refl is,
      listed_value (codes "RANGE") refl is,
      listed_value (codes "interlace") refl is,
      listed_value (codes "segmented") refl is,
    ) refl

leg_by : (payload_type : ℕ) (is : List Item) (r : Result Read SdpFault)
    → result_map leg_seen r ≡ said_in payload_type is
    → GivesUnlessMemory leg_seen r (said_in payload_type is)
leg_by payload_type is (Ok leg) e = sym e
leg_by payload_type is (Err fault) e = inr (sym e)

the_ok : (x y : List Item) (r : Result (List Item) SdpFault) → r ≡ Ok x → r ≡ Ok y → x ≡ y
the_ok x y r a b = cc

leg_once : (payload_type : ℕ) (is held : List Item) (t : Bool) (r : Result Read SdpFault)
    → (if t then Err DoubleParameter else Ok (known_items is)) ≡ Ok held
    → result_map leg_seen r ≡ said_in payload_type held
    → GivesUnlessMemory leg_seen r (do
      tt ← fault_where DoubleParameter t
      said_in payload_type is)
leg_once payload_type is held true r e said = cc
leg_once payload_type is held false r e said =
    let same : known_items is ≡ held =
    the_ok (known_items is) held (Ok (known_items is)) refl e in
    leg_by payload_type is r
    (said ∙ ap (said_in payload_type) (sym same) ∙ known_said payload_type is)

-- what items of different names say
pub leg_from : (payload_type : ℕ) (is held : List Item) (r : Result Read SdpFault)
    → (if has_double is then Err DoubleParameter else Ok (known_items is)) ≡ Ok held
    → result_map leg_seen r ≡ said_in payload_type held
    → GivesUnlessMemory leg_seen r (leg_of payload_type is)
unfolding leg_of
leg_from payload_type is held r e said =
    leg_once payload_type is held (has_double is) r e said

-- a look-up in the map is one in the items that it holds
lookup_pairs_by : (e : Slice × Slice) (t : Bool) (r : Option (List ℕ)) (s : Option Slice)
    → r ≡ option_map (λ v. v.now) s
    → cond t (Some e.1.now) r ≡ option_map (λ v. v.now) (cond t (Some e.1) s)
lookup_pairs_by e true r s h = refl
lookup_pairs_by e false r s h = h

pub lookup_pairs : (name : List ℕ) (es : List (Slice × Slice))
    → value_of name (map pair_of es)
    ≡ option_map (λ v. v.now) (lookup (λ k. bytes_eq name k.now) es)
lookup_pairs name [] = refl
lookup_pairs name (e ∷ es) =
    lookup_pairs_by e (bytes_eq name e.0.now) (value_of name (map pair_of es))
    (lookup (λ k. bytes_eq name k.now) es) (lookup_pairs name es)

some_same : (r : Option Slice) → is_some r ≡ is_some (option_map (λ v. v.now) r)
some_same None = refl
some_same (Some x) = refl

turned_not : (a b : Bool) → a ≡ not b → b ≡ not a
turned_not a true e = rw e refl
turned_not a false e = rw e refl

none_from : (r : Option Slice) → is_some (option_map (λ v. v.now) r) ≡ false → r ≡ None
none_from None e = refl
none_from (Some x) e = cc

module _ {S : Type 0} (known new : IndexMap Slice Slice S) (others more : BTreeSet Slice)
    (p : Parameter) where
  is_met_known : is_known p.name.now ≡ true → is_met known others p.name
      ≡ is_some (option_map (λ v. v.now) (get same_name known p.name))
  is_met_known e = rw e (ap is_some (lookup_pairs p.name.now known.entries))

  is_met_other : is_known p.name.now ≡ false
      → is_met known others p.name ≡ contains slice_order others p.name
  is_met_other e = rw e refl

  -- an item of a known name goes into the map
  pub known_new : is_known p.name.now ≡ true → (old : Option Slice) (is_new : Bool)
      → old ≡ get same_name known p.name → is_some old ≡ not is_new
      → is_new ≡ not (is_met known others p.name)
  known_new e old is_new o s = turned_not (is_met known others p.name) is_new
      (is_met_known e ∙ sym (some_same (get same_name known p.name)) ∙ ap is_some (sym o) ∙ s)

  pub known_kept : is_known p.name.now ≡ true
      → new.entries ≡ insert_entry same_name known.entries p.name p.value
      → is_met known others p.name ≡ false
      → items_in new ≡ items_in known ++ known_items (item_of p ∷ [])
  known_kept e put absent =
      let none : get same_name known p.name ≡ None =
      none_from (get same_name known p.name) (sym (is_met_known e) ∙ absent) in
      let last : known_items (item_of p ∷ []) ≡ item_of p ∷ [] = rw e refl in
      ap (map pair_of) (put ∙ insert_entry-new same_name known p.name p.value none)
      ∙ map-append pair_of known.entries ((p.name, p.value) ∷ [])
      ∙ ap (λ xs. items_in known ++ xs) (sym last)

  known_met_by : is_known p.name.now ≡ true → items_in new ≡ items_in known ++ item_of p ∷ []
      → (q : Slice) (t : Bool) → is_known q.now ≡ t
      → (if t then has_name (items_in new) q.now else contains slice_order others q)
      ≡ (bytes_eq p.name.now q.now
      || (if t then has_name (items_in known) q.now else contains slice_order others q))
  known_met_by e put q true k =
      ap (λ is. has_name is q.now) put ∙ known_push (items_in known) (item_of p) q.now
      ∙ or_cond (bytes_eq p.name.now q.now) (has_name (items_in known) q.now)
  known_met_by e put q false k = rw (unlike p.name.now q.now e k) refl

  pub known_met : is_known p.name.now ≡ true
      → new.entries ≡ insert_entry same_name known.entries p.name p.value
      → is_met known others p.name ≡ false
      → (q : Slice) → is_met new others q ≡ (bytes_eq p.name.now q.now || is_met known others q)
  known_met e put absent q =
      let last : known_items (item_of p ∷ []) ≡ item_of p ∷ [] = rw e refl in
      known_met_by e (known_kept e put absent ∙ ap (λ xs. items_in known ++ xs) last) q
      (is_known q.now) refl

  -- the name of another goes into the set
  pub other_new : is_known p.name.now ≡ false → (added : Bool)
      → added ≡ not (contains slice_order others p.name) → added ≡ not (is_met known others p.name)
  other_new e added a = a ∙ ap not (sym (is_met_other e))

  pub other_kept : is_known p.name.now ≡ false
      → items_in known ≡ items_in known ++ known_items (item_of p ∷ [])
  other_kept e =
      let none : known_items (item_of p ∷ []) ≡ [] = rw e refl in
      sym (append-nil (items_in known)) ∙ ap (λ xs. items_in known ++ xs) (sym none)

  other_met_by : is_known p.name.now ≡ false → Updates slice_order others more p.name true
      → (q : Slice) (t : Bool) → is_known q.now ≡ t
      → (if t then has_name (items_in known) q.now else contains slice_order more q)
      ≡ (bytes_eq p.name.now q.now
      || (if t then has_name (items_in known) q.now else contains slice_order others q))
  other_met_by e put q true k = rw (flipped p.name.now q.now, unlike q.now p.name.now k e) refl
  other_met_by e put q false k =
      put.0 q ∙ ap (λ t. cond t true (contains slice_order others q))
      (is_eq-slice_cmp p.name.now q.now)
      ∙ or_cond (bytes_eq p.name.now q.now) (contains slice_order others q)

  pub other_met : is_known p.name.now ≡ false → Updates slice_order others more p.name true
      → (q : Slice) → is_met known more q ≡ (bytes_eq p.name.now q.now || is_met known others q)
  other_met e put q = other_met_by e put q (is_known q.now) refl
