-- Items met one after another: those of known names in a map, the names of the others in a set.
use Rattle.std.proofs.Common.{◌≡◌, ℕ, List, [], ◌∷◌, ◌++◌, Bool, true, false, cond, ◌||◌, Option}
use Rattle.std.proofs.Common.{Some, None, refl, ap, ◌∙◌, sym, if◌then◌else◌}
use Rattle.std.proofs.Common.{Result, Ok, Err, ◌⊎◌, inl, inr}
use Rattle.std.specs.List.{list_any}
use Rattle.std.specs.Str.{bytes_eq}
use Rattle.std.specs.Prelude.{is_some}
use Rattle.std.specs.BTreeSet.{BTreeSet}
use Rattle.std.proofs.lemmas.List.Elements.{filter-append}
use Rattle.std.proofs.lemmas.Slice.Eq.{bytes_eq-Decides}
use Rattle.indexmap.specs.IndexMap.{IndexMap}
use mathlib.Core.List.{append_assoc}
use Rattle.sdp_format.specs.Naming.{Item, has_double, value_of, is_known, known_items}
use Rattle.sdp_format.specs.Views.{Slice, item_of, items_in, is_met}
use Rattle.sdp_format.specs.Reading.{GivesUnlessMemory}
use Rattle.sdp_format.specs.declared.items.Parameter.{Parameter}
use Rattle.sdp_format.specs.declared.fault.SdpFault.{SdpFault}
use Rattle.sdp_format.specs.declared.fault.SdpFault.TheVariants.{NoMemory, DoubleParameter}

pub bytes_same : (xs ys : List ℕ) → bytes_eq xs ys ≡ true → xs ≡ ys
bytes_same xs ys e = (bytes_eq-Decides xs ys).0 e

pub same_bytes : (xs ys : List ℕ) → xs ≡ ys → bytes_eq xs ys ≡ true
same_bytes xs ys e = (bytes_eq-Decides xs ys).1 e

flipped_by : (a b : List ℕ) (s t : Bool) → bytes_eq a b ≡ s → bytes_eq b a ≡ t → s ≡ t
flipped_by a b true true e f = refl
flipped_by a b false false e f = refl
flipped_by a b true false e f =
    let h : bytes_eq b a ≡ true = same_bytes b a (sym (bytes_same a b e)) in sym h ∙ f
flipped_by a b false true e f =
    let h : bytes_eq a b ≡ true = same_bytes a b (sym (bytes_same b a f)) in sym e ∙ h

pub flipped : (a b : List ℕ) → bytes_eq a b ≡ bytes_eq b a
flipped a b = flipped_by a b (bytes_eq a b) (bytes_eq b a) refl refl

pub any_here : (p : Item → Bool) (xs ys : List Item) (y : Item) → p y ≡ true
    → list_any p (xs ++ y ∷ ys) ≡ true
any_here p [] ys y e = rw e refl
any_here p (x ∷ xs) ys y e =
    rw (any_here p xs ys y e)
    (elim (p x) as (λ t. (t || true) ≡ true) [ true ↦ refl | false ↦ refl ])

pub or_false : (a b : Bool) → (a || b) ≡ false → (a ≡ false) × (b ≡ false)
or_false true b e = (cc, cc)
or_false false b e = (refl, e)

pub or_true : (a : Bool) → (a || true) ≡ true
or_true true = refl
or_true false = refl

pub cond_none : (t : Bool) (x : List ℕ) (r : Option (List ℕ)) → cond t (Some x) r ≡ None
    → (t ≡ false) × (r ≡ None)
cond_none true x r e = (cc, cc)
cond_none false x r e = (refl, e)

any_push : (p : Item → Bool) (xs : List Item) (y : Item) → list_any p xs ≡ false → p y ≡ false
    → list_any p (xs ++ y ∷ []) ≡ false
any_push p [] y a e = rw e refl
any_push p (x ∷ xs) y a e = let h : (p x ≡ false) × (list_any p xs ≡ false) =
    or_false (p x) (list_any p xs) a in rw (h.0, any_push p xs y h.1 e) refl

pub double_push : (xs : List Item) (y : Item) → has_double xs ≡ false → value_of y.0 xs ≡ None
    → has_double (xs ++ y ∷ []) ≡ false
double_push [] y single new = refl
double_push (x ∷ xs) y single new =
    let h : (list_any (λ j. bytes_eq j.0 x.0) xs ≡ false) × (has_double xs ≡ false) =
    or_false (list_any (λ j. bytes_eq j.0 x.0) xs) (has_double xs) single in
    let n : (bytes_eq y.0 x.0 ≡ false) × (value_of y.0 xs ≡ None) =
    cond_none (bytes_eq y.0 x.0) x.1 (value_of y.0 xs) new in
    rw (any_push (λ j. bytes_eq j.0 x.0) xs y h.0 n.0, double_push xs y h.1 n.1) refl

met_by : (x : Item) (xs ys : List Item) (y : Item) (v : List ℕ) (t : Bool) → bytes_eq y.0 x.0 ≡ t
    → cond t (Some x.1) (value_of y.0 xs) ≡ Some v
    → (value_of y.0 xs ≡ Some v → has_double (xs ++ y ∷ ys) ≡ true)
    → has_double (x ∷ xs ++ y ∷ ys) ≡ true
met_by x xs ys y v true e o h = rw (any_here (λ j. bytes_eq j.0 x.0) xs ys y e) refl
met_by x xs ys y v false e o h =
    rw (h o) (or_true (list_any (λ j. bytes_eq j.0 x.0) (xs ++ y ∷ ys)))

pub double_met : (xs ys : List Item) (y : Item) (v : List ℕ) → value_of y.0 xs ≡ Some v
    → has_double (xs ++ y ∷ ys) ≡ true
double_met [] ys y v old = cc
double_met (x ∷ xs) ys y v old =
    met_by x xs ys y v (bytes_eq y.0 x.0) refl old (double_met xs ys y v)

known_by : (s t : Bool) (v : List ℕ) (whole part : Option (List ℕ))
    → is_some whole ≡ cond s true (is_some part)
    → is_some (cond t (Some v) whole) ≡ cond s true (is_some (cond t (Some v) part))
known_by true true v whole part h = refl
known_by false true v whole part h = refl
known_by s false v whole part h = h

-- a name is known behind one more item where it is the item's, or was known
pub known_push : (xs : List Item) (y : Item) (name : List ℕ)
    → is_some (value_of name (xs ++ y ∷ []))
    ≡ cond (bytes_eq y.0 name) true (is_some (value_of name xs))
known_push [] y name =
    rw (flipped y.0 name)
    (elim (bytes_eq name y.0) as (λ t. is_some (cond t (Some y.1) None) ≡ cond t true false)
    [ true ↦ refl | false ↦ refl ])
known_push (x ∷ xs) y name =
    known_by (bytes_eq y.0 name) (bytes_eq name x.0) x.1
    (value_of name (xs ++ y ∷ [])) (value_of name xs) (known_push xs y name)

none_from : (r : Option (List ℕ)) → is_some r ≡ false → r ≡ None
none_from None e = refl
none_from (Some x) e = cc

some_from : (r : Option (List ℕ)) → is_some r ≡ true → (x : List ℕ) × (r ≡ Some x)
some_from None e = cc
some_from (Some x) e = (x, refl)

pub or_cond : (a b : Bool) → cond a true b ≡ (a || b)
or_cond true b = refl
or_cond false b = refl

-- What the loop over the items keeps
pub record Kept {S : Type 0} (known : IndexMap Slice Slice S) (others : BTreeSet Slice)
    (left all : List Item) : Type 0 where
  pub done : List Item
  pub whole : done ++ left ≡ all
  pub single : has_double done ≡ false
  pub held : items_in known ≡ known_items done
  pub met : (q : Slice) → is_met known others q ≡ is_some (value_of q.now done)

pub put_kept : {S : Type 0} (known new : IndexMap Slice Slice S) (others more : BTreeSet Slice)
    (left rest all : List Item) (p : Parameter)
    → Kept known others left all → left ≡ item_of p ∷ rest
    → is_met known others p.name ≡ false
    → items_in new ≡ items_in known ++ known_items (item_of p ∷ [])
    → ((q : Slice) → is_met new more q ≡ (bytes_eq p.name.now q.now || is_met known others q))
    → Kept new more rest all
put_kept known new others more left rest all p kept e absent put met = record {
  done = kept.done ++ item_of p ∷ [];
  whole = rw append_assoc (ap (λ xs. kept.done ++ xs) (sym e) ∙ kept.whole);
  single = double_push kept.done (item_of p) kept.single
      (none_from (value_of p.name.now kept.done) (sym (kept.met p.name) ∙ absent));
  held = put ∙ ap (λ xs. xs ++ known_items (item_of p ∷ [])) kept.held
      ∙ sym (filter-append (λ i. is_known i.0) kept.done (item_of p ∷ []));
  met = λ q. met q ∙ ap (λ t. bytes_eq p.name.now q.now || t) (kept.met q)
      ∙ sym (or_cond (bytes_eq p.name.now q.now) (is_some (value_of q.now kept.done)))
      ∙ sym (known_push kept.done (item_of p) q.now);
}

pub met_double : {S : Type 0} (known : IndexMap Slice Slice S) (others : BTreeSet Slice)
    (left rest all : List Item) (p : Parameter)
    → Kept known others left all → left ≡ item_of p ∷ rest
    → is_met known others p.name ≡ true → has_double all ≡ true
met_double known others left rest all p kept e is_there =
    let there : (x : List ℕ) × (value_of p.name.now kept.done ≡ Some x) =
    some_from (value_of p.name.now kept.done) (sym (kept.met p.name) ∙ is_there) in
    ap has_double (sym (ap (λ xs. kept.done ++ xs) (sym e) ∙ kept.whole))
    ∙ double_met kept.done rest (item_of p) there.0 there.1

the_err : {X : Type 0} (f e : SdpFault) (r : Result X SdpFault) → r ≡ Err f → r ≡ Err e → f ≡ e
the_err f e r a b = cc

-- and an item that was not put tells that two of all have one name
pub told_double : {S : Type 0} (known : IndexMap Slice Slice S) (others : BTreeSet Slice)
    (left rest all : List Item) (p : Parameter) (r : Result (IndexMap Slice Slice S) SdpFault)
    (e : SdpFault)
    → Kept known others left all → left ≡ item_of p ∷ rest
    → (e ≡ NoMemory) ⊎ ((e ≡ DoubleParameter) × (is_met known others p.name ≡ true))
    → r ≡ Err e
    → GivesUnlessMemory items_in r
    (if has_double all then Err DoubleParameter else Ok (known_items all))
told_double known others left rest all p (Ok x) e kept put double is_err = cc
told_double known others left rest all p (Err f) e kept put (inl m) is_err =
    inl (the_err f e (Err f) refl is_err ∙ m)
told_double known others left rest all p (Err f) e kept put (inr d) is_err =
    inr (rw (met_double known others left rest all p kept put d.1)
    (ap Err (sym d.0 ∙ sym (the_err f e (Err f) refl is_err))))
