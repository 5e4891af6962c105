-- Items by their names: what looking up finds, and what items say.
use Rattle.std.proofs.Common.{◌≡◌, ℕ, Bool, true, false, cond, List, [], ◌∷◌, ◌++◌, Option, Some}
use Rattle.std.proofs.Common.{None, refl, ap, subst, ◌∙◌, sym, arith, inl, inr}
use Rattle.std.specs.Prelude.{is_some}
use Rattle.std.specs.List.{list_any}
use Rattle.std.specs.Str.{bytes_eq}
use Rattle.sdp_format.specs.Bytes.{text_or}
use Rattle.sdp_format.specs.Naming.{Item, value_of, text_of, has_name, has_double}
use Rattle.sdp_format.specs.Grammar.{Says, Has, Lacks, HasDouble}
use Rattle.sdp_format.proofs.Members.{member_later, member_cases, no_member, not_both, or_cases}
use Rattle.sdp_format.proofs.Members.{or_right, any_member, member_any, member_split}
use Rattle.sdp_format.proofs.Doubles.{bytes_same, same_bytes, any_here, or_false, cond_none}

pub false_from : (a : Bool) → (a ≡ true → ⊥) → a ≡ false
false_from true h = absurd (h refl)
false_from false h = refl

pub not_none : {A : Type 0} (x : A) → Some x ≡ None → ⊥
not_none x e = cc

found_by : (name value : List ℕ) (i : Item) (is : List Item) (t : Bool) → bytes_eq name i.0 ≡ t
    → cond t (Some i.1) (value_of name is) ≡ Some value
    → (value_of name is ≡ Some value → Says is name value) → Says (i ∷ is) name value
found_by name value i is true h e rest =
    let named : name ≡ i.0 = bytes_same name i.0 h in
    let valued : i.1 ≡ value = cc in
    let whole : i ≡ (name, value) =
    ap (λ (n : List ℕ). (n, i.1)) (sym named) ∙ ap (λ (v : List ℕ). (name, v)) valued in
    (0, omega arith, whole)
found_by name value i is false h e rest = member_later (name, value) i is (rest e)

-- what is found is said
pub found_says : (name value : List ℕ) (is : List Item) → value_of name is ≡ Some value
    → Says is name value
found_says name value [] e = absurd (not_none value (sym e))
found_says name value (i ∷ is) e =
    found_by name value i is (bytes_eq name i.0) refl e (found_says name value is)

later_by : (name value : List ℕ) (i : Item) (is : List Item) (t : Bool) → bytes_eq name i.0 ≡ t
    → list_any (λ j. bytes_eq j.0 i.0) is ≡ false
    → Says is name value → value_of name is ≡ Some value
    → cond t (Some i.1) (value_of name is) ≡ Some value
later_by name value i is true h single m e =
    absurd (not_both _ (member_any (λ j. bytes_eq j.0 i.0) is (name, value) m h) single)
later_by name value i is false h single m e = e

-- what is said under a name that no two items have is found
pub says_found : (name value : List ℕ) (is : List Item) → has_double is ≡ false
    → Says is name value → value_of name is ≡ Some value
says_found name value [] single m = absurd (no_member _ m)
says_found name value (i ∷ is) single m =
    let h : (list_any (λ j. bytes_eq j.0 i.0) is ≡ false) × (has_double is ≡ false) =
    or_false (list_any (λ j. bytes_eq j.0 i.0) is) (has_double is) single in
    elim (member_cases (name, value) i is m) [
      | inl e ↦ let P : Item → Type 0 = λ j. value_of name (j ∷ is) ≡ Some value in
          subst P (sym e)
          (ap (λ t. cond t (Some value) (value_of name is)) (same_bytes name name refl))
      | inr n ↦ later_by name value i is (bytes_eq name i.0) refl h.0 n
          (says_found name value is h.1 n)
    ]

pub says_some : (name value : List ℕ) (is : List Item) → Says is name value
    → value_of name is ≡ None → ⊥
says_some name value [] m e = no_member _ m
says_some name value (i ∷ is) m e =
    let h : (bytes_eq name i.0 ≡ false) × (value_of name is ≡ None) =
    cond_none (bytes_eq name i.0) i.1 (value_of name is) e in
    elim (member_cases (name, value) i is m) [
      | inl here ↦ not_both (bytes_eq name i.0)
          (same_bytes name i.0 (sym (ap (λ (j : Item). j.0) here))) h.0
      | inr n ↦ says_some name value is n h.1
    ]

pub some_text : (o : Option (List ℕ)) → is_some o ≡ true → o ≡ Some (text_or o)
some_text None e = absurd (not_both false e refl)
some_text (Some x) e = refl

none_by : (name : List ℕ) (is : List Item) (o : Option (List ℕ)) → value_of name is ≡ o
    → Lacks is name → o ≡ None
none_by name is None e l = refl
none_by name is (Some v) e l = absurd (l v (found_says name v is e))

pub lacks_none : (name : List ℕ) (is : List Item) → Lacks is name → value_of name is ≡ None
lacks_none name is l = none_by name is (value_of name is) refl l

pub none_lacks : (name : List ℕ) (is : List Item) → value_of name is ≡ None → Lacks is name
none_lacks name is e = λ v m. says_some name v is m e

pub has_says : (name : List ℕ) (is : List Item) → has_name is name ≡ true → Has is name
has_says name is e =
    (text_of name is, found_says name (text_of name is) is (some_text (value_of name is) e))

some_by : (o : Option (List ℕ)) → (o ≡ None → ⊥) → is_some o ≡ true
some_by None h = absurd (h refl)
some_by (Some x) h = refl

pub says_has : (name : List ℕ) (is : List Item) → Has is name → has_name is name ≡ true
says_has name is h = some_by (value_of name is) (says_some name h.0 is h.1)

pub lacks_has : (name : List ℕ) (is : List Item) → has_name is name ≡ false → Lacks is name
lacks_has name is e = λ v m. not_both (has_name is name) (says_has name is (v, m)) e

-- the one value of a name
pub text_known : (name value : List ℕ) (is : List Item) → has_double is ≡ false
    → Says is name value → text_of name is ≡ value
text_known name value is single m = ap text_or (says_found name value is single m)

-- two items with one name
pub double_says : (is : List Item) → has_double is ≡ true → HasDouble is
double_says [] e = absurd (not_both false e refl)
double_says (i ∷ is) e =
    elim (or_cases (list_any (λ j. bytes_eq j.0 i.0) is) (has_double is) e) [
      | inl h ↦
          let r = any_member (λ (j : Item). bytes_eq j.0 i.0) is h in
          let q = member_split is r.0 r.1 in
          record {
            before = [];
            first = i;
            between = q.0;
            second = r.0;
            after = q.1.0;
            whole =
                ap (λ zs. i ∷ zs) q.1.1;
            same = bytes_same r.0.0 i.0 r.2;
          }
      | inr h ↦
          let d = double_says is h in
          record {
            before = i ∷ d.before;
            first = d.first;
            between = d.between;
            second =
                d.second;
            after = d.after;
            whole = ap (λ zs. i ∷ zs) d.whole;
            same = d.same;
          }
    ]

double_at : (before between after : List Item) (first second : Item) → second.0 ≡ first.0
    → has_double (before ++ first ∷ (between ++ second ∷ after)) ≡ true
double_at [] between after first second e =
    rw (any_here (λ j. bytes_eq j.0 first.0) between after second
    (same_bytes second.0 first.0 e)) refl
double_at (i ∷ before) between after first second e =
    or_right (list_any (λ j. bytes_eq j.0 i.0) (before ++ first ∷ (between ++ second ∷ after)))
    (has_double (before ++ first ∷ (between ++ second ∷ after)))
    (double_at before between after first second e)

pub says_double : (is : List Item) → HasDouble is → has_double is ≡ true
says_double is d =
    ap has_double d.whole ∙ double_at d.before d.between d.after d.first d.second d.same
