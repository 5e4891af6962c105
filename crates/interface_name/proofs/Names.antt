-- A text spells one name at most, and what is written of a name is its text.
use Rattle.std.proofs.Common.{◌≡◌, ℕ, ◌≤◌, ◌-◌, zero, suc, Bool, true, false, cond, ◌&&◌, List}
use Rattle.std.proofs.Common.{[], ◌∷◌, ◌++◌, length, Option, Some, None, refl, sym, ap, ◌∙◌, subst}
use Rattle.std.proofs.Common.{append-nil, arith, drop}
use Rattle.std.specs.Prelude.{◌↔◌, nat_le, replicate}
use Rattle.std.specs.List.{flat_map, list_all}
use Rattle.std.proofs.lemmas.Bool.Decides.{nat_tests}
use Rattle.std.proofs.lemmas.List.{drop-replicate}
use Rattle.std.proofs.lemmas.List.Concat.{flat_map-append}
use Rattle.interface_name.specs.declared.name.InterfaceName.{InterfaceName}
use Rattle.interface_name.specs.Name.{IsInterfaceName, IsName, filled, is_name, is_name_octet}
use Rattle.interface_name.specs.Name.{name_of, name_text, shown}

and_true : (a b : Bool) → a ≡ true → b ≡ true → (a && b) ≡ true
and_true a b e f = rw (e, f) refl

and_parts : (a b : Bool) → (a && b) ≡ true → (a ≡ true) × (b ≡ true)
and_parts true b e = (refl, e)
and_parts false b e = (cc, cc)

le_true : (m n : ℕ) → m ≤ n → nat_le m n ≡ true
le_true m n h = grind (arith, nat_tests)

le_from : (m n : ℕ) → nat_le m n ≡ true → m ≤ n
le_from m n h = grind (arith, nat_tests)

-- ---- what is read

abbrev pub made : List ℕ → InterfaceName
made text = record { octets = filled text }

passes : (text : List ℕ) (n : InterfaceName) → IsName text n → is_name text ≡ true
passes text n is =
    and_true (nat_le 1 (length text) && nat_le (length text) 64) (list_all is_name_octet text)
    (and_true (nat_le 1 (length text)) (nat_le (length text) 64)
    (le_true 1 (length text) is.some) (le_true (length text) 64 is.few)) is.printed

passed : (text : List ℕ) → is_name text ≡ true → IsName text (made text)
passed text e =
    let a =
    and_parts (nat_le 1 (length text) && nat_le (length text) 64) (list_all is_name_octet text) e in
    let b = and_parts (nat_le 1 (length text)) (nat_le (length text) 64) a.0 in
    record {
      some = le_from 1 (length text) b.0;
      few = le_from (length text) 64 b.1;
      printed = a.1;
      kept = refl;
    }

pub name_once : (text : List ℕ) (m n : InterfaceName) → IsName text m → IsName text n → m ≡ n
name_once text m n h k =
    let same : m.octets ≡ n.octets = h.kept ∙ sym k.kept in λ i. record { octets = same i }

same_name : (m n : InterfaceName) → Some m ≡ Some n → m ≡ n
same_name m n e = cc

no_name : {A : Type 0} (n : InterfaceName) → None ≡ Some n → A
no_name n e = absurd cc

abbrev chosen : Bool → InterfaceName → Option InterfaceName
chosen b n = cond b (Some n) None

named_by : (text : List ℕ) (n : InterfaceName) (b : Bool) → is_name text ≡ b
    → chosen b (made text) ≡ Some n → IsName text n
named_by text n true is e = subst (IsName text) (same_name (made text) n e) (passed text is)
named_by text n false is e = no_name n e

pub named : (text : List ℕ) (n : InterfaceName) → IsName text n ↔ (name_of text ≡ Some n)
named text n = (
  λ h. ap (λ (b : Bool). chosen b (made text)) (passes text n h)
      ∙ ap (λ (m : InterfaceName). let o : Option InterfaceName = Some m in o)
      (name_once text (made text) n (passed text (passes text n h)) h),
  λ e. named_by text n (is_name text) refl e,
)

-- a text that passes no part of the test is none
pub not_named : (text : List ℕ) → is_name text ≡ false → name_of text ≡ None
not_named text e = ap (λ (b : Bool). chosen b (made text)) e

pub is_named : (text : List ℕ) → 1 ≤ length text → length text ≤ 64
    → list_all is_name_octet text ≡ true → name_of text ≡ Some (made text)
is_named text some few printed =
    ap (λ (b : Bool). chosen b (made text))
    (passes text (made text)
    (record { some = some; few = few; printed = printed; kept = refl }))

-- a text put at the front of so many zeros
pub filled_is : (text new : List ℕ) → length text ≤ 64 → new ≡ text
    → new ++ drop (length text) (replicate 64 0) ≡ filled text
filled_is text new few same =
    ap (λ (t : List ℕ). t ++ drop (length text) (replicate 64 0)) same
    ∙ ap (λ (t : List ℕ). text ++ t) (drop-replicate (length text) 64 0)

-- ---- what is written

shown_text : (text : List ℕ) → list_all is_name_octet text ≡ true → flat_map shown text ≡ text
shown_text [] e = refl
shown_text (c ∷ cs) e =
    let h = and_parts (is_name_octet c) (list_all is_name_octet cs) e in
    ap (λ (b : Bool). cond b (c ∷ []) [] ++ flat_map shown cs) h.0
    ∙ ap (λ (t : List ℕ). c ∷ t) (shown_text cs h.1)

shown_zeros : (n : ℕ) → flat_map shown (replicate n 0) ≡ []
shown_zeros zero = refl
shown_zeros (suc n) = shown_zeros n

pub text_of : (text : List ℕ) (n : InterfaceName) → IsName text n → name_text n ≡ text
text_of text n is =
    let behind : List ℕ = replicate (64 - length text) 0 in
    ap (flat_map shown) is.kept ∙ flat_map-append shown text behind
    ∙ ap (λ (t : List ℕ). flat_map shown text ++ t) (shown_zeros (64 - length text))
    ∙ append-nil (flat_map shown text) ∙ shown_text text is.printed

pub text_once : (x y : List ℕ) (n : InterfaceName) → IsName x n → IsName y n → x ≡ y
text_once x y n h k = sym (text_of x n h) ∙ text_of y n k

pub name_again : (m n : InterfaceName) → IsInterfaceName m
    → IsName (name_text m) n ↔ (n ≡ m)
name_again m n kept =
    let again : IsName (name_text m) m =
    subst (λ (t : List ℕ). IsName t m) (sym (text_of kept.0 m kept.1)) kept.1 in (
      λ k. name_once (name_text m) n m k again,
      λ e. subst (IsName (name_text m)) (sym e) again,
    )
