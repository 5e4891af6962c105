-- What a reading answers, exactly: readings joined, and what a function's clauses owe.
use Rattle.std.proofs.Common.{◌≡◌, ℕ, ◌+◌, ◌≤◌, ◌⊎◌, ◌↔◌, inl, inr, List, length, take, drop}
use Rattle.std.proofs.Common.{Result}
use Rattle.std.proofs.Common.{Ok, Err, refl, sym, ap, ◌∙◌, arith}
use Rattle.std.specs.Prelude.{IfOk, IfErr, IsOkAnd}
use Rattle.std.proofs.lemmas.List.{length-append, length-take-le, take-append-drop, take_at}
use Rattle.std.proofs.lemmas.List.{drop_at}
use Rattle.pcap_file.specs.declared.datagram.NoDatagram.{NoDatagram}
use Rattle.st_format.specs.Reading.{◌>>=◌, Gives}
use Rattle.pcap_file.specs.Parts.{Begins}

-- a value is answered exactly where Is holds of it, and a reason exactly where No does
pub record Exact {X : Type 0} (r : Result X NoDatagram) (Is : X → Type 0)
    (No : NoDatagram → Type 0) : Type 0 where
  pub takes : (x : X) → r ≡ Ok x → Is x
  pub again : (x : X) → Is x → r ≡ Ok x
  pub told : (e : NoDatagram) → r ≡ Err e → No e
  pub has : (e : NoDatagram) → No e → r ≡ Err e

abbrev pub yes : {X : Type 0} → X → Result X NoDatagram
yes x = Ok x

abbrev pub no : (X : Type 0) → NoDatagram → Result X NoDatagram
no X e = Err e

pub same_yes : {X : Type 0} (x y : X) → yes x ≡ yes y → x ≡ y
same_yes x y h = cc

pub same_no : (X : Type 0) (d e : NoDatagram) → no X d ≡ no X e → d ≡ e
same_no X d e h = cc

pub yes_or_no : {X : Type 0} (x : X) (e : NoDatagram) → yes x ≡ no X e → ⊥
yes_or_no x e h = cc

-- ---- one reading after the other

pub exact_then : {X Y : Type 0} (r : Result X NoDatagram) (f : X → Result Y NoDatagram)
    (Is : X → Type 0) (No : NoDatagram → Type 0) (Is2 : X → Y → Type 0)
    (No2 : X → NoDatagram → Type 0) → Exact r Is No → ((x : X) → Exact (f x) (Is2 x) (No2 x))
    → Exact (r >>= f) (λ y. (x : X) × Is x × Is2 x y) (λ e. No e ⊎ ((x : X) × Is x × No2 x e))
exact_then {X} {Y} (Ok x) f Is No Is2 No2 a b =
    record {
      takes = λ y h. (x, a.takes x refl, (b x).takes y h);
      again = λ y w. ap f (same_yes x w.0 (a.again w.0 w.1)) ∙ (b w.0).again y w.2;
      told = λ e h. inr (x, a.takes x refl, (b x).told e h);
      has =
          λ e w. elim w [
            | inl n ↦ absurd (yes_or_no x e (a.has e n))
            | inr v ↦ ap f (same_yes x v.0 (a.again v.0 v.1)) ∙ (b v.0).has e v.2
          ];
    }
exact_then {X} {Y} (Err d) f Is No Is2 No2 a b =
    record {
      takes = λ y h. absurd (yes_or_no y d (sym h));
      again = λ y w. absurd (yes_or_no w.0 d (sym (a.again w.0 w.1)));
      told = λ e h. inl (a.told e (ap (no X) (same_no Y d e h)));
      has =
          λ e w. elim w [
            | inl n ↦ ap (no Y) (same_no X d e (a.has e n))
            | inr v ↦ absurd (yes_or_no v.0 d (sym (a.again v.0 v.1)))
          ];
    }

pub exact_like : {X : Type 0} (r : Result X NoDatagram) (Is Js : X → Type 0)
    (No Mo : NoDatagram → Type 0) → Exact r Is No → ((x : X) → Is x → Js x)
    → ((x : X) → Js x → Is x) → ((e : NoDatagram) → No e → Mo e)
    → ((e : NoDatagram) → Mo e → No e) → Exact r Js Mo
exact_like r Is Js No Mo a f g h k =
    record {
      takes = λ x e. f x (a.takes x e);
      again = λ x i. a.again x (g x i);
      told = λ d e. h d (a.told d e);
      has = λ d n. a.has d (k d n);
    }

-- ---- the clauses of a function that gives what a reading gives

pub found_by : {V X : Type 0} (view : V → X) (r : Result V NoDatagram) (w : Result X NoDatagram)
    (Is : X → Type 0) (No : NoDatagram → Type 0) → Exact w Is No → Gives view r w
    → IfOk r (λ v. Is (view v))
found_by view (Ok v) w Is No a gives = a.takes (view v) gives
found_by view (Err e) w Is No a gives = tt

pub gives_by : {V X : Type 0} (view : V → X) (r : Result V NoDatagram) (w : Result X NoDatagram)
    (Is : X → Type 0) (No : NoDatagram → Type 0) → Exact w Is No → Gives view r w
    → (x : X) → Is x → Gives view r (Ok x)
gives_by view (Ok v) w Is No a gives x is = sym (a.again x is) ∙ gives
gives_by view (Err e) w Is No a gives x is = sym (a.again x is) ∙ gives

pub only_by : {V X : Type 0} (view : V → X) (r : Result V NoDatagram) (w : Result X NoDatagram)
    (Is : X → Type 0) (No : NoDatagram → Type 0) → Exact w Is No → Gives view r w
    → (x : X) → Is x → IsOkAnd r (λ v. view v ≡ x)
only_by view (Ok v) w Is No a gives x is = same_yes (view v) x (sym gives ∙ a.again x is)
only_by view (Err e) w Is No a gives x is = yes_or_no x e (sym (a.again x is) ∙ gives)

pub none_by : {V X : Type 0} (view : V → X) (r : Result V NoDatagram) (w : Result X NoDatagram)
    (Is : X → Type 0) (No : NoDatagram → Type 0) → Exact w Is No → Gives view r w
    → IfErr r (λ e. (x : X) → Is x → ⊥)
none_by view (Ok v) w Is No a gives = tt
none_by view (Err e) w Is No a gives = λ x is. yes_or_no x e (sym (a.again x is) ∙ gives)

pub refused_by : {V X : Type 0} (view : V → X) (r : Result V NoDatagram) (w : Result X NoDatagram)
    (Is : X → Type 0) (No : NoDatagram → Type 0) → Exact w Is No → Gives view r w
    → (e : NoDatagram) → (r ≡ Err e) ↔ No e
refused_by {V} {X} view (Ok v) w Is No a gives e = (
  λ (h : yes v ≡ no V e). absurd (yes_or_no v e h),
  λ (n : No e). absurd (yes_or_no (view v) e (sym gives ∙ a.has e n)),
)
refused_by {V} {X} view (Err d) w Is No a gives e = (
  λ (h : no V d ≡ no V e). a.told e (gives ∙ ap (no X) (same_no V d e h)),
  λ (n : No e). ap (no V) (same_no X d e (sym gives ∙ a.has e n)),
)

-- ---- a header and what is behind it

pub begins_at : (octets : List ℕ) (n : ℕ) → n ≤ length octets
    → Begins octets n (take n octets) (drop n octets)
begins_at octets n long =
    record {
      counted = length-take-le n octets long;
      parts = sym (take-append-drop n octets);
    }

pub begins_take : (octets : List ℕ) (n : ℕ) (header rest : List ℕ) → Begins octets n header rest
    → take n octets ≡ header
begins_take octets n header rest is = ap (take n) is.parts ∙ take_at header rest n is.counted

pub begins_drop : (octets : List ℕ) (n : ℕ) (header rest : List ℕ) → Begins octets n header rest
    → drop n octets ≡ rest
begins_drop octets n header rest is = ap (drop n) is.parts ∙ drop_at header rest n is.counted

pub begins_length : (octets : List ℕ) (n : ℕ) (header rest : List ℕ) → Begins octets n header rest
    → length octets ≡ n + length rest
begins_length octets n header rest is =
    omega (arith, ap (λ (x : List ℕ). length x) is.parts, length-append header rest, is.counted)
