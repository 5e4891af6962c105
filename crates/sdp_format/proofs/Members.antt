-- Members of lists, and what tests over lists say of them.
use Rattle.std.proofs.Common.{◌≡◌, suc, zero, ◌<◌, Bool, true, false, ◌||◌, ◌&&◌, List, [], ◌∷◌}
use Rattle.std.proofs.Common.{◌++◌, length, refl, ap, ◌∙◌, sym, arith, ◌⊎◌, inl, inr}
use Rattle.std.specs.Prelude.{◌↔◌}
use Rattle.std.specs.Prelude.{Contains}
use Rattle.std.specs.List.{list_any, list_all}

pub member_here : {X : Type 0} (x : X) (xs : List X) → Contains (x ∷ xs) x
member_here x xs = (0, omega arith, refl)

pub member_later : {X : Type 0} (x y : X) (xs : List X) → Contains xs x → Contains (y ∷ xs) x
member_later x y xs m = let below : m.0 < length xs = m.1 in (suc m.0, omega arith, m.2)

pub member_cases : {X : Type 0} (x y : X) (xs : List X) → Contains (y ∷ xs) x
    → (y ≡ x) ⊎ Contains xs x
member_cases x y xs (zero, below, e) = inl e
member_cases x y xs (suc k, below, e) = inr (k, omega arith, e)

pub no_member : {X : Type 0} (x : X) → Contains [] x → ⊥
no_member x m = let below : m.0 < 0 = m.1 in omega arith

-- a test on tests
pub or_cases : (a b : Bool) → (a || b) ≡ true → (a ≡ true) ⊎ (b ≡ true)
or_cases true b e = inl refl
or_cases false b e = inr e

pub not_both : (a : Bool) → a ≡ true → a ≡ false → ⊥
not_both true e f = let h : true ≡ false = f in cc
not_both false e f = let h : false ≡ true = e in cc

pub or_left : (a b : Bool) → a ≡ true → (a || b) ≡ true
or_left true b e = refl
or_left false b e = absurd (not_both false e refl)

pub or_right : (a b : Bool) → b ≡ true → (a || b) ≡ true
or_right true b e = refl
or_right false b e = e

pub any_member : {X : Type 0} (p : X → Bool) (xs : List X) → list_any p xs ≡ true
    → (x : X) × Contains xs x × (p x ≡ true)
any_member p [] e = absurd (not_both false e refl)
any_member p (x ∷ xs) e =
    elim (or_cases (p x) (list_any p xs) e) [
      | inl h ↦ (x, member_here x xs, h)
      | inr h ↦ let r = any_member p xs h in (r.0, member_later r.0 x xs r.1, r.2)
    ]

pub member_any : {X : Type 0} (p : X → Bool) (xs : List X) (x : X) → Contains xs x → p x ≡ true
    → list_any p xs ≡ true
member_any p [] x m e = absurd (no_member x m)
member_any p (y ∷ xs) x m e =
    elim (member_cases x y xs m) [
      | inl h ↦ or_left (p y) (list_any p xs) (ap p h ∙ e)
      | inr h ↦ or_right (p y) (list_any p xs) (member_any p xs x h e)
    ]

pub all_member : {X : Type 0} (p : X → Bool) (xs : List X) (x : X) → list_all p xs ≡ true
    → Contains xs x → p x ≡ true
all_member p [] x e m = absurd (no_member x m)
all_member p (y ∷ xs) x e m =
    let both = and_cases (p y) (list_all p xs) e in
    elim (member_cases x y xs m) [
      | inl h ↦ sym (ap p h) ∙ both.0
      | inr h ↦ all_member p xs x both.1 h
    ]
  where
    and_cases : (a b : Bool) → (a && b) ≡ true → (a ≡ true) × (b ≡ true)
    and_cases true b e = (refl, e)
    and_cases false b e = absurd (not_both false e refl)

not_all_by : {X : Type 0} (p : X → Bool) (x : X) (xs : List X) (a : Bool) → p x ≡ a
    → (a && list_all p xs) ≡ false
    → (list_all p xs ≡ false → (y : X) × Contains xs y × (p y ≡ false))
    → (y : X) × Contains (x ∷ xs) y × (p y ≡ false)
not_all_by p x xs true h f rest = let r = rest f in (r.0, member_later r.0 x xs r.1, r.2)
not_all_by p x xs false h f rest = (x, member_here x xs, h)

pub not_all_member : {X : Type 0} (p : X → Bool) (xs : List X) → list_all p xs ≡ false
    → (x : X) × Contains xs x × (p x ≡ false)
not_all_member p [] e = absurd (not_both true refl e)
not_all_member p (x ∷ xs) e = not_all_by p x xs (p x) refl e (not_all_member p xs)

-- a list around a member
pub member_split : {X : Type 0} (xs : List X) (x : X) → Contains xs x
    → (before : List X) × ((after : List X) × (xs ≡ before ++ x ∷ after))
member_split [] x m = absurd (no_member x m)
member_split (y ∷ xs) x m =
    elim (member_cases x y xs m) [
      | inl h ↦ ([], (xs, ap (λ z. z ∷ xs) h))
      | inr h ↦ let r = member_split xs x h in (y ∷ r.0, (r.1.0, ap (λ zs. y ∷ zs) r.1.1))
    ]

-- an equivalence, read the other way
pub turned : {A B : Type 0} → A ↔ B → B ↔ A
turned e = (e.1, e.0)
