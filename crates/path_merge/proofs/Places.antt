-- Members of lists by their places.
use Rattle.std.proofs.Common.{◌≡◌, ℕ, zero, suc, ◌+◌, ◌<◌, ◌⊎◌, inl, inr, List, [], ◌∷◌, ◌++◌}
use Rattle.std.proofs.Common.{length, drop, Some, refl, arith}
use Rattle.std.proofs.lemmas.Bool.Decides.{leb_tells}
use Rattle.std.specs.Prelude.{slice_get}

pub get_left : {X : Type 0} (xs ys : List X) (i : ℕ) (x : X) → slice_get xs i ≡ Some x
    → slice_get (xs ++ ys) i ≡ Some x
get_left [] ys i x h = absurd cc
get_left (z ∷ xs) ys zero x h = h
get_left (z ∷ xs) ys (suc i) x h = get_left xs ys i x h

pub get_back : {X : Type 0} (xs ys : List X) (i : ℕ) (x : X) → i < length xs
    → slice_get (xs ++ ys) i ≡ Some x → slice_get xs i ≡ Some x
get_back [] ys i x lt h = absurd (omega (arith, lt))
get_back (z ∷ xs) ys zero x lt h = h
get_back (z ∷ xs) ys (suc i) x lt h = get_back xs ys i x (omega (arith, lt)) h

pub last_get : {X : Type 0} (xs : List X) (x : X) → slice_get (xs ++ x ∷ []) (length xs) ≡ Some x
last_get [] x = refl
last_get (z ∷ xs) x = last_get xs x

pub get_below : {X : Type 0} (xs : List X) (i : ℕ) (x : X) → slice_get xs i ≡ Some x → i < length xs
get_below [] i x h = absurd cc
get_below (z ∷ xs) zero x h = omega arith
get_below (z ∷ xs) (suc i) x h = let r = get_below xs i x h in omega arith

-- what is left from a place on
pub drop_get : {X : Type 0} (xs ys : List X) (i : ℕ) (x : X) → drop i xs ≡ x ∷ ys
    → slice_get xs i ≡ Some x
drop_get [] ys zero x h = absurd cc
drop_get [] ys (suc i) x h = absurd cc
drop_get (z ∷ xs) ys zero x h = cc
drop_get (z ∷ xs) ys (suc i) x h = drop_get xs ys i x h

pub drop_next : {X : Type 0} (xs ys : List X) (i : ℕ) (x : X) → drop i xs ≡ x ∷ ys
    → drop (suc i) xs ≡ ys
drop_next [] ys zero x h = absurd cc
drop_next [] ys (suc i) x h = absurd cc
drop_next (z ∷ xs) ys zero x h = cc
drop_next (z ∷ xs) ys (suc i) x h = drop_next xs ys i x h

-- before a place, or at it
pub below_or_at : (i n : ℕ) → i < n + 1 → (i < n) ⊎ (i ≡ n)
below_or_at i n h = elim (leb_tells n i) [ inl a ↦ inr (omega (arith, a.1)) | inr b ↦ inl b.1 ]
