-- What is so of the first of what is left of a list, and of all before it.
use Rattle.std.proofs.Common.{◌≡◌, ℕ, zero, suc, ◌<◌, inl, inr, List, [], ◌∷◌, drop}
use Rattle.std.proofs.Common.{get_or, length, set, take, refl, sym, ap, subst, ◌∙◌, arith}
use Rattle.std.specs.List.{AllByRecursion, zip}
use Rattle.capture_engines.specs.Sent.{FirstIs, OneIsBehind}

pub no_first : {S : Type 0} (xs : List S) → FirstIs (λ s. ⊥) xs → ⊥
no_first [] is = is
no_first (x ∷ xs) is = is

-- ---- all that stand before one

-- one more of a list
front_more : {S : Type 0} (Is : S → Type 0) (k : ℕ) (xs : List S) → AllByRecursion Is (take k xs)
    → FirstIs Is (drop k xs) → AllByRecursion Is (take (suc k) xs)
front_more Is k [] all first = tt
front_more Is zero (x ∷ xs) all first = (first, tt)
front_more Is (suc k) (x ∷ xs) all first = (all.0, front_more Is k xs all.1 first)

-- the same of those behind its first
pub all_behind_first : {S : Type 0} (Is : S → Type 0) (k : ℕ) (xs : List S) → 0 < k
    → AllByRecursion Is (drop 1 (take k xs)) → FirstIs Is (drop k xs)
    → AllByRecursion Is (drop 1 (take (suc k) xs))
all_behind_first Is zero xs some all first = absurd (omega arith)
all_behind_first Is (suc k) [] some all first = tt
all_behind_first Is (suc k) (x ∷ xs) some all first = front_more Is k xs all first

one_at : {S : Type 0} (Before Is : S → Type 0) (k : ℕ) (xs : List S)
    → AllByRecursion Before (take k xs) → FirstIs Is (drop k xs) → OneIsBehind Before Is xs
one_at Before Is zero [] all first = first
one_at Before Is zero (x ∷ xs) all first = inl first
one_at Before Is (suc k) [] all first = first
one_at Before Is (suc k) (x ∷ xs) all first =
    inr (all.0, one_at Before Is k xs all.1 first)

pub one_behind_first : {S : Type 0} (Before Is : S → Type 0) (k : ℕ) (xs : List S) → 0 < k
    → AllByRecursion Before (drop 1 (take k xs)) → FirstIs Is (drop k xs)
    → OneIsBehind Before Is (drop 1 xs)
one_behind_first Before Is zero xs some all first = absurd (omega arith)
one_behind_first Before Is (suc k) [] some all first = first
one_behind_first Before Is (suc k) (x ∷ xs) some all first = one_at Before Is k xs all first

-- ---- of a list of pairs

pub zip_none : {S : Type 0} (xs : List S) → let none : List S = [] in zip xs none ≡ []
zip_none [] = refl
zip_none (x ∷ xs) = refl

pub zip_drop : {S : Type 0} (k : ℕ) (xs ys : List S)
    → zip (drop k xs) (drop k ys) ≡ drop k (zip xs ys)
zip_drop zero xs ys = refl
zip_drop (suc k) [] ys = refl
zip_drop (suc k) (x ∷ xs) [] = zip_none (drop k xs)
zip_drop (suc k) (x ∷ xs) (y ∷ ys) = zip_drop k xs ys

pub zip_take : {S : Type 0} (k : ℕ) (xs ys : List S)
    → zip (take k xs) (take k ys) ≡ take k (zip xs ys)
zip_take zero xs ys = refl
zip_take (suc k) [] ys = refl
zip_take (suc k) (x ∷ xs) [] = refl
zip_take {S} (suc k) (x ∷ xs) (y ∷ ys) = ap (λ (l : List (S × S)). (x, y) ∷ l) (zip_take k xs ys)

-- the first item of a list that has one
abbrev first_of : {S : Type 0} → S → List S → S
first_of d [] = d
first_of d (x ∷ xs) = x

-- the first is so again where it stays
pub first_again : {S : Type 0} (Is : S × S → Type 0) (xs ms ys : List S) → take 1 ys ≡ take 1 ms
    → FirstIs Is (zip xs ms) → FirstIs Is (zip xs ys)
first_again Is [] ms ys same is = absurd is
first_again Is (x ∷ xs) [] ys same is = absurd is
first_again Is (x ∷ xs) (m ∷ ms) [] same is = absurd cc
first_again {S} Is (x ∷ xs) (m ∷ ms) (y ∷ ys) same is =
    subst (λ (z : S). Is (x, z)) (sym (ap (first_of m) same)) is

-- the first of what is left, where that one changed
pub first_at : {S : Type 0} (Is : S × S → Type 0) (xs : List S) (i : ℕ) (d y : S)
    → i < length xs → Is (get_or xs i d, y) → FirstIs Is (zip (drop i xs) (drop i (set xs i y)))
first_at Is [] i d y lt is = absurd (omega arith)
first_at Is (x ∷ xs) zero d y lt is = is
first_at Is (x ∷ xs) (suc i) d y lt is = first_at Is xs i d y (omega arith) is

-- what stays at the front of a list
take_one : {S : Type 0} (k : ℕ) (xs : List S) → 0 < k → take 1 (take k xs) ≡ take 1 xs
take_one zero xs some = absurd (omega arith)
take_one (suc k) [] some = refl
take_one (suc k) (x ∷ xs) some = refl

pub front_stays : {S : Type 0} (k : ℕ) (start now here : List S) → 0 < k
    → take k here ≡ take k now → take 1 now ≡ take 1 start → take 1 here ≡ take 1 start
front_stays k start now here some before front =
    sym (take_one k here some) ∙ ap (take 1) before ∙ take_one k now some ∙ front
