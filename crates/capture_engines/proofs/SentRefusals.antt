-- Which refusal of a picture ends a run of `send`.
use Rattle.std.proofs.Common.{◌≡◌, ℕ, suc, ◌+◌, ◌<◌, List, [], ◌∷◌, drop, take, refl}
use Rattle.std.proofs.Common.{inl, inr, ap, sym, subst, ◌∙◌, arith}
use Rattle.std.specs.List.{AllByRecursion, zip}
use Rattle.st_format.specs.declared.format.Format.{Format}
use Rattle.packet_plan.specs.Plan.{IsSize}
use Rattle.packet_plan.specs.declared.plan.PlanFault.{PlanFault}
use Rattle.packet_plan.specs.declared.plan.PlanFault.TheVariants.{NoMemory, BadPacketSize}
use Rattle.run_outcome.specs.LowerFaults.{of_plan}
use Rattle.run_outcome.specs.Pictures.{IsPictureRefusal, IsPlanFault, SaysPictureOf}
use Rattle.run_outcome.specs.Refusing.{OfRefusal}
use Rattle.run_outcome.specs.declared.refusal.Refusal.{Refusal}
use Rattle.run_outcome.specs.declared.refusal.Refusal.TheVariants as why
use Rattle.capture_engines.specs.Sent.{FirstIs, FirstSays, IsLaterPictureRefusal}
use Rattle.capture_engines.specs.Sent.{IsPicturesRefusal, IsRestRefusal, SaysOther}
use Rattle.capture_engines.proofs.OneOf.{first_again, no_first, zip_drop, zip_take}
use Rattle.capture_engines.proofs.OneOf.{all_behind_first, one_behind_first}

-- ---- the first picture

-- its file is refused
pub first_refused : {S : Type 0} (most : ℕ) (told : S → List ℕ → Type 0) (xs : List S)
    (r : Refusal) → FirstIs (λ s. IsPictureRefusal (told s) r) xs
    → IsPicturesRefusal most told xs r
first_refused most told [] r is = absurd is
first_refused most told (x ∷ xs) (why.Picture e) is = inl is
first_refused most told (x ∷ xs) r is = absurd is

-- its format has no plan
pub plan_refused : {S : Type 0} (most : ℕ) (format : Format) (told : S → List ℕ → Type 0)
    (xs : List S) → FirstSays told format xs → (e : PlanFault)
    → (e ≡ BadPacketSize → IsPlanFault most format BadPacketSize)
    → OfRefusal (of_plan e) (IsPicturesRefusal most told xs)
plan_refused most format told xs says NoMemory is = tt
plan_refused most format told [] says BadPacketSize is = absurd says
plan_refused most format told (x ∷ xs) says BadPacketSize is = inl (format, says, is refl)

-- it has one, and one of those behind it is refused
pub rest_refused : {S : Type 0} (most : ℕ) (format : Format) (told : S × S → List ℕ → Type 0)
    (xs ms ys : List S) (r : Refusal) → FirstSays told format (zip xs ms) → IsSize most format
    → drop 1 ms ≡ drop 1 xs → take 1 ys ≡ take 1 ms
    → IsRestRefusal format told (zip (drop 1 ms) (drop 1 ys)) r
    → IsPicturesRefusal most told (zip xs ys) r
rest_refused {S} most format told xs ms ys r says size behind front is =
    all (zip xs ys) (first_again (λ s. SaysPictureOf (told s) format) xs ms ys front says)
    (subst (λ (l : List (S × S)). IsRestRefusal format told l r) (zip_drop 1 xs ys)
    (subst (λ (l : List S). IsRestRefusal format told (zip l (drop 1 ys)) r) behind is))
  where
    all : (ps : List (S × S)) → FirstSays told format ps
        → IsRestRefusal format told (drop 1 ps) r → IsPicturesRefusal most told ps r
    all [] first rest = absurd first
    all (p ∷ ps) first rest = inr (format, first, size, rest)

-- ---- those behind the first

-- those behind the first and before a place are of this format: the sources as they were, and as
-- they are here
abbrev pub AreOf : {S : Type 0} → (S × S → List ℕ → Type 0) → Format → ℕ → List S → List S → Type 0
AreOf told format k start here =
    AllByRecursion (λ s. SaysPictureOf (told s) format) (drop 1 (take k (zip start here)))

pub none_are : {S : Type 0} (told : S × S → List ℕ → Type 0) (format : Format) (start here : List S)
    → AreOf told format 1 start here
none_are told format [] here = tt
none_are told format (x ∷ xs) [] = tt
none_are told format (x ∷ xs) (y ∷ ys) = tt

-- what is read at a place: as it was, and as it is
read_there : {S : Type 0} (Is : S × S → Type 0) (k : ℕ) (start now here : List S)
    → drop k now ≡ drop k start → FirstIs Is (zip (drop k now) (drop k here))
    → FirstIs Is (drop k (zip start here))
read_there {S} Is k start now here same is =
    subst (λ (l : List (S × S)). FirstIs Is l) (zip_drop k start here)
    (subst (λ (l : List S). FirstIs Is (zip l (drop k here))) same is)

-- they are so still once one at the place was read
are_still : {S : Type 0} (told : S × S → List ℕ → Type 0) (format : Format) (k : ℕ)
    (start now here : List S) → take k here ≡ take k now → AreOf told format k start now
    → AreOf told format k start here
are_still {S} told format k start now here before are =
    subst (λ (l : List (S × S)). AllByRecursion (λ s. SaysPictureOf (told s) format) (drop 1 l))
    (sym (zip_take k start now) ∙ ap (λ (l : List S). zip (take k start) l) (sym before)
    ∙ zip_take k start here) are

-- and that one is too
pub one_more : {S : Type 0} (told : S × S → List ℕ → Type 0) (format other : Format) (k : ℕ)
    (start now here : List S) → 0 < k → drop k now ≡ drop k start → take k here ≡ take k now
    → AreOf told format k start now → other ≡ format
    → FirstSays told other (zip (drop k now) (drop k here))
    → AreOf told format (k + 1) start here
one_more {S} told format other k start now here some same before are alike says =
    let next : suc k ≡ k + 1 = omega arith in
    subst (λ (n : ℕ). AreOf told format n start here) next
    (all_behind_first (λ s. SaysPictureOf (told s) format) k (zip start here) some
    (are_still told format k start now here before are)
    (read_there (λ s. SaysPictureOf (told s) format) k start now here same
    (subst (λ (f : Format). FirstSays told f (zip (drop k now) (drop k here))) alike says)))

-- the one there is refused
later_refused : {S : Type 0} (format : Format) (told : S × S → List ℕ → Type 0) (k : ℕ)
    (start now here : List S) → 0 < k → drop k now ≡ drop k start → take k here ≡ take k now
    → AreOf told format k start now → (r : Refusal)
    → FirstIs (λ s. IsLaterPictureRefusal format (told s) r) (zip (drop k now) (drop k here))
    → IsRestRefusal format told (zip (drop 1 start) (drop 1 here)) r
later_refused {S} format told k start now here some same before are r is =
    subst (λ (l : List (S × S)). IsRestRefusal format told l r) (sym (zip_drop 1 start here))
    (one_behind_first (λ s. SaysPictureOf (told s) format)
    (λ s. IsLaterPictureRefusal format (told s) r) k (zip start here) some
    (are_still told format k start now here before are)
    (read_there (λ s. IsLaterPictureRefusal format (told s) r) k start now here same is))

-- its file is
pub next_refused : {S : Type 0} (format : Format) (told : S × S → List ℕ → Type 0) (k : ℕ)
    (start now here : List S) → 0 < k → drop k now ≡ drop k start → take k here ≡ take k now
    → AreOf told format k start now → (r : Refusal)
    → FirstIs (λ s. IsPictureRefusal (told s) r) (zip (drop k now) (drop k here))
    → IsRestRefusal format told (zip (drop 1 start) (drop 1 here)) r
next_refused format told k start now here some same before are (why.Picture e) is =
    later_refused format told k start now here some same before are (why.Picture e) is
next_refused format told k start now here some same before are r is =
    absurd (no_first (zip (drop k now) (drop k here)) is)

-- it is of another format
pub other_refused : {S : Type 0} (format then other : Format) (told : S × S → List ℕ → Type 0)
    (k : ℕ) (start now here : List S) → 0 < k → drop k now ≡ drop k start
    → take k here ≡ take k now → AreOf told format k start now → then ≡ format
    → FirstSays told other (zip (drop k now) (drop k here)) → (r : Refusal)
    → (r ≡ why.SendFormats) × (other ≡ then → ⊥)
    → IsRestRefusal format told (zip (drop 1 start) (drop 1 here)) r
other_refused {S} format then other told k start now here some same before are kept says r is =
    subst (λ (w : Refusal). IsRestRefusal format told (zip (drop 1 start) (drop 1 here)) w)
    (sym is.0)
    (later_refused format told k start now here some same before are why.SendFormats
    (other_first (zip (drop k now) (drop k here)) says))
  where
    other_first : (ys : List (S × S)) → FirstSays told other ys
        → FirstIs (λ s. SaysOther (told s) format) ys
    other_first [] says = says
    other_first (y ∷ ys) says =
        record { other = other; says = says; unlike = λ like. is.1 (like ∙ sym kept) }
