-- Timestamps that rise, and where a new one stands among them.
use Rattle.std.proofs.Common.{◌≡◌, ℕ, zero, suc, ◌^◌, ◌<◌, ◌≤◌, inl, inr, Bool}
use Rattle.std.proofs.Common.{true, false, cond, ◌&&◌, eqb, List, [], ◌∷◌, length}
use Rattle.std.proofs.Common.{drop, Option, None, Some, refl, sym, ap, ◌∙◌, subst, arith}
use Rattle.std.specs.Prelude.{slice_get, nat_lt}
use Rattle.std.specs.List.{AllByRecursion, insert, list_all}
use Rattle.std.proofs.lemmas.Bool.{and_parts, eqb-true, false≢true, ltb-true}
use Rattle.st_format.specs.Member.{IsMember}
use Rattle.path_receiver.specs.Opening.{AreDifferent}
use Rattle.following.specs.declared.standing.Standing.TheVariants.{Inside, New, Waits, Nowhere}
use Rattle.following.specs.Serial.{ahead_of, is_newer, IsNewer}
use Rattle.following.specs.Standing.{entry_at, is_behind, is_that, is_there, place_in, standing_in}
use Rattle.following.specs.Follower.{AreRising, since}

-- ---- all of a list

pub all_member : {X : Type 0} (P : X → Type 0) (x : X) (xs : List X) → AllByRecursion P xs
    → IsMember x xs → P x
all_member P x [] h m = absurd m
all_member P x (y ∷ ys) h (inl e) = subst P (sym e) h.0
all_member P x (y ∷ ys) h (inr m) = all_member P x ys h.1 m

pub all_insert : {X : Type 0} (P : X → Type 0) (x : X) (xs : List X) (i : ℕ) → AllByRecursion P xs
    → P x → AllByRecursion P (insert xs i x)
all_insert P x [] zero h p = (p, tt)
all_insert P x [] (suc i) h p = (p, tt)
all_insert P x (y ∷ ys) zero h p = (p, h)
all_insert P x (y ∷ ys) (suc i) h p = (h.0, all_insert P x ys i h.1 p)

all_newer : (ts : ℕ) (w : List ℕ) → list_all (λ t. is_newer t ts) w ≡ true
    → AllByRecursion (λ t. IsNewer t ts) w
all_newer ts [] h = tt
all_newer ts (t ∷ w) h =
    let k = and_parts (is_newer t ts) (list_all (λ u. is_newer u ts) w) h in
    (k.0, all_newer ts w k.1)

-- ---- different timestamps

zero_ahead : (t : ℕ) → ahead_of t t ≡ 0
zero_ahead t = omega arith

abbrev half : ℕ → Bool
half n = nat_lt 0 n && nat_lt n (2 ^ 31)

pub newer-self : (t : ℕ) → is_newer t t ≡ false
unfolding is_newer
newer-self t = ap half (zero_ahead t)

pub different : (w : List ℕ) → AreRising w → AreDifferent w
different [] h = tt
different (t ∷ w) h = (
  λ m. false≢true (sym (newer-self t) ∙ all_member (λ u. IsNewer u t) t w h.0 m),
  different w h.1,
)

pub rising_in : (gone : Option ℕ) (w : List ℕ) → AreRising (since gone w) → AreRising w
rising_in None w h = h
rising_in (Some g) w h = h.1

-- ---- one that comes in

pub place_within : (ts : ℕ) (w : List ℕ) → place_in ts w ≤ length w
place_within ts [] = omega arith
place_within ts (t ∷ w) = within (is_newer ts t) (place_within ts w)
  where
    within : (b : Bool) → place_in ts w ≤ length w
        → cond b (suc (place_in ts w)) 0 ≤ length (t ∷ w)
    within true h = omega (arith, h)
    within false h = omega arith

abbrev AllBehind : ℕ → List ℕ → ℕ → Type 0
AllBehind ts w place = list_all (λ t. is_newer t ts) (drop place w) ≡ true

rising_at : (ts t : ℕ) (w : List ℕ) (b : Bool) → is_newer ts t ≡ b
    → AllByRecursion (λ u. IsNewer u t) w → AreRising w
    → (AllBehind ts w (place_in ts w) → AreRising (insert w (place_in ts w) ts))
    → AllBehind ts (t ∷ w) (cond b (suc (place_in ts w)) 0)
    → AreRising (insert (t ∷ w) (cond b (suc (place_in ts w)) 0) ts)
rising_at ts t w true e newer rest go all =
    (all_insert (λ u. IsNewer u t) ts w (place_in ts w) newer e, go all)
rising_at ts t w false e newer rest go all = (all_newer ts (t ∷ w) all, (newer, rest))

rising_insert : (ts : ℕ) (w : List ℕ) → AreRising w → AllBehind ts w (place_in ts w)
    → AreRising (insert w (place_in ts w) ts)
rising_insert ts [] h all = (tt, tt)
rising_insert ts (t ∷ w) h all =
    rising_at ts t w (is_newer ts t) refl h.0 h.1 (rising_insert ts w h.1) all

-- A timestamp that comes in at its place keeps them rising.
pub rising_since : (gone : Option ℕ) (ts : ℕ) (w : List ℕ) → AreRising (since gone w)
    → is_behind gone ts ≡ true → AllBehind ts w (place_in ts w)
    → AreRising (since gone (insert w (place_in ts w) ts))
rising_since None ts w h behind all = rising_insert ts w h all
rising_since (Some g) ts w h behind all =
    (all_insert (λ u. IsNewer u g) ts w (place_in ts w) h.0 behind, rising_insert ts w h.1 all)

-- ---- what a standing says

-- a timestamp comes in at a place
pub record ComesIn (w : List ℕ) (gone : Option ℕ) (size ts place : ℕ) : Type 0 where
  pub room : length w < size
  pub behind : is_behind gone ts ≡ true
  pub all : AllBehind ts w (place_in ts w)
  pub at : place_in ts w ≡ place

enters : (count size p place : ℕ) (c z : Bool) → nat_lt count size ≡ c
    → cond c (New p) (cond z Nowhere Waits) ≡ New place → (count < size) × (p ≡ place)
enters count size p place true z e h = (ltb-true count size e, cc)
enters count size p place false true e h = absurd cc
enters count size p place false false e h = absurd cc

new_at : (w : List ℕ) (gone : Option ℕ) (size ts place p : ℕ) (a b c : Bool) → is_behind gone ts ≡ b
    → list_all (λ t. is_newer t ts) (drop p w) ≡ c → place_in ts w ≡ p
    → cond a (Inside p) (cond (b && c) (entry_at (length w) size p) Nowhere) ≡ New place
    → ComesIn w gone size ts place
new_at w past size ts place p true b c e f q h = absurd cc
new_at w past size ts place p false false c e f q h = absurd cc
new_at w past size ts place p false true false e f q h = absurd cc
new_at w past size ts place p false true true e f q h =
    let k = enters (length w) size p place (nat_lt (length w) size) (eqb p 0) refl h in record {
      room = k.0;
      behind = e;
      all = subst (λ (i : ℕ). AllBehind ts w i) (sym q) f;
      at = q ∙ k.1;
    }

pub comes_in : (w : List ℕ) (gone : Option ℕ) (size ts place : ℕ)
    → standing_in w gone size ts ≡ New place → ComesIn w gone size ts place
comes_in w gone size ts place h =
    new_at w gone size ts place (place_in ts w) (is_there w (place_in ts w) ts)
    (is_behind gone ts) (list_all (λ t. is_newer t ts) (drop (place_in ts w) w)) refl refl refl h

is_that_from : (o : Option ℕ) (ts : ℕ) → is_that o ts ≡ true → o ≡ Some ts
is_that_from None ts h = absurd cc
is_that_from (Some t) ts h = ap (λ (x : ℕ). Some x) (eqb-true t ts h)

same_place : (p place : ℕ) → Inside p ≡ Inside place → p ≡ place
same_place p place h = cc

not_entry : (p place : ℕ) (c z : Bool) → cond c (New p) (cond z Nowhere Waits) ≡ Inside place → ⊥
not_entry p place true z h = cc
not_entry p place false true h = cc
not_entry p place false false h = cc

inside_at : (w : List ℕ) (size ts place p : ℕ) (a b : Bool) → is_there w p ts ≡ a
    → cond a (Inside p) (cond b (entry_at (length w) size p) Nowhere) ≡ Inside place
    → slice_get w place ≡ Some ts
inside_at w size ts place p true b e h =
    ap (λ (i : ℕ). slice_get w i) (sym (same_place p place h))
    ∙ is_that_from (slice_get w p) ts e
inside_at w size ts place p false true e h =
    absurd (not_entry p place (nat_lt (length w) size) (eqb p 0) h)
inside_at w size ts place p false false e h = absurd cc

-- One that is inside stands at its place.
pub is_inside : (w : List ℕ) (gone : Option ℕ) (size ts place : ℕ)
    → standing_in w gone size ts ≡ Inside place → slice_get w place ≡ Some ts
is_inside w gone size ts place h =
    inside_at w size ts place (place_in ts w) (is_there w (place_in ts w) ts)
    (is_behind gone ts && list_all (λ t. is_newer t ts) (drop (place_in ts w) w)) refl h

-- ---- at a place

pub get-insert : {X : Type 0} (xs : List X) (i : ℕ) (x : X) → i ≤ length xs
    → slice_get (insert xs i x) i ≡ Some x
get-insert [] zero x le = refl
get-insert [] (suc i) x le = absurd (omega (arith, le))
get-insert (y ∷ ys) zero x le = refl
get-insert (y ∷ ys) (suc i) x le = get-insert ys i x (omega (arith, le))
