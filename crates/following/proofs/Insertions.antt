-- Where a time stands among those of a window, by their timestamps.
use Rattle.std.proofs.Common.{◌≡◌, ℕ, zero, suc, ◌<◌, ◌≤◌, inl, inr, Bool, true, false, cond}
use Rattle.std.proofs.Common.{◌&&◌, eqb, List, [], ◌∷◌, length, map, drop, Option, None, Some}
use Rattle.std.proofs.Common.{refl, sym, ap, ◌∙◌, subst, arith}
use Rattle.std.specs.Prelude.{nat_lt, slice_get, ⊤}
use Rattle.std.specs.List.{AllByRecursion, insert, list_all}
use Rattle.std.proofs.lemmas.Bool.{eq-eqb, ne_eqb, le-ltb, lt-ltb, ltb-true, ltb-false, and_from}
use Rattle.std.proofs.lemmas.List.{length-map}
use Rattle.st_format.specs.Member.{IsMember}
use Rattle.following.specs.declared.standing.Standing.{Standing}
use Rattle.following.specs.declared.standing.Standing.TheVariants.{Inside, Nowhere}
use Rattle.following.specs.Serial.{wrapped, is_newer}
use Rattle.following.specs.Standing.{entry_at, is_behind, is_beyond, is_that, is_there, newest_in}
use Rattle.following.specs.Standing.{place_in, standing_at, standing_in}
use Rattle.following.specs.Times.{IsNear, with_time}
use Rattle.following.proofs.Near.{near_back, newer-near, same_time}
use Rattle.following.proofs.Ordered.{Rises}
use Rattle.following.proofs.Rising.{all_member}

-- how many of a rising list are less
abbrev pub count_older : ℕ → List ℕ → ℕ
count_older u [] = 0
count_older u (v ∷ vs) = cond (nat_lt v u) (suc (count_older u vs)) 0

abbrev pub AllNear : ℕ → List ℕ → Type 0
AllNear u vs = (v : ℕ) → IsMember v vs → IsNear u v

rest_near : (u v : ℕ) (vs : List ℕ) → AllNear u (v ∷ vs) → AllNear u vs
rest_near u v vs near x m = near x (inr m)

pub place_near : (u : ℕ) (vs : List ℕ) → AllNear u vs
    → place_in (wrapped u) (map wrapped vs) ≡ count_older u vs
place_near u [] near = refl
place_near u (v ∷ vs) near =
    ap (λ (b : Bool). cond b (suc (place_in (wrapped u) (map wrapped vs))) 0)
    (newer-near u v (near v (inl refl)))
    ∙ ap (λ (n : ℕ). cond (nat_lt v u) (suc n) 0) (place_near u vs (rest_near u v vs near))

-- ---- one that is there

there_at : (u v : ℕ) (vs : List ℕ) (b : Bool) → nat_lt v u ≡ b
    → AllByRecursion (λ x. v < x) vs → IsMember u (v ∷ vs)
    → (IsMember u vs → slice_get (map wrapped vs) (count_older u vs) ≡ Some (wrapped u))
    → slice_get (map wrapped (v ∷ vs)) (cond b (suc (count_older u vs)) 0) ≡ Some (wrapped u)
there_at u v vs true e all (inl same) rest =
    let lt : v < u = ltb-true v u e in absurd (omega (arith, lt, same))
there_at u v vs true e all (inr m) rest = rest m
there_at u v vs false e all (inl same) rest = ap (λ (x : ℕ). Some (wrapped x)) (sym same)
there_at u v vs false e all (inr m) rest =
    let le : u ≤ v = ltb-false v u e in
    let gt : v < u = all_member (λ x. v < x) u vs all m in absurd (omega (arith, le, gt))

pub there : (u : ℕ) (vs : List ℕ) → Rises vs → IsMember u vs
    → slice_get (map wrapped vs) (count_older u vs) ≡ Some (wrapped u)
there u [] h m = absurd m
there u (v ∷ vs) h m = there_at u v vs (nat_lt v u) refl h.0 m (there u vs h.1)

-- A time of the window stands inside.
pub standing-inside : (u : ℕ) (vs : List ℕ) (gone : Option ℕ) (size : ℕ) → AllNear u vs → Rises vs
    → IsMember u vs
    → standing_in (map wrapped vs) gone size (wrapped u) ≡ Inside (count_older u vs)
standing-inside u vs gone size near h m =
    let w : List ℕ = map wrapped vs in
    let ts : ℕ = wrapped u in
    let c : ℕ = count_older u vs in
    let rest : Standing = cond (is_behind gone ts && list_all (λ t. is_newer t ts) (drop c w))
    (entry_at (length w) size c) Nowhere in
    ap (λ (p : ℕ). standing_at w gone size ts p) (place_near u vs near)
    ∙ ap (λ (x : Option ℕ). cond (is_that x ts) (Inside c) rest) (there u vs h m)
    ∙ ap (λ (b : Bool). cond b (Inside c) rest) (eq-eqb ts ts refl)

-- ---- one that isn't

pub not_there : (u : ℕ) (vs : List ℕ) (i : ℕ) → AllNear u vs → (IsMember u vs → ⊥)
    → is_there (map wrapped vs) i (wrapped u) ≡ false
not_there u [] zero near out = refl
not_there u [] (suc i) near out = refl
not_there u (v ∷ vs) zero near out =
    ne_eqb (wrapped v) (wrapped u) (λ e. out (inl (same_time u v (near v (inl refl)) (sym e))))
not_there u (v ∷ vs) (suc i) near out =
    not_there u vs i (rest_near u v vs near) (λ m. out (inr m))

all_later : (u : ℕ) (vs : List ℕ) → AllNear u vs → ((v : ℕ) → IsMember v vs → u < v)
    → list_all (λ t. is_newer t (wrapped u)) (map wrapped vs) ≡ true
all_later u [] near all = refl
all_later u (v ∷ vs) near all =
    and_from (is_newer (wrapped v) (wrapped u))
    (list_all (λ t. is_newer t (wrapped u)) (map wrapped vs))
    (newer-near v u (near_back u v (near v (inl refl))) ∙ lt-ltb u v (all v (inl refl)))
    (all_later u vs (rest_near u v vs near) (λ x m. all x (inr m)))

pub less_than : (u v : ℕ) → (u ≡ v → ⊥) → u ≤ v → u < v
less_than u v ne le = omega arith

behind_at : (u v : ℕ) (vs : List ℕ) (b : Bool) → nat_lt v u ≡ b → AllNear u (v ∷ vs)
    → AllByRecursion (λ x. v < x) vs → (IsMember u (v ∷ vs) → ⊥)
    → list_all (λ t. is_newer t (wrapped u)) (drop (count_older u vs) (map wrapped vs)) ≡ true
    → list_all (λ t. is_newer t (wrapped u))
    (drop (cond b (suc (count_older u vs)) 0) (map wrapped (v ∷ vs)))
    ≡ true
behind_at u v vs true e near all out rest = rest
behind_at u v vs false e near all out rest =
    let lt : u < v = less_than u v (λ s. out (inl s)) (ltb-false v u e) in
    all_later u (v ∷ vs) near (later lt)
  where
    later : u < v → (x : ℕ) → IsMember x (v ∷ vs) → u < x
    later lt x (inl s) = subst (λ (y : ℕ). u < y) (sym s) lt
    later lt x (inr m) =
        let gt : v < x = all_member (λ y. v < y) x vs all m in omega (arith, lt, gt)

pub all_behind : (u : ℕ) (vs : List ℕ) → AllNear u vs → Rises vs → (IsMember u vs → ⊥)
    → list_all (λ t. is_newer t (wrapped u)) (drop (count_older u vs) (map wrapped vs)) ≡ true
all_behind u [] near h out = refl
all_behind u (v ∷ vs) near h out =
    behind_at u v vs (nat_lt v u) refl near h.0 out
    (all_behind u vs (rest_near u v vs near) h.1 (λ m. out (inr m)))

-- what has gone, as timestamps
abbrev pub wrapped_if : Option ℕ → Option ℕ
wrapped_if None = None
wrapped_if (Some g) = Some (wrapped g)

-- a time is newer than what has gone, and near it
abbrev pub IsPast : Option ℕ → ℕ → Type 0
IsPast None u = ⊤
IsPast (Some g) u = (g < u) × IsNear u g

-- a time is not too far ahead of the newest
abbrev pub IsInReach : ℕ → Option ℕ → List ℕ → ℕ → Type 0
IsInReach ahead last vs u =
    is_beyond (newest_in (wrapped_if last) (map wrapped vs)) ahead (wrapped u) ≡ false

behind_is : (last : Option ℕ) (u : ℕ) → IsPast last u → is_behind (wrapped_if last) (wrapped u) ≡ true
behind_is None u past = refl
behind_is (Some g) u past = newer-near u g past.1 ∙ lt-ltb g u past.0

-- A new time comes in where there is room, and else waits.
pub standing-new : (u : ℕ) (vs : List ℕ) (last : Option ℕ) (size : ℕ) → AllNear u vs → Rises vs
    → (IsMember u vs → ⊥) → IsPast last u
    → standing_in (map wrapped vs) (wrapped_if last) size (wrapped u)
    ≡ entry_at (length vs) size (count_older u vs)
standing-new u vs last size near h out past =
    let w : List ℕ = map wrapped vs in
    let ts : ℕ = wrapped u in
    let c : ℕ = count_older u vs in
    let gone : Option ℕ = wrapped_if last in
    let all : Bool = list_all (λ t. is_newer t ts) (drop c w) in
    ap (λ (p : ℕ). standing_at w gone size ts p) (place_near u vs near)
    ∙ ap (λ (b : Bool). cond b (Inside c)
    (cond (is_behind gone ts && all) (entry_at (length w) size c) Nowhere))
    (not_there u vs c near out)
    ∙ ap (λ (b : Bool). cond (b && all) (entry_at (length w) size c) Nowhere)
    (behind_is last u past)
    ∙ ap (λ (b : Bool). cond b (entry_at (length w) size c) Nowhere) (all_behind u vs near h out)
    ∙ ap (λ (n : ℕ). entry_at n size c) (length-map vs wrapped)

-- ---- put at its place

abbrev put : ℕ → ℕ → List ℕ → Bool → Bool → List ℕ
put u v vs a b = cond a (v ∷ vs) (cond b (u ∷ v ∷ vs) (v ∷ with_time u vs))

apart : (x u : ℕ) → x < u → x ≡ u → ⊥
apart x u lt e = omega arith

insert_at : {X : Type 0} (F : ℕ → X) (u v : ℕ) (vs : List ℕ) (b : Bool) → nat_lt v u ≡ b
    → (u ≡ v → ⊥) → insert (map F vs) (count_older u vs) (F u) ≡ map F (with_time u vs)
    → insert (map F (v ∷ vs)) (cond b (suc (count_older u vs)) 0) (F u)
    ≡ map F (put u v vs (eqb v u) (nat_lt u v))
insert_at {X} F u v vs true e ne rest =
    let lt : v < u = ltb-true v u e in
    ap (λ (xs : List X). F v ∷ xs) rest
    ∙ sym
    (ap (λ (a : Bool). map F (put u v vs a (nat_lt u v))) (ne_eqb v u (apart v u lt))
    ∙ ap (λ (c : Bool). map F (put u v vs false c)) (le-ltb u v (omega (arith, lt))))
insert_at {X} F u v vs false e ne rest =
    let lt : u < v = less_than u v ne (ltb-false v u e) in
    sym
    (ap (λ (a : Bool). map F (put u v vs a (nat_lt u v))) (ne_eqb v u (λ s. ne (sym s)))
    ∙ ap (λ (c : Bool). map F (put u v vs false c)) (lt-ltb u v lt))

-- Inserted at the place where it stands, it is put in order.
pub insert-map : {X : Type 0} (F : ℕ → X) (u : ℕ) (vs : List ℕ) → (IsMember u vs → ⊥)
    → insert (map F vs) (count_older u vs) (F u) ≡ map F (with_time u vs)
insert-map F u [] out = refl
insert-map F u (v ∷ vs) out =
    insert_at F u v vs (nat_lt v u) refl (λ s. out (inl s))
    (insert-map F u vs (λ m. out (inr m)))
