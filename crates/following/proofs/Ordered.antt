-- Rising lists of times.
use Rattle.std.proofs.Common.{◌≡◌, ℕ, suc, ◌<◌, ◌≤◌, ◌⊎◌, inl, inr, Bool, true, false, cond}
use Rattle.std.proofs.Common.{eqb, List, [], ◌∷◌, ◌++◌, length, refl, sym, ap, ◌∙◌, subst, arith}
use Rattle.std.specs.Prelude.{nat_lt}
use Rattle.std.specs.List.{AllByRecursion, filter}
use Rattle.std.proofs.lemmas.Bool.{eqb-true, eqb-false, ne_eqb, ltb-true, ltb-false, lt-ltb}
use Rattle.std.proofs.lemmas.Bool.{le-ltb}
use Rattle.std.proofs.lemmas.List.Elements.{filter-append}
use Rattle.std.proofs.Common.{length-append}
use Rattle.st_format.specs.Member.{IsMember}
use Rattle.following.specs.Times.{with_time, in_order_behind}
use Rattle.following.proofs.Rising.{all_member}

-- each is less than all behind it
abbrev pub Rises : List ℕ → Type 0
Rises [] = Unit {0}
Rises (v ∷ vs) = AllByRecursion (λ u. v < u) vs × Rises vs

-- ---- a time put at its place

abbrev put : ℕ → ℕ → List ℕ → Bool → Bool → List ℕ
put u v vs a b = cond a (v ∷ vs) (cond b (u ∷ v ∷ vs) (v ∷ with_time u vs))

all_put : (P : ℕ → Type 0) (u v : ℕ) (vs : List ℕ) (a b : Bool) → AllByRecursion P (v ∷ vs) → P u
    → AllByRecursion P (with_time u vs) → AllByRecursion P (put u v vs a b)
all_put P u v vs true b h p rest = h
all_put P u v vs false true h p rest = (p, h)
all_put P u v vs false false h p rest = (h.0, rest)

pub all_with : (P : ℕ → Type 0) (u : ℕ) (vs : List ℕ) → AllByRecursion P vs → P u
    → AllByRecursion P (with_time u vs)
all_with P u [] h p = (p, tt)
all_with P u (v ∷ vs) h p =
    all_put P u v vs (eqb v u) (nat_lt u v) h p (all_with P u vs h.1 p)

later_all : (u v : ℕ) (vs : List ℕ) → u < v → AllByRecursion (λ x. v < x) vs
    → AllByRecursion (λ x. u < x) vs
later_all u v [] lt h = tt
later_all u v (x ∷ vs) lt h =
    let k : v < x = h.0 in (omega (arith, lt, k), later_all u v vs lt h.1)

after_other : (u v : ℕ) → (v ≡ u → ⊥) → v ≤ u → v < u
after_other u v ne le = omega arith

rises_put : (u v : ℕ) (vs : List ℕ) (a b : Bool) → eqb v u ≡ a → nat_lt u v ≡ b
    → AllByRecursion (λ x. v < x) vs → Rises vs → Rises (with_time u vs) → Rises (put u v vs a b)
rises_put u v vs true b e f all h rest = (all, h)
rises_put u v vs false true e f all h rest =
    let lt : u < v = ltb-true u v f in ((lt, later_all u v vs lt all), (all, h))
rises_put u v vs false false e f all h rest = (
  all_with (λ x. v < x) u vs all
      (after_other u v (eqb-false v u e) (ltb-false u v f)),
  rest,
)

pub rises_with : (u : ℕ) (vs : List ℕ) → Rises vs → Rises (with_time u vs)
rises_with u [] h = (tt, tt)
rises_with u (v ∷ vs) h =
    rises_put u v vs (eqb v u) (nat_lt u v) refl refl h.0 h.1 (rises_with u vs h.1)

-- ---- its members

has_put : (u v : ℕ) (vs : List ℕ) (a b : Bool) → eqb v u ≡ a → IsMember u (with_time u vs)
    → IsMember u (put u v vs a b)
has_put u v vs true b e rest = inl (sym (eqb-true v u e))
has_put u v vs false true e rest = inl refl
has_put u v vs false false e rest = inr rest

pub has_time : (u : ℕ) (vs : List ℕ) → IsMember u (with_time u vs)
has_time u [] = inl refl
has_time u (v ∷ vs) = has_put u v vs (eqb v u) (nat_lt u v) refl (has_time u vs)

keeps_put : (x u v : ℕ) (vs : List ℕ) (a b : Bool) → IsMember x (v ∷ vs)
    → (IsMember x vs → IsMember x (with_time u vs)) → IsMember x (put u v vs a b)
keeps_put x u v vs true b m rest = m
keeps_put x u v vs false true m rest = inr m
keeps_put x u v vs false false (inl e) rest = inl e
keeps_put x u v vs false false (inr m) rest = inr (rest m)

pub keeps_times : (x u : ℕ) (vs : List ℕ) → IsMember x vs → IsMember x (with_time u vs)
keeps_times x u [] m = absurd m
keeps_times x u (v ∷ vs) m =
    keeps_put x u v vs (eqb v u) (nat_lt u v) m (keeps_times x u vs)

from_put : (x u v : ℕ) (vs : List ℕ) (a b : Bool) → IsMember x (put u v vs a b)
    → (IsMember x (with_time u vs) → (x ≡ u) ⊎ IsMember x vs) → (x ≡ u) ⊎ IsMember x (v ∷ vs)
from_put x u v vs true b m rest = inr m
from_put x u v vs false true (inl e) rest = inl e
from_put x u v vs false true (inr m) rest = inr m
from_put x u v vs false false (inl e) rest = inr (inl e)
from_put x u v vs false false (inr m) rest =
    elim (rest m) [ inl e ↦ inl e | inr k ↦ inr (inr k) ]

pub from_times : (x u : ℕ) (vs : List ℕ) → IsMember x (with_time u vs) → (x ≡ u) ⊎ IsMember x vs
from_times x u [] (inl e) = inl e
from_times x u [] (inr m) = absurd m
from_times x u (v ∷ vs) m =
    from_put x u v vs (eqb v u) (nat_lt u v) m (from_times x u vs)

-- ---- one that is there, or isn't

there_put : (u v : ℕ) (vs : List ℕ) (a b : Bool) → eqb v u ≡ a → nat_lt u v ≡ b
    → AllByRecursion (λ x. v < x) vs → IsMember u (v ∷ vs)
    → (IsMember u vs → with_time u vs ≡ vs) → put u v vs a b ≡ v ∷ vs
there_put u v vs true b e f all m rest = refl
there_put u v vs false b e f all (inl s) rest = absurd (eqb-false v u e (sym s))
there_put u v vs false true e f all (inr m) rest =
    let lt : u < v = ltb-true u v f in
    let gt : v < u = all_member (λ x. v < x) u vs all m in absurd (omega (arith, lt, gt))
there_put u v vs false false e f all (inr m) rest = ap (λ (xs : List ℕ). v ∷ xs) (rest m)

-- A time that is there is put once.
pub with_time-there : (u : ℕ) (vs : List ℕ) → Rises vs → IsMember u vs → with_time u vs ≡ vs
with_time-there u [] h m = absurd m
with_time-there u (v ∷ vs) h m =
    there_put u v vs (eqb v u) (nat_lt u v) refl refl h.0 m (with_time-there u vs h.1)

length_put : (u v : ℕ) (vs : List ℕ) (a b : Bool) → eqb v u ≡ a → (IsMember u (v ∷ vs) → ⊥)
    → length (with_time u vs) ≡ suc (length vs) → length (put u v vs a b) ≡ suc (length (v ∷ vs))
length_put u v vs true b e out rest = absurd (out (inl (sym (eqb-true v u e))))
length_put u v vs false true e out rest = refl
length_put u v vs false false e out rest = ap suc rest

pub length-with_time : (u : ℕ) (vs : List ℕ) → (IsMember u vs → ⊥)
    → length (with_time u vs) ≡ suc (length vs)
length-with_time u [] out = refl
length-with_time u (v ∷ vs) out =
    length_put u v vs (eqb v u) (nat_lt u v) refl out
    (length-with_time u vs (λ m. out (inr m)))

-- Behind lesser times it is put among the others.
pub with_time-behind : (u : ℕ) (front vs : List ℕ) → AllByRecursion (λ x. x < u) front
    → with_time u (front ++ vs) ≡ front ++ with_time u vs
with_time-behind u [] vs less = refl
with_time-behind u (x ∷ front) vs less =
    let lt : x < u = less.0 in
    ap (λ (a : Bool). put u x (front ++ vs) a (nat_lt u x)) (ne_eqb x u (λ e. no x u lt e))
    ∙ ap (λ (b : Bool). put u x (front ++ vs) false b) (le-ltb u x (omega (arith, lt)))
    ∙ ap (λ (xs : List ℕ). x ∷ xs) (with_time-behind u front vs less.1)
  where
    no : (x u : ℕ) → x < u → x ≡ u → ⊥
    no x u lt e = omega arith

-- ---- a list in order

pub in_order-more : (vs us : List ℕ) (u : ℕ)
    → in_order_behind vs (us ++ u ∷ []) ≡ with_time u (in_order_behind vs us)
in_order-more vs [] u = refl
in_order-more vs (x ∷ us) u = in_order-more (with_time x vs) us u

pub in_order-append : (vs us ws : List ℕ)
    → in_order_behind vs (us ++ ws) ≡ in_order_behind (in_order_behind vs us) ws
in_order-append vs [] ws = refl
in_order-append vs (x ∷ us) ws = in_order-append (with_time x vs) us ws

pub rises_behind : (vs us : List ℕ) → Rises vs → Rises (in_order_behind vs us)
rises_behind vs [] h = h
rises_behind vs (u ∷ us) h = rises_behind (with_time u vs) us (rises_with u vs h)

pub order_keeps : (x : ℕ) (vs us : List ℕ) → IsMember x vs ⊎ IsMember x us
    → IsMember x (in_order_behind vs us)
order_keeps x vs [] (inl m) = m
order_keeps x vs [] (inr m) = absurd m
order_keeps x vs (u ∷ us) (inl m) =
    order_keeps x (with_time u vs) us (inl (keeps_times x u vs m))
order_keeps x vs (u ∷ us) (inr (inl e)) =
    order_keeps x (with_time u vs) us
    (inl (subst (λ (y : ℕ). IsMember y (with_time u vs)) (sym e) (has_time u vs)))
order_keeps x vs (u ∷ us) (inr (inr m)) = order_keeps x (with_time u vs) us (inr m)

pub order_from : (x : ℕ) (vs us : List ℕ) → IsMember x (in_order_behind vs us)
    → IsMember x vs ⊎ IsMember x us
order_from x vs [] m = inl m
order_from x vs (u ∷ us) m =
    elim (order_from x (with_time u vs) us m) [
      | inl k ↦ elim (from_times x u vs k) [ inl e ↦ inr (inl e) | inr j ↦ inl j ]
      | inr k ↦ inr (inr k)
    ]

-- ---- rising lists in two parts

pub rises_last : (gone win : List ℕ) → Rises (gone ++ win) → Rises win
rises_last [] win h = h
rises_last (g ∷ gone) win h = rises_last gone win h.1

all_right : (P : ℕ → Type 0) (xs ys : List ℕ) → AllByRecursion P (xs ++ ys) → AllByRecursion P ys
all_right P [] ys h = h
all_right P (x ∷ xs) ys h = all_right P xs ys h.1

-- each of the one part is less than each of the other
pub parts_rise : (x y : ℕ) (gone win : List ℕ) → Rises (gone ++ win) → IsMember x gone
    → IsMember y win → x < y
parts_rise x y [] win h m n = absurd m
parts_rise x y (g ∷ gone) win h (inl e) n =
    let k : g < y = all_member (λ u. g < u) y win (all_right (λ u. g < u) gone win h.0) n in
    subst (λ (z : ℕ). z < y) (sym e) k
parts_rise x y (g ∷ gone) win h (inr m) n = parts_rise x y gone win h.1 m n

-- ---- counts of newer times

abbrev pub later : ℕ → ℕ → Bool
later v x = nat_lt v x

counted : (v x : ℕ) (xs : List ℕ) (b : Bool)
    → length (filter (later v) xs) ≤ length xs
    → length (cond b (x ∷ filter (later v) xs) (filter (later v) xs)) ≤ length (x ∷ xs)
counted v x xs true h = omega (arith, h)
counted v x xs false h = omega (arith, h)

length_filter : (v : ℕ) (xs : List ℕ) → length (filter (later v) xs) ≤ length xs
length_filter v [] = omega arith
length_filter v (x ∷ xs) = counted v x xs (later v x) (length_filter v xs)

none_counted : (v : ℕ) (xs : List ℕ) → ((x : ℕ) → IsMember x xs → x ≤ v) → filter (later v) xs ≡ []
none_counted v [] h = refl
none_counted v (x ∷ xs) h =
    ap (λ (b : Bool). cond b (x ∷ filter (later v) xs) (filter (later v) xs))
    (le-ltb v x (h x (inl refl)))
    ∙ none_counted v xs (λ y m. h y (inr m))

pub all_counted : (v : ℕ) (xs : List ℕ) → ((x : ℕ) → IsMember x xs → v < x) → filter (later v) xs ≡ xs
all_counted v [] h = refl
all_counted v (x ∷ xs) h =
    ap (λ (b : Bool). cond b (x ∷ filter (later v) xs) (filter (later v) xs))
    (lt-ltb v x (h x (inl refl)))
    ∙ ap (λ (ys : List ℕ). x ∷ ys) (all_counted v xs (λ y m. h y (inr m)))

-- Where none of the first part is newer, no more are newer than the second has.
pub few_newer : (v : ℕ) (gone win : List ℕ) → ((x : ℕ) → IsMember x gone → x ≤ v)
    → length (filter (later v) (gone ++ win)) ≤ length win
few_newer v gone win none =
    let e : filter (later v) (gone ++ win) ≡ filter (later v) win =
    filter-append (later v) gone win
    ∙ ap (λ (xs : List ℕ). xs ++ filter (later v) win) (none_counted v gone none) in
    subst (λ (xs : List ℕ). length xs ≤ length win) (sym e) (length_filter v win)

-- Where all of the second part are newer, as many are newer.
pub many_newer : (v : ℕ) (gone win : List ℕ) → ((x : ℕ) → IsMember x win → v < x)
    → length win ≤ length (filter (later v) (gone ++ win))
many_newer v gone win all =
    let e : filter (later v) (gone ++ win) ≡ filter (later v) gone ++ win =
    filter-append (later v) gone win
    ∙ ap (λ (xs : List ℕ). filter (later v) gone ++ xs) (all_counted v win all) in
    subst (λ (xs : List ℕ). length win ≤ length xs) (sym e)
    (omega (arith, length-append (filter (later v) gone) win))

grown_put : (v u x : ℕ) (xs : List ℕ) (a b : Bool)
    → length (filter (later v) xs) ≤ length (filter (later v) (with_time u xs))
    → length (filter (later v) (x ∷ xs)) ≤ length (filter (later v) (put u x xs a b))
grown_put v u x xs true b h = omega arith
grown_put v u x xs false true h = one (later v u) (filter (later v) (x ∷ xs))
  where
    one : (c : Bool) (ys : List ℕ) → length ys ≤ length (cond c (u ∷ ys) ys)
    one true ys = omega arith
    one false ys = omega arith
grown_put v u x xs false false h =
    one (later v x) (filter (later v) xs) (filter (later v) (with_time u xs)) h
  where
    one : (c : Bool) (ys zs : List ℕ) → length ys ≤ length zs
        → length (cond c (x ∷ ys) ys) ≤ length (cond c (x ∷ zs) zs)
    one true ys zs le = omega (arith, le)
    one false ys zs le = le

grown_with : (v u : ℕ) (xs : List ℕ)
    → length (filter (later v) xs) ≤ length (filter (later v) (with_time u xs))
grown_with v u [] = omega arith
grown_with v u (x ∷ xs) = grown_put v u x xs (eqb x u) (nat_lt u x) (grown_with v u xs)

-- No fewer are newer after more have come.
pub grown : (v : ℕ) (vs us : List ℕ)
    → length (filter (later v) vs) ≤ length (filter (later v) (in_order_behind vs us))
grown v vs [] = omega arith
grown v vs (u ∷ us) =
    let one : length (filter (later v) vs) ≤ length (filter (later v) (with_time u vs)) =
    grown_with v u vs in
    let rest : length (filter (later v) (with_time u vs))
    ≤ length (filter (later v) (in_order_behind (with_time u vs) us)) =
    grown v (with_time u vs) us in omega (arith, one, rest)
