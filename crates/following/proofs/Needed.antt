-- How many frames hold a stream of times that come in an order.
use Rattle.std.proofs.Common.{◌≡◌, ℕ, suc, ◌+◌, ◌-◌, ◌<◌, ◌≤◌, ◌⊎◌, inl, inr, Bool, true, false}
use Rattle.std.proofs.Common.{cond, eqb, List, [], ◌∷◌, ◌++◌, length, map, drop, Option, refl, sym}
use Rattle.std.proofs.Common.{ap, subst, ◌∙◌, arith, append_assoc, append-nil}
use Rattle.std.specs.Prelude.{nat_lt, max}
use Rattle.std.specs.List.{AllByRecursion, filter, insert}
use Rattle.std.proofs.lemmas.Bool.{cases_lt, eq-eqb, eqb-false, eqb-true, le-ltb, lt-ltb, ltb-false}
use Rattle.std.proofs.lemmas.Bool.{ltb-true, ne_eqb}
use Rattle.std.proofs.lemmas.List.{length-map}
use Rattle.st_format.specs.Member.{IsMember}
use Rattle.following.specs.Acts.{AreNearby}
use Rattle.following.specs.Need.{Noted, need_at, newest_after, newest_with, none_noted, noted_at}
use Rattle.following.specs.Need.{noted_behind}
use Rattle.following.specs.Serial.{wrapped}
use Rattle.following.specs.Standing.{is_that, is_there, place_in}
use Rattle.following.specs.Times.{AreWithin, IsOrderly, in_order, newer_than, with_time}
use Rattle.following.proofs.Insertions.{AllNear, count_older, insert-map, less_than, not_there}
use Rattle.following.proofs.Insertions.{place_near, there}
use Rattle.following.proofs.Ordered.{Rises, few_newer, in_order-more, later, length-with_time}
use Rattle.following.proofs.Ordered.{order_from, parts_rise, rises_behind, rises_last}
use Rattle.following.proofs.Ordered.{with_time-behind, with_time-there}
use Rattle.following.proofs.Rising.{all_member}

-- ---- members

member_or : (u : ℕ) (vs : List ℕ) → IsMember u vs ⊎ (IsMember u vs → ⊥)
member_or u [] = inr (λ m. m)
member_or u (v ∷ vs) = or_at u v vs (eqb u v) refl (member_or u vs)
  where
    or_at : (u v : ℕ) (vs : List ℕ) (b : Bool) → eqb u v ≡ b
        → IsMember u vs ⊎ (IsMember u vs → ⊥) → IsMember u (v ∷ vs) ⊎ (IsMember u (v ∷ vs) → ⊥)
    or_at u v vs true e rest = inl (inl (eqb-true u v e))
    or_at u v vs false e (inl m) = inl (inr m)
    or_at u v vs false e (inr unlike) =
        inr (λ m. elim m [ inl s ↦ eqb-false u v e s | inr k ↦ unlike k ])

member_right : (u : ℕ) (xs ys : List ℕ) → IsMember u ys → IsMember u (xs ++ ys)
member_right u [] ys m = m
member_right u (x ∷ xs) ys m = inr (member_right u xs ys m)

-- ---- how many of some are newer

most_at : (b : Bool) (v : ℕ) (fs : List ℕ) (n : ℕ) → length fs ≤ n
    → length (cond b (v ∷ fs) fs) ≤ suc n
most_at true v fs n le = omega (arith, le)
most_at false v fs n le = omega (arith, le)

newer_most : (u : ℕ) (vs : List ℕ) → length (filter (later u) vs) ≤ length vs
newer_most u [] = omega arith
newer_most u (v ∷ vs) =
    most_at (nat_lt u v) v (filter (later u) vs) (length vs) (newer_most u vs)

not_both : (u v : ℕ) → nat_lt v u ≡ true → nat_lt u v ≡ true → ⊥
not_both u v less more =
    let lt : v < u = ltb-true v u less in
    let gt : u < v = ltb-true u v more in omega (arith, lt, gt)

count_at : (u v c n : ℕ) (fs : List ℕ) (a b : Bool) → nat_lt v u ≡ a → nat_lt u v ≡ b
    → length fs ≤ n → length fs + c ≤ n → length (cond b (v ∷ fs) fs) + cond a (suc c) 0 ≤ suc n
count_at u v c n fs true true less more most rest = absurd (not_both u v less more)
count_at u v c n fs true false less more most rest = omega (arith, rest)
count_at u v c n fs false true less more most rest = omega (arith, most)
count_at u v c n fs false false less more most rest = omega (arith, most)

-- those that are newer, and those that are older
newer_count : (u : ℕ) (vs : List ℕ) → length (filter (later u) vs) + count_older u vs ≤ length vs
newer_count u [] = omega arith
newer_count u (v ∷ vs) =
    count_at u v (count_older u vs) (length vs) (filter (later u) vs) (nat_lt v u) (nat_lt u v) refl
    refl (newer_most u vs) (newer_count u vs)

inside_at : (u v c n : ℕ) (fs : List ℕ) (a b : Bool) → nat_lt v u ≡ a → nat_lt u v ≡ b
    → length fs ≤ n → (u ≡ v) ⊎ ((v < u) × (length fs + c < n))
    → length (cond b (v ∷ fs) fs) + cond a (suc c) 0 < suc n
inside_at u v c n fs true b less more most (inl same) =
    let lt : v < u = ltb-true v u less in absurd (omega (arith, lt, same))
inside_at u v c n fs false true less more most (inl same) =
    let lt : u < v = ltb-true u v more in absurd (omega (arith, lt, same))
inside_at u v c n fs false false less more most (inl same) = omega (arith, most)
inside_at u v c n fs true true less more most (inr rest) = absurd (not_both u v less more)
inside_at u v c n fs true false less more most (inr rest) =
    let lt = rest.1 in omega (arith, lt)
inside_at u v c n fs false b less more most (inr rest) =
    let le : u ≤ v = ltb-false v u less in
    let lt = rest.0 in absurd (omega (arith, le, lt))

-- and itself, where it is one of them
there_count : (u : ℕ) (vs : List ℕ) → Rises vs → IsMember u vs
    → length (filter (later u) vs) + count_older u vs < length vs
there_count u [] h m = absurd m
there_count u (v ∷ vs) h (inl same) =
    inside_at u v (count_older u vs) (length vs) (filter (later u) vs) (nat_lt v u) (nat_lt u v)
    refl refl (newer_most u vs) (inl same)
there_count u (v ∷ vs) h (inr m) =
    inside_at u v (count_older u vs) (length vs) (filter (later u) vs) (nat_lt v u) (nat_lt u v)
    refl refl (newer_most u vs)
    (inr (all_member (λ x. v < x) u vs h.0 m, there_count u vs h.1 m))

-- of what has gone none is
gone_none : (u : ℕ) (gone win : List ℕ) → ((x : ℕ) → IsMember x gone → x ≤ u)
    → filter (later u) (gone ++ win) ≡ filter (later u) win
gone_none u [] win none = refl
gone_none u (x ∷ gone) win none =
    ap (λ (b : Bool). cond b (x ∷ filter (later u) (gone ++ win)) (filter (later u) (gone ++ win)))
    (le-ltb u x (none x (inl refl)))
    ∙ gone_none u gone win (λ y m. none y (inr m))

-- ---- a time that is older than a window

abbrev put : ℕ → ℕ → List ℕ → Bool → Bool → List ℕ
put u v vs a b = cond a (v ∷ vs) (cond b (u ∷ v ∷ vs) (v ∷ with_time u vs))

before_at : (u x : ℕ) (gone win : List ℕ) (a b : Bool)
    → with_time u (gone ++ win) ≡ with_time u gone ++ win
    → put u x (gone ++ win) a b ≡ put u x gone a b ++ win
before_at u x gone win true b rest = refl
before_at u x gone win false true rest = refl
before_at u x gone win false false rest = ap (λ (l : List ℕ). x ∷ l) rest

apart : (u v : ℕ) → u < v → v ≡ u → ⊥
apart u v lt e = omega arith

-- it is put among what has gone
with_time-before : (u v : ℕ) (gone win : List ℕ) → u < v
    → with_time u (gone ++ v ∷ win) ≡ with_time u gone ++ v ∷ win
with_time-before u v [] win lt =
    ap (λ (a : Bool). put u v win a (nat_lt u v)) (ne_eqb v u (apart u v lt))
    ∙ ap (λ (b : Bool). put u v win false b) (lt-ltb u v lt)
with_time-before u v (x ∷ gone) win lt =
    before_at u x gone (v ∷ win) (eqb x u) (nat_lt u x) (with_time-before u v gone win lt)

-- ---- what is noted, and the times that came

-- The newest of the times that came are noted: all, or the last 16.
pub record Holds (before newest : List ℕ) : Type 0 where
  pub gone : List ℕ
  pub win : List ℕ
  pub order : in_order before ≡ gone ++ win
  pub noted : newest ≡ map wrapped win
  pub few : length win ≤ 16
  pub full : (gone ≡ []) ⊎ (length win ≡ 16)

rising : (before gone win : List ℕ) → in_order before ≡ gone ++ win → Rises (gone ++ win)
rising before gone win order = subst Rises order (rises_behind [] before tt)

holds_none : Holds [] []
holds_none = record {
  gone = [];
  win = [];
  order = refl;
  noted = refl;
  few = omega arith;
  full = inl refl;
}

-- one that came before
inside_same : (u : ℕ) (win : List ℕ) → Rises win → IsMember u win
    → is_there (map wrapped win) (count_older u win) (wrapped u) ≡ true
inside_same u win h m =
    ap (λ (o : Option ℕ). is_that o (wrapped u)) (there u win h m) ∙ eq-eqb (wrapped u) (wrapped u) refl

holds_inside : (before newest : List ℕ) (u : ℕ) → (h : Holds before newest) → AllNear u h.win
    → IsMember u h.win
    → Holds (before ++ u ∷ [])
    (newest_after (map wrapped h.win) (count_older u h.win) (wrapped u))
holds_inside before newest u h near m =
    let rises = rising before h.gone h.win h.order in
    let w : List ℕ = map wrapped h.win in
    record {
      gone = h.gone;
      win = h.win;
      order =
          in_order-more [] before u ∙ ap (with_time u) h.order
          ∙ with_time-there u (h.gone ++ h.win) rises (member_right u h.gone h.win m);
      noted = ap (λ (b : Bool). cond b w (newest_with w (count_older u h.win) (wrapped u)))
          (inside_same u h.win (rises_last h.gone h.win rises) m);
      few = h.few;
      full = h.full;
    }

-- a new one, where there is room
room_with : (u : ℕ) (win : List ℕ) → length win < 16 → (IsMember u win → ⊥)
    → newest_with (map wrapped win) (count_older u win) (wrapped u)
    ≡ map wrapped (with_time u win)
room_with u win lt out =
    let w : List ℕ = map wrapped win in
    let c : ℕ = count_older u win in
    ap (λ (n : ℕ). cond (nat_lt n 16) (insert w c (wrapped u))
    (cond (eqb c 0) w (insert (drop 1 w) (c - 1) (wrapped u))))
    (length-map win wrapped)
    ∙ ap (λ (b : Bool). cond b (insert w c (wrapped u))
    (cond (eqb c 0) w (insert (drop 1 w) (c - 1) (wrapped u))))
    (lt-ltb (length win) 16 lt)
    ∙ insert-map wrapped u win out

holds_room : (before : List ℕ) (u : ℕ) (gone win : List ℕ) → in_order before ≡ gone ++ win
    → gone ≡ [] → length win < 16 → (IsMember u win → ⊥)
    → Holds (before ++ u ∷ []) (newest_with (map wrapped win) (count_older u win) (wrapped u))
holds_room before u gone win order none lt out =
    let n = length-with_time u win out in
    record {
      gone = [];
      win = with_time u win;
      order =
          in_order-more [] before u ∙ ap (with_time u) order
          ∙ ap (λ (g : List ℕ). with_time u (g ++ win)) none;
      noted = room_with u win lt out;
      few = omega (arith, n, lt);
      full = inl refl;
    }

-- one where there is none
full_with : (u v : ℕ) (win : List ℕ) (c : ℕ) → length (v ∷ win) ≡ 16
    → newest_with (map wrapped (v ∷ win)) c (wrapped u)
    ≡ cond (eqb c 0) (map wrapped (v ∷ win)) (insert (map wrapped win) (c - 1) (wrapped u))
full_with u v win c full =
    let w : List ℕ = map wrapped (v ∷ win) in
    let rest : List ℕ = cond (eqb c 0) w (insert (map wrapped win) (c - 1) (wrapped u)) in
    ap (λ (n : ℕ). cond (nat_lt n 16) (insert w c (wrapped u)) rest)
    (length-map (v ∷ win) wrapped ∙ full)
    ∙ ap (λ (b : Bool). cond b (insert w c (wrapped u)) rest) (le-ltb 16 16 (omega arith))

some_older : (c : ℕ) → suc c ≡ 0 → ⊥
some_older c e = omega (arith, e)

less_one : (c : ℕ) → suc c - 1 ≡ c
less_one c = omega arith

all_less : (gone : List ℕ) (v u : ℕ) (win : List ℕ) → Rises (gone ++ v ∷ win) → v < u
    → AllByRecursion (λ x. x < u) (gone ++ v ∷ [])
all_less [] v u win h lt = (lt, tt)
all_less (g ∷ gone) v u win h lt =
    let less : g < v = all_member (λ x. g < x) v (gone ++ v ∷ win) h.0
    (member_right v gone (v ∷ win) (inl refl)) in
    (omega (arith, less, lt), all_less gone v u win h.1 lt)

holds_full : (before : List ℕ) (u v : ℕ) (gone win : List ℕ) (b : Bool) → nat_lt v u ≡ b
    → in_order before ≡ gone ++ v ∷ win → length (v ∷ win) ≡ 16 → (IsMember u (v ∷ win) → ⊥)
    → Holds (before ++ u ∷ [])
    (newest_with (map wrapped (v ∷ win)) (cond b (suc (count_older u win)) 0) (wrapped u))
holds_full before u v gone win true less order full out =
    let lt : v < u = ltb-true v u less in
    let c : ℕ = count_older u win in
    let w : List ℕ = map wrapped (v ∷ win) in
    let n = length-with_time u win (λ m. out (inr m)) in
    let rises = rising before gone (v ∷ win) order in
    record {
      gone = gone ++ v ∷ [];
      win = with_time u win;
      order =
          in_order-more [] before u ∙ ap (with_time u) (order ∙ sym (append_assoc gone (v ∷ []) win))
          ∙ with_time-behind u (gone ++ v ∷ []) win (all_less gone v u win rises lt);
      noted =
          full_with u v win (suc c) full
          ∙ ap (λ (b : Bool). cond b w (insert (map wrapped win) (suc c - 1) (wrapped u)))
          (ne_eqb (suc c) 0 (some_older c))
          ∙ ap (λ (i : ℕ). insert (map wrapped win) i (wrapped u)) (less_one c)
          ∙ insert-map wrapped u win (λ m. out (inr m));
      few = omega (arith, n, full);
      full = inr (n ∙ full);
    }
holds_full before u v gone win false less order full out =
    let lt : u < v = less_than u v (λ s. out (inl s)) (ltb-false v u less) in
    let w : List ℕ = map wrapped (v ∷ win) in
    record {
      gone = with_time u gone;
      win = v ∷ win;
      order =
          in_order-more [] before u ∙ ap (with_time u) order ∙ with_time-before u v gone win lt;
      noted =
          full_with u v win 0 full
          ∙ ap (λ (b : Bool). cond b w (insert (map wrapped win) (0 - 1) (wrapped u)))
          (eq-eqb 0 0 refl);
      few = omega (arith, full);
      full = inr full;
    }

holds_new : (before : List ℕ) (u : ℕ) (gone win : List ℕ) → in_order before ≡ gone ++ win
    → (gone ≡ []) ⊎ (length win ≡ 16) → length win ≤ 16 → (IsMember u win → ⊥)
    → (length win < 16) ⊎ (16 ≤ length win)
    → Holds (before ++ u ∷ []) (newest_with (map wrapped win) (count_older u win) (wrapped u))
holds_new before u gone win order (inl none) few out (inl lt) =
    holds_room before u gone win order none lt out
holds_new before u gone win order (inr full) few out (inl lt) = absurd (omega (arith, full, lt))
holds_new before u gone [] order which few out (inr ge) = absurd (omega (arith, ge))
holds_new before u gone (v ∷ win) order which few out (inr ge) =
    holds_full before u v gone win (nat_lt v u) refl order (omega (arith, few, ge)) out

holds_outside : (before newest : List ℕ) (u : ℕ) → (h : Holds before newest) → AllNear u h.win
    → (IsMember u h.win → ⊥)
    → Holds (before ++ u ∷ [])
    (newest_after (map wrapped h.win) (count_older u h.win) (wrapped u))
holds_outside before newest u h near out =
    let w : List ℕ = map wrapped h.win in
    let c : ℕ = count_older u h.win in
    let stays = not_there u h.win c near out in
    subst (λ (b : Bool). Holds (before ++ u ∷ []) (cond b w (newest_with w c (wrapped u))))
    (sym stays)
    (holds_new before u h.gone h.win h.order h.full h.few out (cases_lt (length h.win) 16))

holds_either : (before newest : List ℕ) (u : ℕ) → (h : Holds before newest) → AllNear u h.win
    → IsMember u h.win ⊎ (IsMember u h.win → ⊥)
    → Holds (before ++ u ∷ [])
    (newest_after (map wrapped h.win) (count_older u h.win) (wrapped u))
holds_either before newest u h near (inl m) = holds_inside before newest u h near m
holds_either before newest u h near (inr out) = holds_outside before newest u h near out

-- what is noted by the timestamps is what is by the times
noted_is : (before newest : List ℕ) (u : ℕ) → (h : Holds before newest) → AllNear u h.win
    → newest_after newest (place_in (wrapped u) newest) (wrapped u)
    ≡ newest_after (map wrapped h.win) (count_older u h.win) (wrapped u)
noted_is before newest u h near =
    ap (λ (w : List ℕ). newest_after w (place_in (wrapped u) w) (wrapped u)) h.noted
    ∙ ap (λ (p : ℕ). newest_after (map wrapped h.win) p (wrapped u)) (place_near u h.win near)

holds_more : (before : List ℕ) (n : Noted) (u : ℕ) → (h : Holds before n.newest)
    → AllNear u h.win → Holds (before ++ u ∷ []) (noted_at n (wrapped u)).newest
holds_more before n u h near =
    subst (λ (w : List ℕ). Holds (before ++ u ∷ []) w) (sym (noted_is before n.newest u h near))
    (holds_either before n.newest u h near (member_or u h.win))

-- ---- how many are needed at a time

need_is : (before newest : List ℕ) (u : ℕ) → (h : Holds before newest) → AllNear u h.win
    → need_at newest (place_in (wrapped u) newest) (wrapped u)
    ≡ need_at (map wrapped h.win) (count_older u h.win) (wrapped u)
need_is before newest u h near =
    ap (λ (w : List ℕ). need_at w (place_in (wrapped u) w) (wrapped u)) h.noted
    ∙ ap (λ (p : ℕ). need_at (map wrapped h.win) p (wrapped u)) (place_near u h.win near)

newer_is : (before gone win : List ℕ) (u : ℕ) → in_order before ≡ gone ++ win
    → ((x : ℕ) → IsMember x gone → x ≤ u)
    → length (newer_than u before) ≡ length (filter (later u) win)
newer_is before gone win u order none =
    ap (λ (l : List ℕ). length (filter (later u) l)) order
    ∙ ap (λ (l : List ℕ). length l) (gone_none u gone win none)

-- so of one that came before
need_inside : (before newest : List ℕ) (u : ℕ) → (h : Holds before newest) → IsMember u h.win
    → length (newer_than u before)
    < need_at (map wrapped h.win) (count_older u h.win) (wrapped u)
need_inside before newest u h m =
    let rises = rising before h.gone h.win h.order in
    let right = rises_last h.gone h.win rises in
    let w : List ℕ = map wrapped h.win in
    let c : ℕ = count_older u h.win in
    let need : need_at w c (wrapped u) ≡ length h.win - c =
    ap (λ (b : Bool). cond b (length w - c) (length w - c + 1)) (inside_same u h.win right m)
    ∙ ap (λ (n : ℕ). n - c) (length-map h.win wrapped) in
    let newer = newer_is before h.gone h.win u h.order
    (λ x k. less (parts_rise x u h.gone h.win rises k m)) in
    let count = there_count u h.win right m in
    omega (arith, need, newer, count)
  where
    less : {x u : ℕ} → x < u → x ≤ u
    less lt = omega arith

need_outside_at : (before : List ℕ) (u : ℕ) (gone win : List ℕ) (need : ℕ)
    → in_order before ≡ gone ++ win → need ≡ length win - count_older u win + 1
    → ((x : ℕ) → IsMember x gone → x ≤ u) → length (newer_than u before) < need
need_outside_at before u gone win need order is none =
    let newer = newer_is before gone win u order none in
    let count = newer_count u win in
    omega (arith, is, newer, count)

-- what has gone is older, unless all 16 that are noted are newer
gone_older : (before : List ℕ) (u v : ℕ) (gone win : List ℕ) (b : Bool) → nat_lt v u ≡ b
    → in_order before ≡ gone ++ v ∷ win → length (v ∷ win) ≡ 16
    → length (v ∷ win) - cond b (suc (count_older u win)) 0 + 1 ≤ 16 → (x : ℕ) → IsMember x gone
    → x ≤ u
gone_older before u v gone win true less order full most x m =
    let lt : v < u = ltb-true v u less in
    let older : x < v = parts_rise x v gone (v ∷ win) (rising before gone (v ∷ win) order) m
    (inl refl) in
    omega (arith, lt, older)
gone_older before u v gone win false less order full most x m = absurd (omega (arith, full, most))

none_gone : (u : ℕ) (gone : List ℕ) → gone ≡ [] → (x : ℕ) → IsMember x gone → x ≤ u
none_gone u gone none x m =
    absurd (subst (λ (l : List ℕ). IsMember x l) none m)

gone_by : (before : List ℕ) (u : ℕ) (gone win : List ℕ) → in_order before ≡ gone ++ win
    → (gone ≡ []) ⊎ (length win ≡ 16) → length win - count_older u win + 1 ≤ 16 → (x : ℕ)
    → IsMember x gone → x ≤ u
gone_by before u gone win order (inl none) most = none_gone u gone none
gone_by before u gone [] order (inr full) most = absurd (omega (arith, full))
gone_by before u gone (v ∷ win) order (inr full) most =
    gone_older before u v gone win (nat_lt v u) refl order full most

need_outside : (before newest : List ℕ) (u : ℕ) → (h : Holds before newest) → AllNear u h.win
    → (IsMember u h.win → ⊥)
    → need_at (map wrapped h.win) (count_older u h.win) (wrapped u) ≤ 16
    → length (newer_than u before)
    < need_at (map wrapped h.win) (count_older u h.win) (wrapped u)
need_outside before newest u h near out most =
    let w : List ℕ = map wrapped h.win in
    let c : ℕ = count_older u h.win in
    let need : need_at w c (wrapped u) ≡ length h.win - c + 1 =
    ap (λ (b : Bool). cond b (length w - c) (length w - c + 1)) (not_there u h.win c near out)
    ∙ ap (λ (n : ℕ). n - c + 1) (length-map h.win wrapped) in
    need_outside_at before u h.gone h.win (need_at w c (wrapped u)) h.order need
    (gone_by before u h.gone h.win h.order h.full (omega (arith, need, most)))

need_either : (before newest : List ℕ) (u : ℕ) → (h : Holds before newest) → AllNear u h.win
    → IsMember u h.win ⊎ (IsMember u h.win → ⊥)
    → need_at (map wrapped h.win) (count_older u h.win) (wrapped u) ≤ 16
    → length (newer_than u before)
    < need_at (map wrapped h.win) (count_older u h.win) (wrapped u)
need_either before newest u h near (inl m) most = need_inside before newest u h m
need_either before newest u h near (inr out) most = need_outside before newest u h near out most

pub need_newer : (before newest : List ℕ) (u : ℕ) → (h : Holds before newest) → AllNear u h.win
    → need_at newest (place_in (wrapped u) newest) (wrapped u) ≤ 16
    → length (newer_than u before) < need_at newest (place_in (wrapped u) newest) (wrapped u)
need_newer before newest u h near most =
    let is = need_is before newest u h near in
    let less = need_either before newest u h near (member_or u h.win) (omega (arith, is, most)) in
    omega (arith, is, less)

-- ---- a stream

-- those that are noted are near
near_win : (us before after newest : List ℕ) (u : ℕ) → AreNearby 16 us → us ≡ before ++ u ∷ after
    → (h : Holds before newest) → AllNear u h.win
near_win us before after newest u near parts h v m =
    let rises = rising before h.gone h.win h.order in
    let inside : IsMember v (in_order before) =
    subst (λ (l : List ℕ). IsMember v l) (sym h.order) (member_right v h.gone h.win m) in
    let few : length (newer_than v before) ≤ length h.win =
    subst (λ (l : List ℕ). length (filter (later v) l) ≤ length h.win) (sym h.order)
    (few_newer v h.gone h.win (λ x k. less (parts_rise x v h.gone h.win rises k m))) in
    near before after u v parts (came v before (order_from v [] before inside))
    (omega (arith, few, h.few))
  where
    less : {x u : ℕ} → x < u → x ≤ u
    less lt = omega arith

    came : (v : ℕ) (before : List ℕ) → IsMember v [] ⊎ IsMember v before → IsMember v before
    came v before (inl m) = absurd m
    came v before (inr m) = m

holds_behind : (us before rest after : List ℕ) (n : Noted) → AreNearby 16 us
    → us ≡ before ++ (rest ++ after) → Holds before n.newest
    → Holds (before ++ rest) (noted_behind n (map wrapped rest)).newest
holds_behind us before [] after n near parts h =
    subst (λ (l : List ℕ). Holds l n.newest) (sym (append-nil before)) h
holds_behind us before (u ∷ rest) after n near parts h =
    let next = holds_more before n u h
    (near_win us before (rest ++ after) n.newest u near parts h) in
    subst (λ (l : List ℕ). Holds l (noted_behind (noted_at n (wrapped u)) (map wrapped rest)).newest)
    (append_assoc before (u ∷ []) rest)
    (holds_behind us (before ++ u ∷ []) rest after (noted_at n (wrapped u)) near
    (parts ∙ sym (append_assoc before (u ∷ []) (rest ++ after))) next)

-- what is needed only grows
need_grows : (n : Noted) (ts : List ℕ) → n.need ≤ (noted_behind n ts).need
need_grows n [] = omega arith
need_grows n (t ∷ ts) =
    let rest = need_grows (noted_at n t) ts in
    let one = at_least n.need (need_at n.newest (place_in t n.newest) t) in
    omega (arith, rest, one)
  where
    at_least : (a b : ℕ) → a ≤ max a b
    at_least a b = omega arith

behind_append : (n : Noted) (first rest : List ℕ)
    → noted_behind n (first ++ rest) ≡ noted_behind (noted_behind n first) rest
behind_append n [] rest = refl
behind_append n (t ∷ first) rest = behind_append (noted_at n t) first rest

map_append : (first rest : List ℕ) → map wrapped (first ++ rest) ≡ map wrapped first ++ map wrapped rest
map_append [] rest = refl
map_append (u ∷ first) rest = ap (λ (l : List ℕ). wrapped u ∷ l) (map_append first rest)

-- at each time no more was needed than in the end
needed_at : (before after : List ℕ) (u : ℕ)
    → (let n : Noted = noted_behind none_noted (map wrapped before) in
    need_at n.newest (place_in (wrapped u) n.newest) (wrapped u))
    ≤ (noted_behind none_noted (map wrapped (before ++ u ∷ after))).need
needed_at before after u =
    let n : Noted = noted_behind none_noted (map wrapped before) in
    let at : ℕ = need_at n.newest (place_in (wrapped u) n.newest) (wrapped u) in
    let grows = need_grows (noted_at n (wrapped u)) (map wrapped after) in
    let one = at_most n.need at in
    subst (λ (m : Noted). at ≤ m.need)
    (sym (ap (noted_behind none_noted) (map_append before (u ∷ after))
    ∙ behind_append none_noted (map wrapped before) (map wrapped (u ∷ after))))
    (omega (arith, grows, one))
  where
    at_most : (a b : ℕ) → b ≤ max a b
    at_most a b = omega arith

-- A follower of as many frames as are needed follows the stream: none comes too late.
pub needed_orderly : (size ahead : ℕ) (us : List ℕ) → AreNearby 16 us → AreWithin ahead us
    → size ≤ 16 → (noted_behind none_noted (map wrapped us)).need ≤ size → IsOrderly size ahead us
needed_orderly size ahead us near within few enough = record {
  in_time = λ before after u parts. in_time_at size us before after u near few enough parts;
  near = λ before after u v parts m le. near before after u v parts m (omega (arith, le, few));
  within = within;
}
  where
    in_time_at : (size : ℕ) (us before after : List ℕ) (u : ℕ) → AreNearby 16 us → size ≤ 16
        → (noted_behind none_noted (map wrapped us)).need ≤ size → us ≡ before ++ u ∷ after
        → length (newer_than u before) < size
    in_time_at size us before after u near few enough parts =
        let n : Noted = noted_behind none_noted (map wrapped before) in
        let at : ℕ = need_at n.newest (place_in (wrapped u) n.newest) (wrapped u) in
        let h = holds_behind us [] before (u ∷ after) none_noted near parts holds_none in
        let most : at ≤ (noted_behind none_noted (map wrapped us)).need =
        subst (λ (l : List ℕ). at ≤ (noted_behind none_noted (map wrapped l)).need) (sym parts)
        (needed_at before after u) in
        let less = need_newer before n.newest u h (near_win us before after n.newest u near parts h)
        (omega (arith, most, enough, few)) in
        omega (arith, less, most, enough)
