-- What a follower hands out of a whole list of datagrams.
use Rattle.std.proofs.Common.{◌≡◌, ℕ, suc, ◌+◌, ◌<◌, ◌≤◌, ◌⊎◌, inl, inr, Bool, true, false, cond}
use Rattle.std.proofs.Common.{List, [], ◌∷◌, ◌++◌, length, map, take, Option, None, Some, Result}
use Rattle.std.proofs.Common.{Ok, Err, refl, sym, ap, ◌∙◌, subst, arith, append_assoc, append-nil}
use Rattle.std.specs.List.{AllByRecursion, filter}
use Rattle.std.proofs.lemmas.Bool.{cases_eq, cases_lt}
use Rattle.std.proofs.lemmas.List.Concat.{flat_map-append}
use Rattle.st_format.specs.Member.{IsMember}
use Rattle.st_format.proofs.Members.{member_cases, member_left, member_right}
use Rattle.st_format.specs.Raster.{Raster}
use Rattle.path_receiver.specs.declared.answer.Refusal.{Refusal}
use Rattle.path_receiver.specs.Grammar.{Datagram}
use Rattle.path_receiver.specs.Opening.{Opening}
use Rattle.following.specs.Serial.{wrapped}
use Rattle.following.specs.Standing.{is_beyond}
use Rattle.following.specs.Follower.{Following, opened, reading_of, state_after, without_oldest}
use Rattle.following.specs.Following.{Handed, frames_in, handed_out, is_due}
use Rattle.following.specs.Times.{AreTimed, IsGreatest, IsNear, IsOrderly, Timed, handed_at}
use Rattle.following.specs.Times.{in_order, newer_than, octets_of, time_if, time_of, times_of}
use Rattle.following.specs.Times.{with_time, in_order_behind}
use Rattle.following.proofs.FrameLemmas.{frame_kept}
use Rattle.following.proofs.Insertions.{AllNear, IsInReach, IsPast}
use Rattle.following.proofs.Newest.{last_in, last_of, newest-map, time_within}
use Rattle.following.proofs.Ordered.{Rises, few_newer, grown, in_order-append, in_order-more}
use Rattle.following.proofs.Ordered.{length-with_time, many_newer, order_from, order_keeps}
use Rattle.following.proofs.Ordered.{parts_rise, rises_behind, rises_last, with_time-behind}
use Rattle.following.proofs.Ordered.{from_times, later, with_time-there}
use Rattle.following.proofs.Rising.{all_member}
use Rattle.following.proofs.Windows.{after-inside, after-new, after-refused, due-full, due-inside}
use Rattle.following.proofs.Windows.{due-new, due-refused, frames_in-shaped, shaped}

-- ---- what has gone, and what is in

-- so many frames are in, and this one went last
pub record HasGone (size : ℕ) (gone : List ℕ) (g : ℕ) (win : List ℕ) : Type 0 where
  pub front : List ℕ
  pub is : gone ≡ front ++ g ∷ []
  pub full : length win ≡ size

abbrev pub IsLast : ℕ → List ℕ → Option ℕ → List ℕ → Type 0
IsLast size gone None win = gone ≡ []
IsLast size gone (Some g) win = HasGone size gone g win

-- the times that came, in order, are those that have gone and those that are in
pub record IsStage (o : Opening) (size ahead : ℕ) (xs : List Timed) (gone : List ℕ) (last : Option ℕ)
    (win : List ℕ) : Type 0 where
  pub times : in_order (times_of o xs) ≡ gone ++ win
  pub room : length win ≤ size
  pub last_is : IsLast size gone last win

-- what is handed out from there on is the rest
pub record HandsOut (o : Opening) (size ahead : ℕ) (xs ys : List Timed) (gone : List ℕ)
    (last : Option ℕ) (win : List ℕ) : Type 0 where
  pub rest : List ℕ
  pub order : in_order (times_of o (xs ++ ys)) ≡ gone ++ rest
  pub handed : handed_out (shaped o size ahead xs last win) (octets_of ys)
      ≡ map (handed_at o (xs ++ ys)) rest

pub rises : (o : Opening) (xs : List Timed) (gone win : List ℕ)
    → in_order (times_of o xs) ≡ gone ++ win → Rises (gone ++ win)
rises o xs gone win e = subst Rises e (rises_behind [] (times_of o xs) tt)

-- ---- lists of times

pub times_at : (o : Opening) (xs ys : List Timed) (y : Timed) (d : Datagram)
    → reading_of o y.octets ≡ Ok d
    → times_of o (xs ++ y ∷ ys) ≡ times_of o xs ++ y.time ∷ times_of o ys
times_at o xs ys y d read =
    flat_map-append (time_of o) xs (y ∷ ys)
    ∙ ap (λ (r : Result Datagram Refusal). times_of o xs ++ (time_if y.time r ++ times_of o ys)) read

pub times_refused : (o : Opening) (xs : List Timed) (y : Timed) (e : Refusal)
    → reading_of o y.octets ≡ Err e → times_of o (xs ++ y ∷ []) ≡ times_of o xs
times_refused o xs y e read =
    flat_map-append (time_of o) xs (y ∷ [])
    ∙ ap (λ (r : Result Datagram Refusal). times_of o xs ++ (time_if y.time r ++ [])) read
    ∙ append-nil (times_of o xs)

all_less : (u : ℕ) (xs : List ℕ) → ((x : ℕ) → IsMember x xs → x < u)
    → AllByRecursion (λ x. x < u) xs
all_less u [] h = tt
all_less u (x ∷ xs) h = (h x (inl refl), all_less u xs (λ y m. h y (inr m)))

-- the times in order after one more
pub order_more : (o : Opening) (xs : List Timed) (y : Timed) (d : Datagram) (gone win : List ℕ)
    → reading_of o y.octets ≡ Ok d → in_order (times_of o xs) ≡ gone ++ win
    → ((x : ℕ) → IsMember x gone → x < y.time)
    → in_order (times_of o (xs ++ y ∷ [])) ≡ gone ++ with_time y.time win
order_more o xs y d gone win read times less =
    ap in_order (times_at o xs [] y d read)
    ∙ in_order-more [] (times_of o xs) y.time
    ∙ ap (λ (vs : List ℕ). with_time y.time vs) times
    ∙ with_time-behind y.time gone win (all_less y.time gone less)

member_split : (v : ℕ) (us : List ℕ) → IsMember v us
    → (b : List ℕ) × (a : List ℕ) × (us ≡ b ++ v ∷ a)
member_split v [] m = absurd m
member_split v (x ∷ us) (inl e) = ([], us, ap (λ (y : ℕ). y ∷ us) (sym e))
member_split v (x ∷ us) (inr m) =
    let k = member_split v us m in (x ∷ k.0, k.1, ap (λ (ys : List ℕ). x ∷ ys) k.2)

-- ---- the premises, at one datagram

-- a time that comes next, after those that came
pub record ComesNext (size ahead : ℕ) (us : List ℕ) (u : ℕ) : Type 0 where
  pub in_time : length (newer_than u us) < size
  pub near : (v : ℕ) → IsMember v us → length (newer_than v us) ≤ size → IsNear u v
  pub within : (v : ℕ) → IsGreatest v us → u ≤ v + ahead

comes_next : (o : Opening) (size ahead : ℕ) (xs ys : List Timed) (y : Timed) (d : Datagram)
    → reading_of o y.octets ≡ Ok d → IsOrderly size ahead (times_of o (xs ++ y ∷ ys))
    → ComesNext size ahead (times_of o xs) y.time
comes_next o size ahead xs ys y d read orderly =
    let e = times_at o xs ys y d read in record {
      in_time = orderly.in_time (times_of o xs) (times_of o ys) y.time e;
      near = λ v m few. orderly.near (times_of o xs) (times_of o ys) y.time v e m few;
      within = λ v g. orderly.within (times_of o xs) (times_of o ys) y.time v e g;
    }

pub came : (v : ℕ) (us vs : List ℕ) → in_order us ≡ vs → IsMember v vs → IsMember v us
came v us vs e m =
    elim (order_from v [] us (subst (λ (xs : List ℕ). IsMember v xs) (sym e) m)) [
      | inl k ↦ absurd k
      | inr k ↦ k
    ]

pub few_at : (size v : ℕ) (us gone win : List ℕ) → in_order us ≡ gone ++ win → length win ≤ size
    → ((x : ℕ) → IsMember x gone → x ≤ v) → length (newer_than v us) ≤ size
few_at size v us gone win e room none =
    let k : length (filter (later v) (gone ++ win)) ≤ length win = few_newer v gone win none in
    subst (λ (xs : List ℕ). length (filter (later v) xs) ≤ size) (sym e) (omega (arith, k, room))

-- all that are in are near
near_in : (size ahead u : ℕ) (us gone win : List ℕ) → ComesNext size ahead us u → in_order us ≡ gone ++ win
    → Rises (gone ++ win) → length win ≤ size → AllNear u win
near_in size ahead u us gone win next e h room v m =
    next.near v (came v us (gone ++ win) e (member_right v gone win m))
    (few_at size v us gone win e room (λ x k. le_of (parts_rise x v gone win h k m)))
  where
    le_of : {x v : ℕ} → x < v → x ≤ v
    le_of lt = omega (arith, lt)

-- not all that are in are newer, where there is no room
not_all : (size ahead u : ℕ) (us gone win : List ℕ) → ComesNext size ahead us u → in_order us ≡ gone ++ win
    → size ≤ length win → ((x : ℕ) → IsMember x win → u < x) → ⊥
not_all size ahead u us gone win next e full all =
    let k : length win ≤ length (filter (later u) (gone ++ win)) = many_newer u gone win all in
    let n : length (filter (later u) (gone ++ win)) < size =
    subst (λ (xs : List ℕ). length (filter (later u) xs) < size) e next.in_time in
    absurd (omega (arith, k, n, full))

pub le_last : (x g : ℕ) (front win : List ℕ) → Rises ((front ++ g ∷ []) ++ win)
    → IsMember x (front ++ g ∷ []) → x ≤ g
le_last x g [] win h (inl e) = omega (arith, e)
le_last x g [] win h (inr m) = absurd m
le_last x g (f ∷ front) win h (inl e) =
    let k : f < g =
    all_member (λ u. f < u) g ((front ++ g ∷ []) ++ win) h.0
    (member_left g (front ++ g ∷ []) win (member_right g front (g ∷ []) (inl refl))) in
    omega (arith, e, k)
le_last x g (f ∷ front) win h (inr m) = le_last x g front win h.1 m

-- what went last is older, and near
past_last : (size ahead u g : ℕ) (us gone win : List ℕ) → ComesNext size ahead us u
    → in_order us ≡ gone ++ win → Rises (gone ++ win) → HasGone size gone g win
    → IsPast (Some g) u
past_last size ahead u g us gone win next e h has = (
  older (cases_lt g u),
  next.near g (came g us (gone ++ win) e (member_left g gone win g_gone))
      (few_at size g us gone win e (omega (arith, has.full)) below),
)
  where
    g_gone : IsMember g gone
    g_gone =
        subst (λ (xs : List ℕ). IsMember g xs) (sym has.is)
        (member_right g has.front (g ∷ []) (inl refl))

    below : (x : ℕ) → IsMember x gone → x ≤ g
    below x m =
        le_last x g has.front win (subst (λ (xs : List ℕ). Rises (xs ++ win)) has.is h)
        (subst (λ (xs : List ℕ). IsMember x xs) has.is m)

    newer : u ≤ g → (x : ℕ) → IsMember x win → u < x
    newer le x m = let lt : g < x = parts_rise g x gone win h g_gone m in omega (arith, le, lt)

    older : (g < u) ⊎ (u ≤ g) → g < u
    older (inl lt) = lt
    older (inr le) =
        absurd (not_all size ahead u us gone win next e (omega (arith, has.full)) (newer le))

past_is : (size ahead u : ℕ) (us gone win : List ℕ) (last : Option ℕ) → ComesNext size ahead us u
    → in_order us ≡ gone ++ win → Rises (gone ++ win) → IsLast size gone last win
    → IsPast last u
past_is size ahead u us gone win None next e h is = tt
past_is size ahead u us gone win (Some g) next e h is = past_last size ahead u g us gone win next e h is

-- the one that went last is the end of what has gone
pub record EndsIn (gone : List ℕ) (g : ℕ) : Type 0 where
  pub front : List ℕ
  pub is : gone ≡ front ++ g ∷ []

abbrev pub Ends : List ℕ → Option ℕ → Type 0
Ends gone None = gone ≡ []
Ends gone (Some g) = EndsIn gone g

ends_of : (size : ℕ) (gone : List ℕ) (last : Option ℕ) (win : List ℕ) → IsLast size gone last win
    → Ends gone last
ends_of size before None win is = is
ends_of size before (Some g) win is = record { front = is.front; is = is.is }

pub below_end : (gone win : List ℕ) (g : ℕ) → Rises (gone ++ win) → EndsIn gone g → (x : ℕ)
    → IsMember x gone → x ≤ g
below_end gone win g h ends x m =
    le_last x g ends.front win (subst (λ (xs : List ℕ). Rises (xs ++ win)) ends.is h)
    (subst (λ (xs : List ℕ). IsMember x xs) ends.is m)

pub end_in : (gone : List ℕ) (g : ℕ) → EndsIn gone g → IsMember g gone
end_in gone g ends =
    subst (λ (xs : List ℕ). IsMember g xs) (sym ends.is)
    (member_right g ends.front (g ∷ []) (inl refl))

-- ---- the newest is the greatest

pub le_greatest : (x : ℕ) (w : List ℕ) (y : ℕ) → Rises (x ∷ w) → IsMember y (x ∷ w)
    → y ≤ last_of x w
le_greatest x [] y h (inl e) = omega (arith, e)
le_greatest x [] y h (inr m) = absurd m
le_greatest x (z ∷ w) y h (inl e) =
    let lt : x < last_of z w = all_member (λ u. x < u) (last_of z w) (z ∷ w) h.0 (last_in z w) in
    omega (arith, e, lt)
le_greatest x (z ∷ w) y h (inr m) = le_greatest z w y h.1 m

pub in_parts : (us gone win : List ℕ) (y : ℕ) → in_order us ≡ gone ++ win → IsMember y us
    → IsMember y gone ⊎ IsMember y win
in_parts us gone win y e m =
    member_cases y gone win
    (subst (λ (xs : List ℕ). IsMember y xs) e (order_keeps y [] us (inr m)))

newest_greatest : (us gone : List ℕ) (x : ℕ) (win : List ℕ) → in_order us ≡ gone ++ x ∷ win
    → Rises (gone ++ x ∷ win) → IsGreatest (last_of x win) us
newest_greatest us gone x win e h = record {
  inside = came v us (gone ++ x ∷ win) e (member_right v gone (x ∷ win) (last_in x win));
  all = λ y m. at y (in_parts us gone (x ∷ win) y e m);
}
  where
    v : ℕ
    v = last_of x win

    at : (y : ℕ) → IsMember y gone ⊎ IsMember y (x ∷ win) → y ≤ last_of x win
    at y (inl k) =
        let lt : y < last_of x win =
        parts_rise y (last_of x win) gone (x ∷ win) h k (last_in x win) in omega (arith, lt)
    at y (inr k) = le_greatest x win y (rises_last gone (x ∷ win) h) k

gone_greatest : (us gone : List ℕ) (g : ℕ) → in_order us ≡ gone ++ [] → Rises (gone ++ [])
    → EndsIn gone g → IsGreatest g us
gone_greatest us gone g e h ends = record {
  inside = came g us (gone ++ []) e (member_left g gone [] (end_in gone g ends));
  all = λ y m. at y (in_parts us gone [] y e m);
}
  where
    at : (y : ℕ) → IsMember y gone ⊎ IsMember y [] → y ≤ g
    at y (inl k) = below_end gone [] g h ends y k
    at y (inr k) = absurd k

greatest_near : (size u v : ℕ) (us : List ℕ)
    → ((x : ℕ) → IsMember x us → length (newer_than x us) ≤ size → IsNear u x)
    → IsGreatest v us → IsNear u v
greatest_near size u v us near g =
    near v g.inside
    (few_at size v us (in_order us) [] (sym (append-nil (in_order us))) (omega arith)
    (λ x m. g.all x (came x us (in_order us) refl m)))

-- One that is near the newest, and within the bound, is not too far ahead.
pub in_reach : (size ahead u : ℕ) (us gone win : List ℕ) (last : Option ℕ)
    → ((v : ℕ) → IsMember v us → length (newer_than v us) ≤ size → IsNear u v)
    → ((v : ℕ) → IsGreatest v us → u ≤ v + ahead) → in_order us ≡ gone ++ win
    → Rises (gone ++ win) → Ends gone last → IsInReach ahead last win u
in_reach size ahead u us before [] None near within e h ends = refl
in_reach size ahead u us before [] (Some g) near within e h ends =
    let k : IsGreatest g us = gone_greatest us before g e h ends in
    time_within u g ahead (greatest_near size u g us near k) (within g k)
in_reach size ahead u us before (x ∷ win) last near within e h ends =
    let v : ℕ = last_of x win in
    let k : IsGreatest v us = newest_greatest us before x win e h in
    ap (λ (o : Option ℕ). is_beyond o ahead (wrapped u)) (newest-map x win)
    ∙ time_within u v ahead (greatest_near size u v us near k) (within v k)

reach_next : (size ahead u : ℕ) (us gone win : List ℕ) (last : Option ℕ)
    → ComesNext size ahead us u → in_order us ≡ gone ++ win → Rises (gone ++ win)
    → IsLast size gone last win → IsInReach ahead last win u
reach_next size ahead u us gone win last next e h is =
    in_reach size ahead u us gone win last next.near next.within e h (ends_of size gone last win is)

-- what has gone is older
gone_older : (size ahead u : ℕ) (us gone win : List ℕ) (last : Option ℕ) → ComesNext size ahead us u
    → in_order us ≡ gone ++ win → Rises (gone ++ win) → IsLast size gone last win
    → (x : ℕ) → IsMember x gone → x < u
gone_older size ahead u us gone win None next e h is x m =
    absurd (subst (λ (xs : List ℕ). IsMember x xs) is m)
gone_older size ahead u us gone win (Some g) next e h is x m =
    let lt : g < u = (past_last size ahead u g us gone win next e h is).0 in
    let le : x ≤ g =
    le_last x g is.front win (subst (λ (xs : List ℕ). Rises (xs ++ win)) is.is h)
    (subst (λ (xs : List ℕ). IsMember x xs) is.is m) in
    omega (arith, lt, le)

-- a new time has not come before
pub fresh_is : (u : ℕ) (us gone win : List ℕ) → in_order us ≡ gone ++ win
    → ((x : ℕ) → IsMember x gone → x < u) → (IsMember u win → ⊥) → IsMember u us → ⊥
fresh_is u us gone win e less out m =
    elim (member_cases u gone win
    (subst (λ (xs : List ℕ). IsMember u xs) e (order_keeps u [] us (inr m)))) [
      | inl k ↦ let lt : u < u = less u k in absurd (omega (arith, lt))
      | inr k ↦ out k
    ]

-- ---- one datagram, and the rest

abbrev go_from : Following → List ℕ → List (List ℕ) → Bool → List Handed
go_from s octets rest b =
    cond b (take 1 (frames_in s)) []
    ++ handed_out (state_after (cond b (without_oldest s) s) octets) rest

abbrev handed : ℕ → Raster → Handed
handed v frame = record { timestamp = wrapped v; frame = frame }

-- where nothing is due
go_on : (o : Opening) (size ahead : ℕ) (xs ys : List Timed) (y : Timed) (gone : List ℕ)
    (last : Option ℕ) (win new : List ℕ)
    → is_due (shaped o size ahead xs last win) y.octets ≡ false
    → state_after (shaped o size ahead xs last win) y.octets ≡ shaped o size ahead (xs ++ y ∷ []) last new
    → HandsOut o size ahead (xs ++ y ∷ []) ys gone last new → HandsOut o size ahead xs (y ∷ ys) gone last win
go_on o size ahead xs ys y gone last win new due after h =
    let s : Following = shaped o size ahead xs last win in
    let whole : (xs ++ y ∷ []) ++ ys ≡ xs ++ y ∷ ys = append_assoc xs (y ∷ []) ys in record {
      rest = h.rest;
      order = ap (λ (zs : List Timed). in_order (times_of o zs)) (sym whole) ∙ h.order;
      handed =
          ap (go_from s y.octets (octets_of ys)) due
          ∙ ap (λ (t : Following). handed_out t (octets_of ys)) after ∙ h.handed
          ∙ ap (λ (zs : List Timed). map (handed_at o zs) h.rest) whole;
    }

-- where the oldest is due, and no datagram of its time comes any more
hand_on : (o : Opening) (size ahead : ℕ) (xs ys : List Timed) (y : Timed) (gone : List ℕ)
    (last : Option ℕ) (v : ℕ) (win new : List ℕ)
    → is_due (shaped o size ahead xs last (v ∷ win)) y.octets ≡ true
    → state_after (shaped o size ahead xs (Some v) win) y.octets
    ≡ shaped o size ahead (xs ++ y ∷ []) (Some v) new
    → (IsMember v (times_of o (y ∷ ys)) → ⊥)
    → HandsOut o size ahead (xs ++ y ∷ []) ys (gone ++ v ∷ []) (Some v) new
    → HandsOut o size ahead xs (y ∷ ys) gone last (v ∷ win)
hand_on o size ahead xs ys y gone last v win new due after over h =
    let s : Following = shaped o size ahead xs last (v ∷ win) in
    let whole : (xs ++ y ∷ []) ++ ys ≡ xs ++ y ∷ ys = append_assoc xs (y ∷ []) ys in
    let one : handed_at o xs v ≡ handed_at o (xs ++ y ∷ ys) v =
    ap (λ (r : Raster). handed v r)
    (frame_kept o v (wrapped v) xs (y ∷ ys) over) in
    record {
      rest = v ∷ h.rest;
      order =
          ap (λ (zs : List Timed). in_order (times_of o zs)) (sym whole) ∙ h.order
          ∙ append_assoc gone (v ∷ []) h.rest;
      handed =
          ap (go_from s y.octets (octets_of ys)) due
          ∙ ap (λ (t : Following). handed_at o xs v ∷ handed_out t (octets_of ys)) after
          ∙ ap (λ (hs : List Handed). handed_at o xs v ∷ hs)
          (h.handed ∙ ap (λ (zs : List Timed). map (handed_at o zs) h.rest) whole)
          ∙ ap (λ (x : Handed). x ∷ map (handed_at o (xs ++ y ∷ ys)) h.rest) one;
    }

-- the times after a frame went
abbrev Goes : Opening → ℕ → ℕ → List Timed → List Timed → Type 0
Goes o size ahead xs ys =
    (gone win : List ℕ) (last : Option ℕ) → IsStage o size ahead xs gone last win
    → HandsOut o size ahead xs ys gone last win

-- none of its time comes after it went
over_at : (o : Opening) (size ahead : ℕ) (xs ys : List Timed) (y : Timed) (d : Datagram) (v : ℕ)
    (gone new : List ℕ) → reading_of o y.octets ≡ Ok d
    → IsOrderly size ahead (times_of o (xs ++ y ∷ ys)) → v < y.time
    → in_order (times_of o (xs ++ y ∷ [])) ≡ gone ++ new → size ≤ length new
    → ((x : ℕ) → IsMember x new → v < x) → IsMember v (times_of o (y ∷ ys)) → ⊥
over_at o size ahead xs ys y d v gone new read orderly newer e full all m =
    by_cases (subst (λ (r : Result Datagram Refusal). IsMember v (time_if y.time r ++ times_of o ys))
    read m)
  where
    split : (b a : List ℕ) → times_of o ys ≡ b ++ v ∷ a
        → times_of o (xs ++ y ∷ ys) ≡ (times_of o (xs ++ y ∷ []) ++ b) ++ v ∷ a
    split b a k =
        times_at o xs ys y d read
        ∙ ap (λ (us : List ℕ). times_of o xs ++ y.time ∷ us) k
        ∙ sym (append_assoc (times_of o xs) (y.time ∷ []) (b ++ v ∷ a))
        ∙ ap (λ (us : List ℕ). us ++ (b ++ v ∷ a)) (sym (times_at o xs [] y d read))
        ∙ sym (append_assoc (times_of o (xs ++ y ∷ [])) b (v ∷ a))

    many : (b : List ℕ) → size ≤ length (newer_than v (times_of o (xs ++ y ∷ []) ++ b))
    many b =
        let us : List ℕ = times_of o (xs ++ y ∷ []) in
        let k : length new ≤ length (filter (later v) (gone ++ new)) = many_newer v gone new all in
        let n : length (filter (later v) (gone ++ new))
        ≤ length (filter (later v) (in_order_behind (gone ++ new) b)) = grown v (gone ++ new) b in
        let q : in_order (us ++ b) ≡ in_order_behind (gone ++ new) b =
        in_order-append [] us b ∙ ap (λ (vs : List ℕ). in_order_behind vs b) e in
        subst (λ (vs : List ℕ). size ≤ length (filter (later v) vs)) (sym q)
        (omega (arith, k, n, full))

    by_cases : (v ≡ y.time) ⊎ IsMember v (times_of o ys) → ⊥
    by_cases (inl s) = absurd (omega (arith, newer, s))
    by_cases (inr k) =
        let p = member_split v (times_of o ys) k in
        let few : length (newer_than v (times_of o (xs ++ y ∷ []) ++ p.0)) < size =
        orderly.in_time (times_of o (xs ++ y ∷ []) ++ p.0) p.1 v (split p.0 p.1 p.2) in
        absurd (omega (arith, few, many p.0))

-- ---- the cases

pub cases_member : (u : ℕ) (vs : List ℕ) → IsMember u vs ⊎ (IsMember u vs → ⊥)
cases_member u [] = inr (λ m. m)
cases_member u (v ∷ vs) = at (cases_eq u v) (cases_member u vs)
  where
    none : (u ≡ v → ⊥) → (IsMember u vs → ⊥) → IsMember u (v ∷ vs) → ⊥
    none ne out (inl e) = ne e
    none ne out (inr m) = out m

    at : (u ≡ v) ⊎ (u ≡ v → ⊥) → IsMember u vs ⊎ (IsMember u vs → ⊥)
        → IsMember u (v ∷ vs) ⊎ (IsMember u (v ∷ vs) → ⊥)
    at (inl e) rest = inl (inl e)
    at (inr ne) (inl m) = inl (inr m)
    at (inr ne) (inr out) = inr (none ne out)

step_inside : (o : Opening) (size ahead : ℕ) (xs ys : List Timed) (y : Timed) (d : Datagram)
    → reading_of o y.octets ≡ Ok d → d.timestamp ≡ wrapped y.time
    → ComesNext size ahead (times_of o xs) y.time → Goes o size ahead (xs ++ y ∷ []) ys
    → (gone win : List ℕ) (last : Option ℕ) → IsStage o size ahead xs gone last win
    → IsMember y.time win → HandsOut o size ahead xs (y ∷ ys) gone last win
step_inside o size ahead xs ys y d read stamp next go gone win last stage m =
    let u : ℕ = y.time in
    let us : List ℕ = times_of o xs in
    let h : Rises (gone ++ win) = rises o xs gone win stage.times in
    let near : AllNear u win = near_in size ahead u us gone win next stage.times h stage.room in
    let up : Rises win = rises_last gone win h in
    let within : IsInReach ahead last win u =
    reach_next size ahead u us gone win last next stage.times h stage.last_is in
    let more : IsStage o size ahead (xs ++ y ∷ []) gone last win = record {
      times =
          order_more o xs y d gone win read stage.times
          (λ x k. parts_rise x u gone win h k m)
          ∙ ap (λ (vs : List ℕ). gone ++ vs) (with_time-there u win up m);
      room = stage.room;
      last_is = stage.last_is;
    } in
    go_on o size ahead xs ys y gone last win win
    (due-inside o size ahead xs y d last win read stamp within near up m)
    (after-inside o size ahead xs y d last win read stamp within near up m)
    (go gone win last more)

room_last : (size : ℕ) (gone win new : List ℕ) (last : Option ℕ) → length win < size
    → IsLast size gone last win → IsLast size gone last new
room_last size gone win new None room is = is
room_last size gone win new (Some g) room is = absurd (omega (arith, room, is.full))

step_room : (o : Opening) (size ahead : ℕ) (xs ys : List Timed) (y : Timed) (d : Datagram)
    → reading_of o y.octets ≡ Ok d → d.timestamp ≡ wrapped y.time
    → ComesNext size ahead (times_of o xs) y.time → Goes o size ahead (xs ++ y ∷ []) ys
    → (gone win : List ℕ) (last : Option ℕ) → IsStage o size ahead xs gone last win
    → (IsMember y.time win → ⊥) → length win < size → HandsOut o size ahead xs (y ∷ ys) gone last win
step_room o size ahead xs ys y d read stamp next go gone win last stage out room =
    let u : ℕ = y.time in
    let us : List ℕ = times_of o xs in
    let h : Rises (gone ++ win) = rises o xs gone win stage.times in
    let near : AllNear u win = near_in size ahead u us gone win next stage.times h stage.room in
    let up : Rises win = rises_last gone win h in
    let within : IsInReach ahead last win u =
    reach_next size ahead u us gone win last next stage.times h stage.last_is in
    let past : IsPast last u = past_is size ahead u us gone win last next stage.times h stage.last_is in
    let less = gone_older size ahead u us gone win last next stage.times h stage.last_is in
    let fresh = fresh_is u us gone win stage.times less out in
    let new : List ℕ = with_time u win in
    let more : IsStage o size ahead (xs ++ y ∷ []) gone last new = record {
      times = order_more o xs y d gone win read stage.times less;
      room = omega (arith, length-with_time u win out, room);
      last_is = room_last size gone win new last room stage.last_is;
    } in
    go_on o size ahead xs ys y gone last win new
    (due-new o size ahead xs y d last win read stamp within near up out past room)
    (after-new o size ahead xs y d last win read stamp within near up out fresh past room)
    (go gone new last more)

newer_oldest : (size ahead u v : ℕ) (us gone win : List ℕ) → ComesNext size ahead us u
    → in_order us ≡ gone ++ v ∷ win → Rises (v ∷ win) → size ≤ length (v ∷ win)
    → (IsMember u (v ∷ win) → ⊥) → (v < u) ⊎ (u ≤ v) → v < u
newer_oldest size ahead u v us gone win next e up full out (inl lt) = lt
newer_oldest size ahead u v us gone win next e up full out (inr le) =
    absurd (not_all size ahead u us gone (v ∷ win) next e full (newer (less u v le (λ s. out (inl s)))))
  where
    less : (u v : ℕ) → u ≤ v → (u ≡ v → ⊥) → u < v
    less u v le ne = omega arith

    newer : u < v → (x : ℕ) → IsMember x (v ∷ win) → u < x
    newer lt x (inl s) = omega (arith, lt, s)
    newer lt x (inr m) =
        let k : v < x = all_member (λ y. v < y) x win up.0 m in omega (arith, lt, k)

pub all_newer_than : (u v : ℕ) (win : List ℕ) → v < u → AllByRecursion (λ x. v < x) win → (x : ℕ)
    → IsMember x (with_time u win) → v < x
all_newer_than u v win lt all x m = at (from_times x u win m)
  where
    at : (x ≡ u) ⊎ IsMember x win → v < x
    at (inl e) = omega (arith, lt, e)
    at (inr k) = all_member (λ y. v < y) x win all k

-- what has gone with the oldest is older
pub older_all : (u v : ℕ) (gone : List ℕ) → ((x : ℕ) → IsMember x gone → x < u) → v < u → (x : ℕ)
    → IsMember x (gone ++ v ∷ []) → x < u
older_all u v gone less lt x m = at (member_cases x gone (v ∷ []) m)
  where
    at : IsMember x gone ⊎ IsMember x (v ∷ []) → x < u
    at (inl k) = less x k
    at (inr (inl e)) = omega (arith, lt, e)
    at (inr (inr k)) = absurd k

step_full : (o : Opening) (size ahead : ℕ) (xs ys : List Timed) (y : Timed) (d : Datagram)
    → reading_of o y.octets ≡ Ok d → d.timestamp ≡ wrapped y.time
    → IsOrderly size ahead (times_of o (xs ++ y ∷ ys))
    → ComesNext size ahead (times_of o xs) y.time → Goes o size ahead (xs ++ y ∷ []) ys
    → (gone : List ℕ) (v : ℕ) (win : List ℕ) (last : Option ℕ)
    → IsStage o size ahead xs gone last (v ∷ win) → (IsMember y.time (v ∷ win) → ⊥)
    → size ≤ length (v ∷ win) → HandsOut o size ahead xs (y ∷ ys) gone last (v ∷ win)
step_full o size ahead xs ys y d read stamp orderly next go gone v win last stage out full =
    let u : ℕ = y.time in
    let us : List ℕ = times_of o xs in
    let h : Rises (gone ++ v ∷ win) = rises o xs gone (v ∷ win) stage.times in
    let near : AllNear u (v ∷ win) =
    near_in size ahead u us gone (v ∷ win) next stage.times h stage.room in
    let up : Rises (v ∷ win) = rises_last gone (v ∷ win) h in
    let within : IsInReach ahead last (v ∷ win) u =
    reach_next size ahead u us gone (v ∷ win) last next stage.times h stage.last_is in
    let past : IsPast last u =
    past_is size ahead u us gone (v ∷ win) last next stage.times h stage.last_is in
    let less = gone_older size ahead u us gone (v ∷ win) last next stage.times h stage.last_is in
    let fresh = fresh_is u us gone (v ∷ win) stage.times less out in
    let newer : v < u =
    newer_oldest size ahead u v us gone win next stage.times up full out (cases_lt v u) in
    let out_rest : IsMember u win → ⊥ = λ m. out (inr m) in
    let new : List ℕ = with_time u win in
    let count : length new ≡ suc (length win) = length-with_time u win out_rest in
    let parts : in_order us ≡ (gone ++ v ∷ []) ++ win =
    stage.times ∙ sym (append_assoc gone (v ∷ []) win) in
    let order : in_order (times_of o (xs ++ y ∷ [])) ≡ (gone ++ v ∷ []) ++ new =
    order_more o xs y d (gone ++ v ∷ []) win read parts (older_all u v gone less newer) in
    let more : IsStage o size ahead (xs ++ y ∷ []) (gone ++ v ∷ []) (Some v) new = record {
      times = order;
      room = omega (arith, count, stage.room);
      last_is =
          record { front = gone; is = refl; full = omega (arith, count, full, stage.room) };
    } in
    hand_on o size ahead xs ys y gone last v win new
    (due-full o size ahead xs y d last v win read stamp within near up out past full newer)
    (after-new o size ahead xs y d (Some v) win read stamp within (λ x m. near x (inr m)) up.1 out_rest fresh
    (newer, near v (inl refl)) (omega (arith, stage.room)))
    (over_at o size ahead xs ys y d v (gone ++ v ∷ []) new read orderly newer order
    (omega (arith, count, full)) (all_newer_than u v win newer up.0))
    (go (gone ++ v ∷ []) new (Some v) more)

step_new : (o : Opening) (size ahead : ℕ) → 0 < size → (xs ys : List Timed) (y : Timed) (d : Datagram)
    → reading_of o y.octets ≡ Ok d → d.timestamp ≡ wrapped y.time
    → IsOrderly size ahead (times_of o (xs ++ y ∷ ys))
    → ComesNext size ahead (times_of o xs) y.time → Goes o size ahead (xs ++ y ∷ []) ys
    → (gone win : List ℕ) (last : Option ℕ) → IsStage o size ahead xs gone last win
    → (IsMember y.time win → ⊥) → (length win < size) ⊎ (size ≤ length win)
    → HandsOut o size ahead xs (y ∷ ys) gone last win
step_new o size ahead some xs ys y d read stamp orderly next go gone win last stage out (inl room) =
    step_room o size ahead xs ys y d read stamp next go gone win last stage out room
step_new o size ahead some xs ys y d read stamp orderly next go gone [] last stage out (inr full) =
    absurd (omega (arith, some, full))
step_new o size ahead some xs ys y d read stamp orderly next go gone (v ∷ win) last stage out (inr full) =
    step_full o size ahead xs ys y d read stamp orderly next go gone v win last stage out full

step_read : (o : Opening) (size ahead : ℕ) → 0 < size → (xs ys : List Timed) (y : Timed) (d : Datagram)
    → reading_of o y.octets ≡ Ok d → d.timestamp ≡ wrapped y.time
    → IsOrderly size ahead (times_of o (xs ++ y ∷ ys)) → Goes o size ahead (xs ++ y ∷ []) ys
    → (gone win : List ℕ) (last : Option ℕ) → IsStage o size ahead xs gone last win
    → IsMember y.time win ⊎ (IsMember y.time win → ⊥)
    → HandsOut o size ahead xs (y ∷ ys) gone last win
step_read o size ahead some xs ys y d read stamp orderly go gone win last stage (inl m) =
    step_inside o size ahead xs ys y d read stamp (comes_next o size ahead xs ys y d read orderly) go gone win
    last stage m
step_read o size ahead some xs ys y d read stamp orderly go gone win last stage (inr out) =
    step_new o size ahead some xs ys y d read stamp orderly (comes_next o size ahead xs ys y d read orderly) go
    gone win last stage out (cases_lt (length win) size)

step : (o : Opening) (size ahead : ℕ) → 0 < size → (xs ys : List Timed) (y : Timed)
    (r : Result Datagram Refusal) → reading_of o y.octets ≡ r → AreTimed o (xs ++ y ∷ ys)
    → IsOrderly size ahead (times_of o (xs ++ y ∷ ys)) → Goes o size ahead (xs ++ y ∷ []) ys
    → Goes o size ahead xs (y ∷ ys)
step o size ahead some xs ys y (Err e) read timed orderly go gone win last stage =
    go_on o size ahead xs ys y gone last win win (due-refused o size ahead xs y e last win read)
    (after-refused o size ahead xs y e last win read)
    (go gone win last
    (record {
      times = ap in_order (times_refused o xs y e read) ∙ stage.times;
      room = stage.room;
      last_is = stage.last_is;
    }))
step o size ahead some xs ys y (Ok d) read timed orderly go gone win last stage =
    step_read o size ahead some xs ys y d read
    (timed y d (member_right y xs (y ∷ ys) (inl refl)) read) orderly go gone win last stage
    (cases_member y.time win)

goes : (o : Opening) (size ahead : ℕ) → 0 < size → (ys xs : List Timed) → AreTimed o (xs ++ ys)
    → IsOrderly size ahead (times_of o (xs ++ ys)) → Goes o size ahead xs ys
goes o size ahead some [] xs timed orderly = λ gone win last stage. record {
  rest = win;
  order =
      ap (λ (zs : List Timed). in_order (times_of o zs)) (append-nil xs) ∙ stage.times;
  handed =
      frames_in-shaped o xs win
      ∙ ap (λ (zs : List Timed). map (handed_at o zs) win) (sym (append-nil xs));
}
goes o size ahead some (y ∷ ys) xs timed orderly =
    let whole : xs ++ y ∷ ys ≡ (xs ++ y ∷ []) ++ ys = sym (append_assoc xs (y ∷ []) ys) in
    step o size ahead some xs ys y (reading_of o y.octets) refl timed orderly
    (goes o size ahead some ys (xs ++ y ∷ []) (subst (AreTimed o) whole timed)
    (subst (λ (zs : List Timed). IsOrderly size ahead (times_of o zs)) whole orderly))

-- What is handed out of an orderly list is the frame of each of its times, in rising order, of all
-- datagrams of that time.
pub whole_stream : (o : Opening) (size ahead : ℕ) (xs : List Timed) → 0 < size → AreTimed o xs
    → IsOrderly size ahead (times_of o xs)
    → handed_out (opened o size ahead) (octets_of xs) ≡ map (handed_at o xs) (in_order (times_of o xs))
whole_stream o size ahead xs some timed orderly =
    let h : HandsOut o size ahead [] xs [] None [] =
    goes o size ahead some xs [] timed orderly [] [] None
    (record { times = refl; room = omega arith; last_is = refl }) in
    h.handed ∙ ap (λ (us : List ℕ). map (handed_at o xs) us) (sym h.order)
