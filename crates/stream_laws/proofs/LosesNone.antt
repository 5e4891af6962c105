-- A stream whose datagrams come in an order that a follower can follow loses none.
use Rattle.std.proofs.Common.{◌≡◌, ◌∙◌, ◌⊎◌, ℕ, suc, ◌<◌, ◌≤◌, ◌+◌, Bool, true, false, cond, eqb}
use Rattle.std.proofs.Common.{List, [], ◌∷◌, ◌++◌, Option, None, Some, Result, Ok, Err, ap}
use Rattle.std.proofs.Common.{append_assoc, arith, inl, inr, length, refl, subst, sym}
use Rattle.std.specs.List.{filter}
use Rattle.std.proofs.lemmas.Bool.{cases_lt, lt-ltb}
use Rattle.following.specs.Follower.{Following, answer_to, followed_at, opened, reading_of}
use Rattle.following.specs.Follower.{standing_of, state_after}
use Rattle.following.specs.Following.{is_due}
use Rattle.following.specs.Serial.{wrapped}
use Rattle.following.specs.Standing.{is_beyond}
use Rattle.following.specs.Times.{AreTimed, IsGreatest, IsNear, IsOrderly, Timed, in_order}
use Rattle.following.specs.Times.{newer_than, times_of, with_time}
use Rattle.following.specs.Turned.{answer_in, is_lost, turned}
use Rattle.following.specs.declared.standing.Standing.{Standing}
use Rattle.following.specs.declared.standing.Standing.TheVariants.{Inside, New, Nowhere, Waits}
use Rattle.following.proofs.Insertions.{AllNear, IsInReach, IsPast, count_older}
use Rattle.following.proofs.Insertions.{standing-inside, standing-new}
use Rattle.following.proofs.Newest.{last_in, last_of, newest-map, time_within}
use Rattle.following.proofs.Ordered.{Rises, later, length-with_time, many_newer}
use Rattle.following.proofs.Ordered.{parts_rise, rises_last, with_time-there}
use Rattle.following.proofs.Rising.{all_member}
use Rattle.following.proofs.Streams.{HasGone, IsLast, IsStage, came, cases_member, in_parts}
use Rattle.following.proofs.Streams.{le_greatest, le_last, older_all, order_more, rises, times_at}
use Rattle.following.proofs.Streams.{times_refused}
use Rattle.following.proofs.Turning.{answer-due, answer-on, taken-due, taken-on}
use Rattle.following.proofs.Turning.{turned-plain}
use Rattle.following.proofs.Windows.{after-inside, after-new, after-refused, due-full, due-inside}
use Rattle.following.proofs.Windows.{due-new, due-refused, shaped, stands-shaped}
use Rattle.path_receiver.specs.declared.answer.Refusal.{Refusal}
use Rattle.path_receiver.specs.Grammar.{Datagram}
use Rattle.path_receiver.specs.Opening.{Opening}
use Rattle.st_format.specs.Member.{IsMember}
use Rattle.st_format.specs.Reading.{◌>>=◌}
use Rattle.st_format.proofs.Members.{member_left, member_right}

-- ---- a time that comes next

record IsAfter (size ahead : ℕ) (us : List ℕ) (u : ℕ) : Type 0 where
  in_time : length (newer_than u us) < size
  near : (v : ℕ) → IsMember v us → IsNear u v
  within : (v : ℕ) → IsGreatest v us → u ≤ v + ahead

-- not all that are in are newer, where there is no room
not_all : (size ahead u : ℕ) (us gone win : List ℕ) → IsAfter size ahead us u
    → in_order us ≡ gone ++ win → size ≤ length win → ((x : ℕ) → IsMember x win → u < x) → ⊥
not_all size ahead u us gone win next e full all =
    let k : length win ≤ length (filter (later u) (gone ++ win)) = many_newer u gone win all in
    let n : length (filter (later u) (gone ++ win)) < size =
    subst (λ (xs : List ℕ). length (filter (later u) xs) < size) e next.in_time in
    absurd (omega (arith, k, n, full))

-- what went last is older
past_last : (size ahead u g : ℕ) (us gone win : List ℕ) → IsAfter size ahead us u
    → in_order us ≡ gone ++ win → Rises (gone ++ win) → HasGone size gone g win
    → IsPast (Some g) u
past_last size ahead u g us gone win next e h has = (
  older (cases_lt g u),
  next.near g (came g us (gone ++ win) e (member_left g gone win g_gone)),
)
  where
    g_gone : IsMember g gone
    g_gone =
        subst (λ (xs : List ℕ). IsMember g xs) (sym has.is)
        (member_right g has.front (g ∷ []) (inl refl))

    newer : u ≤ g → (x : ℕ) → IsMember x win → u < x
    newer le x m = let lt : g < x = parts_rise g x gone win h g_gone m in omega (arith, le, lt)

    older : (g < u) ⊎ (u ≤ g) → g < u
    older (inl lt) = lt
    older (inr le) =
        absurd (not_all size ahead u us gone win next e (omega (arith, has.full)) (newer le))

past_is : (size ahead u : ℕ) (us gone win : List ℕ) (last : Option ℕ)
    → IsAfter size ahead us u → in_order us ≡ gone ++ win → Rises (gone ++ win)
    → IsLast size gone last win → IsPast last u
past_is size ahead u us gone win None next e h is = tt
past_is size ahead u us gone win (Some g) next e h is =
    past_last size ahead u g us gone win next e h is

-- what has gone is older
gone_older : (size ahead u : ℕ) (us gone win : List ℕ) (last : Option ℕ)
    → IsAfter size ahead us u → in_order us ≡ gone ++ win → Rises (gone ++ win)
    → IsLast size gone last win → (x : ℕ) → IsMember x gone → x < u
gone_older size ahead u us gone win None next e h is x m =
    absurd (subst (λ (xs : List ℕ). IsMember x xs) is m)
gone_older size ahead u us gone win (Some g) next e h is x m =
    let lt : g < u = (past_last size ahead u g us gone win next e h is).0 in
    let le : x ≤ g =
    le_last x g is.front win (subst (λ (xs : List ℕ). Rises (xs ++ win)) is.is h)
    (subst (λ (xs : List ℕ). IsMember x xs) is.is m) in
    omega (arith, lt, le)

-- ---- it is not too far ahead

newest_greatest : (us gone : List ℕ) (x : ℕ) (win : List ℕ) → in_order us ≡ gone ++ x ∷ win
    → Rises (gone ++ x ∷ win) → IsGreatest (last_of x win) us
newest_greatest us gone x win e h = record {
  inside =
      came (last_of x win) us (gone ++ x ∷ win) e
      (member_right (last_of x win) gone (x ∷ win) (last_in x win));
  all = λ y m. at y (in_parts us gone (x ∷ win) y e m);
}
  where
    at : (y : ℕ) → IsMember y gone ⊎ IsMember y (x ∷ win) → y ≤ last_of x win
    at y (inl k) =
        let lt : y < last_of x win =
        parts_rise y (last_of x win) gone (x ∷ win) h k (last_in x win) in
        omega (arith, lt)
    at y (inr k) = le_greatest x win y (rises_last gone (x ∷ win) h) k

-- where nothing is in, nothing went either: the last left a full window
never_empty : (size g : ℕ) (gone : List ℕ) → 0 < size → HasGone size gone g [] → ⊥
never_empty size g gone some has = absurd (omega (arith, some, has.full))

reach : (size ahead u : ℕ) (us gone win : List ℕ) (last : Option ℕ) → 0 < size
    → IsAfter size ahead us u → in_order us ≡ gone ++ win → Rises (gone ++ win)
    → IsLast size gone last win → IsInReach ahead last win u
reach size ahead u us gone [] None some next e h is = refl
reach size ahead u us gone [] (Some g) some next e h is =
    absurd (never_empty size g gone some is)
reach size ahead u us gone (x ∷ win) last some next e h is =
    let v : ℕ = last_of x win in
    let k : IsGreatest v us = newest_greatest us gone x win e h in
    ap (λ (n : Option ℕ). is_beyond n ahead (wrapped u)) (newest-map x win)
    ∙ time_within u v ahead (next.near v k.inside) (next.within v k)

-- a new time has not come before
fresh_is : (u : ℕ) (us gone win : List ℕ) → in_order us ≡ gone ++ win
    → ((x : ℕ) → IsMember x gone → x < u) → (IsMember u win → ⊥) → IsMember u us → ⊥
fresh_is u us gone win e less out m =
    elim (in_parts us gone win u e m) [
      | inl k ↦ let lt : u < u = less u k in absurd (omega (arith, lt))
      | inr k ↦ out k
    ]

-- it is newer than the oldest, where there is no room
newer_oldest : (size ahead u v : ℕ) (us gone win : List ℕ) → IsAfter size ahead us u
    → in_order us ≡ gone ++ v ∷ win → Rises (v ∷ win) → size ≤ length (v ∷ win)
    → (IsMember u (v ∷ win) → ⊥) → (v < u) ⊎ (u ≤ v) → v < u
newer_oldest size ahead u v us gone win next e up full out (inl lt) = lt
newer_oldest size ahead u v us gone win next e up full out (inr le) =
    absurd (not_all size ahead u us gone (v ∷ win) next e full
    (newer (less u v le (λ s. out (inl s)))))
  where
    less : (u v : ℕ) → u ≤ v → (u ≡ v → ⊥) → u < v
    less u v le ne = omega arith

    newer : u < v → (x : ℕ) → IsMember x (v ∷ win) → u < x
    newer lt x (inl s) = omega (arith, lt, s)
    newer lt x (inr m) =
        let k : v < x = all_member (λ y. v < y) x win up.0 m in omega (arith, lt, k)

-- ---- what is answered

-- where a time of this number stands
lost_at : (s : Following) (octets : List ℕ) (d : Datagram) (u : ℕ) (x : Standing)
    → reading_of s.opening octets ≡ Ok d → d.timestamp ≡ wrapped u
    → standing_of s (wrapped u) ≡ x → is_lost (Ok (followed_at d.number x)) ≡ false
    → is_lost (answer_to s octets) ≡ false
lost_at s octets d u x read stamp stands kept =
    ap (λ (r : Result Datagram Refusal).
    is_lost (r >>= λ g. Ok (followed_at g.number (standing_of s g.timestamp)))) read
    ∙ ap (λ (t : ℕ). is_lost (Ok (followed_at d.number (standing_of s t)))) stamp
    ∙ ap (λ (y : Standing). is_lost (Ok (followed_at d.number y))) stands ∙ kept

refused_at : (s : Following) (octets : List ℕ) (e : Refusal)
    → reading_of s.opening octets ≡ Err e → is_lost (answer_to s octets) ≡ false
refused_at s octets e read =
    ap (λ (r : Result Datagram Refusal).
    is_lost (r >>= λ g. Ok (followed_at g.number (standing_of s g.timestamp)))) read

new_stands : (o : Opening) (size ahead : ℕ) (xs : List Timed) (u : ℕ) (last : Option ℕ)
    (win : List ℕ) → IsInReach ahead last win u → AllNear u win → Rises win
    → (IsMember u win → ⊥) → IsPast last u → length win < size
    → standing_of (shaped o size ahead xs last win) (wrapped u) ≡ New (count_older u win)
new_stands o size ahead xs u last win within near up out past room =
    stands-shaped o size ahead xs u last win within
    ∙ standing-new u win last size near up out past
    ∙ ap (λ (b : Bool). cond b (New (count_older u win))
    (cond (eqb (count_older u win) 0) Nowhere Waits)) (lt-ltb (length win) size room)

-- ---- a stream

-- none of these is lost, taken one after the other
abbrev pub NoneIsLost : Following → List Timed → Type 0
NoneIsLost s [] = Unit {0}
NoneIsLost s (x ∷ xs) =
    (is_lost (answer_in s x.octets) ≡ false) × NoneIsLost (turned false s x.octets) xs

-- a list that is orderly, and of which all times are near
record IsGiven (o : Opening) (size ahead : ℕ) (zs : List Timed) : Type 0 where
  timed : AreTimed o zs
  orderly : IsOrderly size ahead (times_of o zs)
  near : (u v : ℕ) → IsMember u (times_of o zs) → IsMember v (times_of o zs) → IsNear u v

module _ (o : Opening) (size ahead : ℕ) (some : 0 < size) where
  -- from a stage on
  abbrev FromStage : List Timed → List Timed → Type 0
  FromStage xs ys = (gone win : List ℕ) (last : Option ℕ)
      → IsStage o size ahead xs gone last win
      → NoneIsLost (shaped o size ahead xs last win) ys

  -- where nothing is due
  go_on : (xs ys : List Timed) (y : Timed) (last : Option ℕ) (win new : List ℕ)
      → is_due (shaped o size ahead xs last win) y.octets ≡ false
      → is_lost (answer_to (shaped o size ahead xs last win) y.octets) ≡ false
      → state_after (shaped o size ahead xs last win) y.octets
      ≡ shaped o size ahead (xs ++ y ∷ []) last new
      → NoneIsLost (shaped o size ahead (xs ++ y ∷ []) last new) ys
      → NoneIsLost (shaped o size ahead xs last win) (y ∷ ys)
  go_on xs ys y last win new due kept after rest =
      let s : Following = shaped o size ahead xs last win in
      let t : Following = shaped o size ahead (xs ++ y ∷ []) last new in (
        ap is_lost (answer-on s y.octets due) ∙ kept,
        subst (λ (u : Following). NoneIsLost u ys)
            (sym (turned-plain s y.octets ∙ taken-on s y.octets due ∙ after)) rest,
      )

  -- where the oldest is due
  hand_on : (xs ys : List Timed) (y : Timed) (last : Option ℕ) (v : ℕ) (win new : List ℕ)
      → is_due (shaped o size ahead xs last (v ∷ win)) y.octets ≡ true
      → is_lost (answer_to (shaped o size ahead xs (Some v) win) y.octets) ≡ false
      → state_after (shaped o size ahead xs (Some v) win) y.octets
      ≡ shaped o size ahead (xs ++ y ∷ []) (Some v) new
      → NoneIsLost (shaped o size ahead (xs ++ y ∷ []) (Some v) new) ys
      → NoneIsLost (shaped o size ahead xs last (v ∷ win)) (y ∷ ys)
  hand_on xs ys y last v win new due kept after rest =
      let s : Following = shaped o size ahead xs last (v ∷ win) in (
        ap is_lost (answer-due s y.octets due) ∙ kept,
        subst (λ (u : Following). NoneIsLost u ys)
            (sym (turned-plain s y.octets ∙ taken-due s y.octets due ∙ after)) rest,
      )

  step_inside : (xs ys : List Timed) (y : Timed) (d : Datagram) → reading_of o y.octets ≡ Ok d
      → d.timestamp ≡ wrapped y.time → IsAfter size ahead (times_of o xs) y.time
      → FromStage (xs ++ y ∷ []) ys → (gone win : List ℕ) (last : Option ℕ)
      → IsStage o size ahead xs gone last win → IsMember y.time win
      → NoneIsLost (shaped o size ahead xs last win) (y ∷ ys)
  step_inside xs ys y d read stamp next go gone win last stage m =
      let u : ℕ = y.time in
      let us : List ℕ = times_of o xs in
      let s : Following = shaped o size ahead xs last win in
      let h : Rises (gone ++ win) = rises o xs gone win stage.times in
      let near : AllNear u win =
      λ v k. next.near v (came v us (gone ++ win) stage.times (member_right v gone win k)) in
      let up : Rises win = rises_last gone win h in
      let within : IsInReach ahead last win u =
      reach size ahead u us gone win last some next stage.times h stage.last_is in
      let more : IsStage o size ahead (xs ++ y ∷ []) gone last win = record {
        times =
            order_more o xs y d gone win read stage.times
            (λ x k. parts_rise x u gone win h k m)
            ∙ ap (λ (vs : List ℕ). gone ++ vs) (with_time-there u win up m);
        room = stage.room;
        last_is = stage.last_is;
      } in
      go_on xs ys y last win win
      (due-inside o size ahead xs y d last win read stamp within near up m)
      (lost_at s y.octets d u (Inside (count_older u win)) read stamp
      (stands-shaped o size ahead xs u last win within
      ∙ standing-inside u win s.gone size near up m) refl)
      (after-inside o size ahead xs y d last win read stamp within near up m)
      (go gone win last more)

  room_last : (gone win new : List ℕ) (last : Option ℕ) → length win < size
      → IsLast size gone last win → IsLast size gone last new
  room_last gone win new None room is = is
  room_last gone win new (Some g) room is = absurd (omega (arith, room, is.full))

  step_room : (xs ys : List Timed) (y : Timed) (d : Datagram) → reading_of o y.octets ≡ Ok d
      → d.timestamp ≡ wrapped y.time → IsAfter size ahead (times_of o xs) y.time
      → FromStage (xs ++ y ∷ []) ys → (gone win : List ℕ) (last : Option ℕ)
      → IsStage o size ahead xs gone last win → (IsMember y.time win → ⊥)
      → length win < size → NoneIsLost (shaped o size ahead xs last win) (y ∷ ys)
  step_room xs ys y d read stamp next go gone win last stage out room =
      let u : ℕ = y.time in
      let us : List ℕ = times_of o xs in
      let s : Following = shaped o size ahead xs last win in
      let h : Rises (gone ++ win) = rises o xs gone win stage.times in
      let near : AllNear u win =
      λ v k. next.near v (came v us (gone ++ win) stage.times (member_right v gone win k)) in
      let up : Rises win = rises_last gone win h in
      let within : IsInReach ahead last win u =
      reach size ahead u us gone win last some next stage.times h stage.last_is in
      let past : IsPast last u =
      past_is size ahead u us gone win last next stage.times h stage.last_is in
      let less = gone_older size ahead u us gone win last next stage.times h stage.last_is in
      let new : List ℕ = with_time u win in
      let more : IsStage o size ahead (xs ++ y ∷ []) gone last new = record {
        times = order_more o xs y d gone win read stage.times less;
        room = omega (arith, length-with_time u win out, room);
        last_is = room_last gone win new last room stage.last_is;
      } in
      go_on xs ys y last win new
      (due-new o size ahead xs y d last win read stamp within near up out past room)
      (lost_at s y.octets d u (New (count_older u win)) read stamp
      (new_stands o size ahead xs u last win within near up out past room) refl)
      (after-new o size ahead xs y d last win read stamp within near up out
      (fresh_is u us gone win stage.times less out) past room)
      (go gone new last more)

  step_full : (xs ys : List Timed) (y : Timed) (d : Datagram) → reading_of o y.octets ≡ Ok d
      → d.timestamp ≡ wrapped y.time → IsAfter size ahead (times_of o xs) y.time
      → FromStage (xs ++ y ∷ []) ys → (gone : List ℕ) (v : ℕ) (win : List ℕ) (last : Option ℕ)
      → IsStage o size ahead xs gone last (v ∷ win) → (IsMember y.time (v ∷ win) → ⊥)
      → size ≤ length (v ∷ win) → NoneIsLost (shaped o size ahead xs last (v ∷ win)) (y ∷ ys)
  step_full xs ys y d read stamp next go gone v win last stage out full =
      let u : ℕ = y.time in
      let us : List ℕ = times_of o xs in
      let s : Following = shaped o size ahead xs (Some v) win in
      let h : Rises (gone ++ v ∷ win) = rises o xs gone (v ∷ win) stage.times in
      let near : AllNear u (v ∷ win) =
      λ x k. next.near x (came x us (gone ++ v ∷ win) stage.times
      (member_right x gone (v ∷ win) k)) in
      let near_rest : AllNear u win = λ x k. near x (inr k) in
      let up : Rises (v ∷ win) = rises_last gone (v ∷ win) h in
      let within : IsInReach ahead last (v ∷ win) u =
      reach size ahead u us gone (v ∷ win) last some next stage.times h stage.last_is in
      let past : IsPast last u =
      past_is size ahead u us gone (v ∷ win) last next stage.times h stage.last_is in
      let less =
      gone_older size ahead u us gone (v ∷ win) last next stage.times h stage.last_is in
      let newer : v < u =
      newer_oldest size ahead u v us gone win next stage.times up full out (cases_lt v u) in
      let out_rest : IsMember u win → ⊥ = λ m. out (inr m) in
      let past_v : IsPast (Some v) u = (newer, near v (inl refl)) in
      let new : List ℕ = with_time u win in
      let count : length new ≡ suc (length win) = length-with_time u win out_rest in
      let room : length win < size = omega (arith, stage.room) in
      let parts : in_order us ≡ (gone ++ v ∷ []) ++ win =
      stage.times ∙ sym (append_assoc gone (v ∷ []) win) in
      let more : IsStage o size ahead (xs ++ y ∷ []) (gone ++ v ∷ []) (Some v) new = record {
        times = order_more o xs y d (gone ++ v ∷ []) win read parts (older_all u v gone less newer);
        room = omega (arith, count, stage.room);
        last_is = record { front = gone; is = refl; full = omega (arith, count, full, stage.room) };
      } in
      hand_on xs ys y last v win new
      (due-full o size ahead xs y d last v win read stamp within near up out past full newer)
      (lost_at s y.octets d u (New (count_older u win)) read stamp
      (new_stands o size ahead xs u (Some v) win within near_rest up.1 out_rest past_v room) refl)
      (after-new o size ahead xs y d (Some v) win read stamp within near_rest up.1 out_rest
      (fresh_is u us gone (v ∷ win) stage.times less out) past_v room)
      (go (gone ++ v ∷ []) new (Some v) more)

  step_new : (xs ys : List Timed) (y : Timed) (d : Datagram) → reading_of o y.octets ≡ Ok d
      → d.timestamp ≡ wrapped y.time → IsAfter size ahead (times_of o xs) y.time
      → FromStage (xs ++ y ∷ []) ys → (gone win : List ℕ) (last : Option ℕ)
      → IsStage o size ahead xs gone last win → (IsMember y.time win → ⊥)
      → (length win < size) ⊎ (size ≤ length win)
      → NoneIsLost (shaped o size ahead xs last win) (y ∷ ys)
  step_new xs ys y d read stamp next go gone win last stage out (inl room) =
      step_room xs ys y d read stamp next go gone win last stage out room
  step_new xs ys y d read stamp next go gone [] last stage out (inr full) =
      absurd (omega (arith, some, full))
  step_new xs ys y d read stamp next go gone (v ∷ win) last stage out (inr full) =
      step_full xs ys y d read stamp next go gone v win last stage out full

  step_read : (xs ys : List Timed) (y : Timed) (d : Datagram) → reading_of o y.octets ≡ Ok d
      → d.timestamp ≡ wrapped y.time → IsAfter size ahead (times_of o xs) y.time
      → FromStage (xs ++ y ∷ []) ys → (gone win : List ℕ) (last : Option ℕ)
      → IsStage o size ahead xs gone last win
      → IsMember y.time win ⊎ (IsMember y.time win → ⊥)
      → NoneIsLost (shaped o size ahead xs last win) (y ∷ ys)
  step_read xs ys y d read stamp next go gone win last stage (inl m) =
      step_inside xs ys y d read stamp next go gone win last stage m
  step_read xs ys y d read stamp next go gone win last stage (inr out) =
      step_new xs ys y d read stamp next go gone win last stage out (cases_lt (length win) size)

  next_is : (xs ys : List Timed) (y : Timed) (d : Datagram) → reading_of o y.octets ≡ Ok d
      → IsGiven o size ahead (xs ++ y ∷ ys) → IsAfter size ahead (times_of o xs) y.time
  next_is xs ys y d read given =
      let u : ℕ = y.time in
      let us : List ℕ = times_of o xs in
      let vs : List ℕ = times_of o ys in
      let e : times_of o (xs ++ y ∷ ys) ≡ us ++ u ∷ vs = times_at o xs ys y d read in
      record {
        in_time = given.orderly.in_time us vs u e;
        near = λ v m.
            given.near u v
            (subst (λ (ws : List ℕ). IsMember u ws) (sym e)
            (member_right u us (u ∷ vs) (inl refl)))
            (subst (λ (ws : List ℕ). IsMember v ws) (sym e) (member_left v us (u ∷ vs) m));
        within = λ v greatest. given.orderly.within us vs u v e greatest;
      }

  step : (xs ys : List Timed) (y : Timed) (r : Result Datagram Refusal)
      → reading_of o y.octets ≡ r → IsGiven o size ahead (xs ++ y ∷ ys)
      → FromStage (xs ++ y ∷ []) ys → FromStage xs (y ∷ ys)
  step xs ys y (Err e) read given go gone win last stage =
      go_on xs ys y last win win (due-refused o size ahead xs y e last win read)
      (refused_at (shaped o size ahead xs last win) y.octets e read)
      (after-refused o size ahead xs y e last win read)
      (go gone win last
      (record {
        times = ap in_order (times_refused o xs y e read) ∙ stage.times;
        room = stage.room;
        last_is = stage.last_is;
      }))
  step xs ys y (Ok d) read given go gone win last stage =
      step_read xs ys y d read
      (given.timed y d (member_right y xs (y ∷ ys) (inl refl)) read)
      (next_is xs ys y d read given) go gone win last stage (cases_member y.time win)

  goes : (ys xs : List Timed) → IsGiven o size ahead (xs ++ ys) → FromStage xs ys
  goes [] xs given = λ gone win last stage. tt
  goes (y ∷ ys) xs given =
      let whole : xs ++ y ∷ ys ≡ (xs ++ y ∷ []) ++ ys = sym (append_assoc xs (y ∷ []) ys) in
      step xs ys y (reading_of o y.octets) refl given
      (goes ys (xs ++ y ∷ []) (subst (λ (zs : List Timed). IsGiven o size ahead zs) whole given))

  pub orderly_none : (xs : List Timed) → AreTimed o xs → IsOrderly size ahead (times_of o xs)
      → ((u v : ℕ) → IsMember u (times_of o xs) → IsMember v (times_of o xs) → IsNear u v)
      → NoneIsLost (opened o size ahead) xs
  orderly_none xs timed orderly near =
      goes xs [] (record { timed = timed; orderly = orderly; near = near }) [] [] None
      (record { times = refl; room = omega arith; last_is = refl })
