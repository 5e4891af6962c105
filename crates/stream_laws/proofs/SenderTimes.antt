-- The times of a sender's datagrams: at most 10,000 pictures take less than half a round.
use Rattle.std.proofs.Common.{◌≡◌, ◌∙◌, ℕ, suc, ◌+◌, ◌*◌, ◌/◌, ◌%◌, ◌^◌, ◌<◌, ◌≤◌, Bool, true}
use Rattle.std.proofs.Common.{false, cond, eqb, List, [], ◌∷◌, ◌++◌, Result, Ok, Err, ap, arith}
use Rattle.std.proofs.Common.{inl, inr, length, length-append, map, refl, subst, sym}
use Rattle.std.specs.Prelude.{nat_lt}
use Rattle.following.specs.Acts.{AreNearby}
use Rattle.following.specs.Follower.{opened, reading_of}
use Rattle.following.specs.Following.{handed_out}
use Rattle.following.specs.Pictures.{BroughtAll, pictures_from, time_behind, timed_from}
use Rattle.following.specs.Pictures.{times_from}
use Rattle.following.specs.Serial.{wrapped}
use Rattle.following.specs.Times.{AreTimed, IsNear, IsOrderly, Timed, handed_at, in_order}
use Rattle.following.specs.Times.{in_order_behind, newer_than, time_if, time_of}
use Rattle.following.specs.Times.{times_of, with_time}
use Rattle.following.proofs.Ordered.{few_newer}
use Rattle.following.proofs.Pictures.{IsStamped, ahead_ticks, picture_read, sender_pictures}
use Rattle.following.proofs.Pictures.{ticks_below, timed-octets}
use Rattle.following.proofs.Streams.{whole_stream}
use Rattle.packet_plan.specs.Sender.{Sender, SendsFrom, stamp_of}
use Rattle.path_receiver.specs.declared.answer.Refusal.{Refusal}
use Rattle.path_receiver.specs.Grammar.{Datagram}
use Rattle.path_receiver.specs.Opening.{Opening}
use Rattle.path_receiver.specs.Sender.{IsOpenFor}
use Rattle.st_format.specs.declared.format.Format.{Format}
use Rattle.st_format.specs.Member.{IsMember}
use Rattle.st_format.specs.Picture.{Values, timestamp_of}
use Rattle.st_format.proofs.Members.{member-flat_map, member-map, member_cases, member_left}
use Rattle.st_format.proofs.Members.{member_right}

-- ---- its ticks

-- it is so many ticks behind the first picture
record IsLaterBy (o : Opening) (base : ℕ) (octets : List ℕ) : Type 0 where
  datagram : Datagram
  read : reading_of o octets ≡ Ok datagram
  ticks : ℕ
  few : ticks ≤ 899910000
  stamp : datagram.timestamp ≡ wrapped (base + ticks)

stamped_behind : (o : Opening) (f : Format) (base k : ℕ) (octets : List ℕ) → k < 10000
    → IsStamped o octets (timestamp_of f base k) → IsLaterBy o base octets
stamped_behind o f base k octets lt is = record {
  datagram = is.datagram;
  read = is.read;
  ticks = k * 90000 * f.d / f.n;
  few = ticks_below k f.n f.d f.sane_rate.some_n f.sane_rate.at_least_one lt;
  stamp = is.is;
}

sent_behind : (o : Opening) (s : Sender) (k : ℕ) (ps : List Values) (first : ℕ)
    (ds : List (List ℕ)) (octets : List ℕ) → IsOpenFor o s.format s.payload_type s.ssrc
    → k + length ps ≤ 10000 → SendsFrom s k ps first ds → IsMember octets ds
    → IsLaterBy o s.base octets
sent_behind o s k [] first ds octets open_for few sends m =
    absurd (subst (λ (ys : List (List ℕ)). IsMember octets ys) sends m)
sent_behind o s k (p ∷ ps) first ds octets open_for few sends m =
    elim (member_cases octets sends.mine sends.others
    (subst (λ (ys : List (List ℕ)). IsMember octets ys) sends.whole m)) [
      | inl mine ↦ stamped_behind o s.format s.base k octets (omega (arith, few))
          (picture_read o p (stamp_of s k first) 0 sends.packets sends.mine octets
          (subst (λ (f : Format). IsOpenFor o f s.payload_type s.ssrc) (sym sends.format)
          open_for) sends.picture.sent mine)
      | inr later ↦ sent_behind o s (k + 1) ps ((first + length sends.packets) % 2 ^ 32)
          sends.others octets open_for (omega (arith, few)) sends.rest later
    ]

time_is : (o : Opening) (base : ℕ) (octets : List ℕ) (is : IsLaterBy o base octets)
    → time_behind base (reading_of o octets) ≡ base + is.ticks
time_is o base octets is =
    ap (time_behind base) is.read
    ∙ ap (λ (t : ℕ). base + t)
    (ahead_ticks base is.ticks is.datagram.timestamp is.few is.stamp)

-- ---- rooms

put_room : (u v : ℕ) (vs : List ℕ) (a b : Bool) → length (with_time u vs) ≤ suc (length vs)
    → length (cond a (v ∷ vs) (cond b (u ∷ v ∷ vs) (v ∷ with_time u vs))) ≤ suc (length (v ∷ vs))
put_room u v vs true b rest = omega arith
put_room u v vs false true rest = omega arith
put_room u v vs false false rest = omega (arith, rest)

with_room : (u : ℕ) (vs : List ℕ) → length (with_time u vs) ≤ suc (length vs)
with_room u [] = omega arith
with_room u (v ∷ vs) = put_room u v vs (eqb v u) (nat_lt u v) (with_room u vs)

order_room : (vs us : List ℕ) → length (in_order_behind vs us) ≤ length vs + length us
order_room vs [] = omega arith
order_room vs (u ∷ us) =
    let one : length (with_time u vs) ≤ suc (length vs) = with_room u vs in
    let rest : length (in_order_behind (with_time u vs) us) ≤ length (with_time u vs) + length us =
    order_room (with_time u vs) us in
    omega (arith, one, rest)

few_before : (us before after : List ℕ) (u : ℕ) → us ≡ before ++ u ∷ after
    → length (newer_than u before) < suc (length us)
few_before us before after u e =
    let newer : length (newer_than u before) ≤ length (in_order before) =
    few_newer u [] (in_order before) (λ x m. absurd m) in
    let most : length (in_order before) ≤ 0 + length before = order_room [] before in
    let long : length us ≡ length before + length (u ∷ after) =
    ap length e ∙ length-append before (u ∷ after) in
    omega (arith, newer, most, long)

-- ---- all that came

pub same_reading : (d g : Datagram) → (let r : Result Datagram Refusal = Ok d in r ≡ Ok g) → d ≡ g
same_reading d g e = cc

one_time : (u t : ℕ) (r : Result Datagram Refusal) → IsMember u (time_if t r) → u ≡ t
one_time u t (Ok d) (inl e) = e
one_time u t (Ok d) (inr m) = absurd m
one_time u t (Err e) m = absurd m

module _ (o : Opening) (s : Sender) (ps : List Values) (ds : List (List ℕ))
    (all : BroughtAll o s ps ds) where
  abbrev xs : List Timed
  xs = map (timed_from o s.base) ds

  abbrev us : List ℕ
  us = times_from o s.base ds

  at : (octets : List ℕ) → IsMember octets ds → IsLaterBy o s.base octets
  at octets m =
      let few : 0 + length ps ≤ 10000 = omega (arith, all.list.few) in
      sent_behind o s 0 ps all.first all.sent octets all.opened few all.list.sent
      (all.same.forth octets m)

  pub are_timed : AreTimed o xs
  are_timed x d m read =
      let r = member-map (timed_from o s.base) x ds m in
      let n : IsLaterBy o s.base r.0 = at r.0 r.1 in
      let e : d ≡ n.datagram =
      same_reading d n.datagram
      (sym read ∙ ap (λ (y : Timed). reading_of o y.octets) r.2 ∙ n.read) in
      ap (λ (y : Datagram). y.timestamp) e ∙ n.stamp
      ∙ ap wrapped (sym (time_is o s.base r.0 n))
      ∙ ap (λ (y : Timed). wrapped y.time) (sym r.2)

  within : (u : ℕ) → IsMember u us → (s.base ≤ u) × (u ≤ s.base + 899910000)
  within u m =
      let a = member-flat_map (time_of o) u xs m in
      let r = member-map (timed_from o s.base) a.0 ds a.1 in
      let n : IsLaterBy o s.base r.0 = at r.0 r.1 in
      let e : u ≡ s.base + n.ticks =
      one_time u a.0.time (reading_of o a.0.octets) a.2
      ∙ ap (λ (y : Timed). y.time) r.2 ∙ time_is o s.base r.0 n in
      let few : n.ticks ≤ 899910000 = n.few in
      (omega (arith, e), omega (arith, e, few))

  -- those of a time and of one before it
  next_in : (before after : List ℕ) (u : ℕ) → us ≡ before ++ u ∷ after → IsMember u us
  next_in before after u e =
      subst (λ (vs : List ℕ). IsMember u vs) (sym e)
      (member_right u before (u ∷ after) (inl refl))

  before_in : (before after : List ℕ) (u v : ℕ) → us ≡ before ++ u ∷ after → IsMember v before
      → IsMember v us
  before_in before after u v e m =
      subst (λ (vs : List ℕ). IsMember v vs) (sym e) (member_left v before (u ∷ after) m)

  pub near_one : (u v : ℕ) → IsMember u us → IsMember v us → IsNear u v
  near_one u v m n =
      let a = within u m in
      let b = within v n in
      let low : s.base ≤ u = a.0 in
      let high : u ≤ s.base + 899910000 = a.1 in
      let low_too : s.base ≤ v = b.0 in
      let high_too : v ≤ s.base + 899910000 = b.1 in
      record { forth = omega (arith, high, low_too); back = omega (arith, low, high_too) }

  pub are_near : (size : ℕ) → AreNearby size us
  are_near size before after u v e m few =
      near_one u v (next_in before after u e) (before_in before after u v e m)

  -- a follower of enough frames, which hands out the same
  wide : IsOrderly (suc (length us)) 899910000 us
  wide = record {
    in_time = λ before after u e. few_before us before after u e;
    near = λ before after u v e m few.
        near_one u v (next_in before after u e) (before_in before after u v e m);
    within = λ before after u v e greatest.
        let high : u ≤ s.base + 899910000 = (within u (next_in before after u e)).1 in
        let low : s.base ≤ v = (within v (before_in before after u v e greatest.inside)).0 in
        omega (arith, high, low);
  }

  -- the frames of its times are the pictures
  pub frames_of_times : map (handed_at o xs) (in_order (times_of o xs)) ≡ pictures_from s 0 ps
  frames_of_times =
      sym (whole_stream o (suc (length us)) 899910000 xs (omega arith) are_timed wide)
      ∙ ap (λ (es : List (List ℕ)). handed_out (opened o (suc (length us)) 899910000) es)
      (timed-octets o s.base ds)
      ∙ sender_pictures o (suc (length us)) 899910000 s ps ds (omega arith) all wide
