-- A sender's pictures are handed out in order, with nothing missing.
use Rattle.std.proofs.Common.{◌≡◌, ℕ, zero, suc, ◌+◌, ◌*◌, ◌/◌, ◌%◌, ◌^◌, ◌<◌, ◌≤◌, inl, inr, Bool}
use Rattle.std.proofs.Common.{true, false, cond, eqb, List, [], ◌∷◌, length, map, Option, None}
use Rattle.std.proofs.Common.{Some, Result, Ok, Err, refl, sym, ap, ◌∙◌, subst, arith, mul-pos}
use Rattle.std.specs.Prelude.{slice_get}
use Rattle.std.specs.List.{AllByRecursion, range_with_len}
use Rattle.std.proofs.lemmas.Bool.{eq-eqb}
use Rattle.std.proofs.lemmas.Nat.{mul-le, le-div}
use Rattle.std.proofs.lemmas.Option.{slice_get_within}
use Rattle.std.proofs.Math.Nat.{div-le_of_le-mul, div-mul-le_self}
use Rattle.st_format.specs.declared.format.Format.{Format}
use Rattle.st_format.specs.Member.{IsMember}
use Rattle.st_format.specs.Picture.{Values, timestamp_of}
use Rattle.st_format.specs.Position.{group_count}
use Rattle.st_format.specs.Raster.{Raster}
use Rattle.st_format.proofs.Members.{member-map, member_cases, member_of_map}
use Rattle.st_format.proofs.Members.{member-flat_map}
use Rattle.rtp_header.specs.Grammar.{Rtp}
use Rattle.payload_header.specs.Payload.{IsPayload}
use Rattle.packet_plan.specs.declared.run.PacketRun.{PacketRun}
use Rattle.packet_plan.specs.declared.stamp.Stamp.{Stamp}
use Rattle.packet_plan.specs.Sender.{Sender, SendsFrom, stamp_of}
use Rattle.packet_plan.specs.Sent.{AreSent, IsSentPacket, IsSentPicture, is_empty}
use Rattle.packet_plan.proofs.Packets.{some_groups}
use Rattle.path_receiver.specs.declared.answer.Refusal.{Refusal}
use Rattle.path_receiver.specs.Grammar.{Datagram, IsDatagram, IsFor}
use Rattle.path_receiver.specs.Opening.{IsSource, Opening}
use Rattle.path_receiver.specs.Sender.{IsOpenFor, picture_raster}
use Rattle.path_receiver.specs.Sliding.{with_window}
use Rattle.path_receiver.proofs.Offered.{admitted_for}
use Rattle.path_receiver.proofs.SenderCells.{frame-all, sent-among}
use Rattle.following.specs.Serial.{ahead_of, wrapped}
use Rattle.following.specs.Follower.{opened, reading_of}
use Rattle.following.specs.Following.{Handed, handed_out}
use Rattle.following.specs.Pictures.{BroughtAll, picture_time, pictures_from, time_behind}
use Rattle.following.specs.Pictures.{timed_from, times_from}
use Rattle.following.specs.Times.{AreInHalf, AreInRound, AreTimed, IsInHalf, IsOrderly, Timed}
use Rattle.following.specs.Times.{frame_of, handed_at, handed_of, in_order, octets_of, time_if}
use Rattle.following.specs.Times.{time_of, times_of}
use Rattle.following.proofs.Ordered.{Rises, rises_behind}
use Rattle.following.proofs.Orders.{order_members, same_rising}
use Rattle.following.proofs.Streams.{whole_stream}
use Rattle.following.proofs.WholeList.{map_whole, times_has}

-- ---- a sender's datagram, as the receiver reads it

-- it is read, with a timestamp
pub record IsStamped (o : Opening) (octets : List ℕ) (timestamp : ℕ) : Type 0 where
  pub datagram : Datagram
  pub read : reading_of o octets ≡ Ok datagram
  pub is : datagram.timestamp ≡ timestamp

packet_read : (o : Opening) (p : Values) (stamp : Stamp) (i : ℕ) (l : Bool) (rs : List PacketRun)
    (octets : List ℕ) → IsOpenFor o p.format stamp.payload_type stamp.ssrc
    → IsSentPacket octets p stamp i l rs → IsStamped o octets stamp.timestamp
packet_read o p stamp i l rs octets open_for sent =
    let h : Rtp = sent.header in
    let g : Datagram = record {
      payload_type = h.payload_type;
      number = 65536 * sent.extended + h.sequence;
      timestamp = h.timestamp;
      ssrc = h.ssrc;
      marker = h.marker;
      segments = sent.segments;
    } in
    let is : IsDatagram octets o.format g = record {
      sequence = h.sequence;
      extended = sent.extended;
      payload = h.payload;
      is_header = sent.is_header.is;
      is_payload =
          subst (λ (f : Format). IsPayload h.payload f sent.extended sent.segments)
          open_for.format sent.is_payload.is_payload;
      number_is = refl;
    } in
    let f : IsFor octets o g = record {
      is = is;
      type_is = sent.payload_type ∙ open_for.type_is;
      source = subst (λ (x : ℕ). IsSource o.ssrc x) (sym sent.ssrc) open_for.source;
    } in
    record { datagram = g; read = admitted_for o octets g f; is = sent.timestamp }

pub picture_read : (o : Opening) (p : Values) (stamp : Stamp) (i : ℕ) (qs : List (List PacketRun))
    (ds : List (List ℕ)) (octets : List ℕ) → IsOpenFor o p.format stamp.payload_type stamp.ssrc
    → AreSent ds p stamp i qs → IsMember octets ds → IsStamped o octets stamp.timestamp
picture_read o p stamp i [] [] octets open_for sent m = absurd m
picture_read o p stamp i [] (d ∷ ds) octets open_for sent m = absurd sent
picture_read o p stamp i (q ∷ qs) [] octets open_for sent m = absurd m
picture_read o p stamp i (q ∷ qs) (d ∷ ds) octets open_for sent (inl e) =
    subst (λ (x : List ℕ). IsStamped o x stamp.timestamp) (sym e)
    (packet_read o p stamp i (is_empty qs) q d open_for sent.0)
picture_read o p stamp i (q ∷ qs) (d ∷ ds) octets open_for sent (inr m) =
    picture_read o p stamp (i + 1) qs ds octets open_for sent.1 m

-- it is of one of the pictures, counted from the k-th
record IsOfPicture (o : Opening) (s : Sender) (k count : ℕ) (octets : List ℕ) : Type 0 where
  number : ℕ
  below : number < count
  stamped : IsStamped o octets (timestamp_of s.format s.base (k + number))

sender_read : (o : Opening) (s : Sender) (k : ℕ) (ps : List Values) (first : ℕ)
    (ds : List (List ℕ)) (octets : List ℕ) → IsOpenFor o s.format s.payload_type s.ssrc
    → SendsFrom s k ps first ds → IsMember octets ds → IsOfPicture o s k (length ps) octets
sender_read o s k [] first ds octets open_for sends m =
    absurd (subst (λ (ys : List (List ℕ)). IsMember octets ys) sends m)
sender_read o s k (p ∷ ps) first ds octets open_for sends m =
    elim (member_cases octets sends.mine sends.others
    (subst (λ (ys : List (List ℕ)). IsMember octets ys) sends.whole m)) [
      | inl mine ↦ record {
        number = 0;
        below = omega arith;
        stamped =
            subst (λ (i : ℕ). IsStamped o octets (timestamp_of s.format s.base i)) (none k)
            (picture_read o p (stamp_of s k first) 0 sends.packets sends.mine octets
            (subst (λ (f : Format). IsOpenFor o f s.payload_type s.ssrc) (sym sends.format)
            open_for) sends.picture.sent mine);
      }
      | inr later ↦
          let r =
          sender_read o s (k + 1) ps ((first + length sends.packets) % 2 ^ 32) sends.others
          octets open_for sends.rest later in
          record {
            number = suc r.number;
            below = omega (arith, r.below);
            stamped =
                subst (λ (i : ℕ). IsStamped o octets (timestamp_of s.format s.base i))
                (next k r.number) r.stamped;
          }
    ]
  where
    none : (k : ℕ) → k ≡ k + 0
    none k = omega arith

    next : (k j : ℕ) → k + 1 + j ≡ k + suc j
    next k j = omega arith

-- ---- each picture has a datagram

abbrev first_of : List (List ℕ) → Type 0
first_of ds = (octets : List ℕ) × IsMember octets ds

some_range : (n : ℕ) → 0 < n → [] ≡ range_with_len 0 n → ⊥
some_range zero some e = absurd (omega (arith, some))
some_range (suc n) some e = absurd cc

some_sent : (p : Values) (stamp : Stamp) (size : ℕ) (qs : List (List PacketRun))
    (ds : List (List ℕ)) → IsSentPicture ds p stamp size qs → first_of ds
some_sent p stamp size [] [] is =
    absurd (some_range (group_count p.format)
    (mul-pos p.format.whole_height.least (some_groups p.format)) is.plan.whole)
some_sent p stamp size (q ∷ qs) [] is = absurd is.sent
some_sent p stamp size qs (d ∷ ds) is = (d, inl refl)

-- ---- times

-- the ticks of a picture
abbrev ticks : Format → ℕ → ℕ
ticks f k = k * 90000 * f.d / f.n

pub ticks_below : (k n d : ℕ) → 0 < n → d ≤ n → k < 10000 → k * 90000 * d / n ≤ 899910000
ticks_below k n d pos le lt =
    div-le_of_le-mul n {n = 899910000}
    (omega (arith, mul-le (k * 90000) d 899910000 n (omega arith) le))

ticks_up : (j k n d : ℕ) → 0 < n → n ≤ 300 * d → j < k → j * 90000 * d / n < k * 90000 * d / n
ticks_up j k n d pos le lt =
    let q : ℕ = j * 90000 * d / n in
    let have : q * n ≤ j * 90000 * d = div-mul-le_self (j * 90000 * d) n in
    let step : (j * 90000 + 90000) * d ≤ k * 90000 * d =
    mul-le (j * 90000 + 90000) d (k * 90000) d (omega arith) (omega arith) in
    let more : (q + 1) * n ≤ k * 90000 * d = omega arith in
    omega (arith, le-div (q + 1) (k * 90000 * d) n pos more)

few_ticks : (f : Format) (k : ℕ) → k < 10000 → ticks f k ≤ 899910000
few_ticks f k lt = ticks_below k f.n f.d f.sane_rate.some_n f.sane_rate.at_least_one lt

more_ticks : (f : Format) (j k : ℕ) → j < k → ticks f j < ticks f k
more_ticks f j k lt = ticks_up j k f.n f.d f.sane_rate.some_n f.sane_rate.at_most_300 lt

pub ahead_ticks : (base t ts : ℕ) → t ≤ 899910000 → ts ≡ (base + t) % 2 ^ 32 → ahead_of ts base ≡ t
ahead_ticks base t ts few e = omega arith

-- a datagram's time is its picture's
time_is : (o : Opening) (f : Format) (base k : ℕ) (octets : List ℕ) → k < 10000
    → (st : IsStamped o octets (timestamp_of f base k))
    → time_behind base (reading_of o octets) ≡ picture_time f base k
time_is o f base k octets few st =
    ap (time_behind base) st.read
    ∙ ap (λ (t : ℕ). base + t)
    (ahead_ticks base (ticks f k) st.datagram.timestamp (few_ticks f k few) st.is)

-- the times of pictures from the k-th on
abbrev picture_times : Format → ℕ → ℕ → List Values → List ℕ
picture_times f base k [] = []
picture_times f base k (p ∷ ps) = picture_time f base k ∷ picture_times f base (k + 1) ps

later_times : (f : Format) (base j k : ℕ) (ps : List Values) → j < k
    → AllByRecursion (λ u. picture_time f base j < u) (picture_times f base k ps)
later_times f base j k [] lt = tt
later_times f base j k (p ∷ ps) lt =
    let more : ticks f j < ticks f k = more_ticks f j k lt in
    (omega (arith, more), later_times f base j (k + 1) ps (omega (arith, lt)))

times_rise : (f : Format) (base k : ℕ) (ps : List Values) → Rises (picture_times f base k ps)
times_rise f base k [] = tt
times_rise f base k (p ∷ ps) =
    (later_times f base k (k + 1) ps (omega arith), times_rise f base (k + 1) ps)

time_in : (f : Format) (base k j : ℕ) (ps : List Values) → j < length ps
    → IsMember (picture_time f base (k + j)) (picture_times f base k ps)
time_in f base k j [] lt = absurd (omega (arith, lt))
time_in f base k zero (p ∷ ps) lt = inl (ap (picture_time f base) (none k))
  where
    none : (k : ℕ) → k + 0 ≡ k
    none k = omega arith
time_in f base k (suc j) (p ∷ ps) lt =
    inr (subst (λ (i : ℕ). IsMember (picture_time f base i) (picture_times f base (k + 1) ps))
    (next k j) (time_in f base (k + 1) j ps (omega (arith, lt))))
  where
    next : (k j : ℕ) → k + 1 + j ≡ k + suc j
    next k j = omega arith

-- a time of these is a picture's
record IsTimeOf (f : Format) (base k u : ℕ) (ps : List Values) : Type 0 where
  number : ℕ
  picture : Values
  there : slice_get ps number ≡ Some picture
  is : u ≡ picture_time f base (k + number)

time_from : (f : Format) (base k u : ℕ) (ps : List Values)
    → IsMember u (picture_times f base k ps) → IsTimeOf f base k u ps
time_from f base k u [] m = absurd m
time_from f base k u (p ∷ ps) (inl e) = record {
  number = 0;
  picture = p;
  there = refl;
  is = e ∙ ap (picture_time f base) (none k);
}
  where
    none : (k : ℕ) → k ≡ k + 0
    none k = omega arith
time_from f base k u (p ∷ ps) (inr m) =
    let r = time_from f base (k + 1) u ps m in record {
      number = suc r.number;
      picture = r.picture;
      there = r.there;
      is = r.is ∙ ap (picture_time f base) (next k r.number);
    }
  where
    next : (k j : ℕ) → k + 1 + j ≡ k + suc j
    next k j = omega arith

-- ---- the datagrams that came

pub timed-octets : (o : Opening) (base : ℕ) (ds : List (List ℕ))
    → octets_of (map (timed_from o base) ds) ≡ ds
timed-octets o base [] = refl
timed-octets o base (d ∷ ds) = ap (λ (xs : List (List ℕ)). d ∷ xs) (timed-octets o base ds)

abbrev handed_by : Sender → ℕ → Raster → Handed
handed_by s k r = record { timestamp = timestamp_of s.format s.base k; frame = r }

module _ (o : Opening) (s : Sender) (ps : List Values) (ds : List (List ℕ))
    (all : BroughtAll o s ps ds) where
  of_one : (octets : List ℕ) → IsMember octets ds → IsOfPicture o s 0 (length ps) octets
  of_one octets m =
      sender_read o s 0 ps all.first all.sent octets all.opened all.list.sent
      (all.same.forth octets m)

  same_number : (k : ℕ) → 0 + k ≡ k
  same_number k = omega arith

  -- the time of what came is a picture's
  came_at : (octets : List ℕ) (m : IsMember octets ds)
      → time_behind s.base (reading_of o octets)
      ≡ picture_time s.format s.base (of_one octets m).number
  came_at octets m =
      let r = of_one octets m in
      time_is o s.format s.base r.number octets (omega (arith, r.below, all.list.few))
      (subst (λ (i : ℕ). IsStamped o octets (timestamp_of s.format s.base i))
      (same_number r.number) r.stamped)

  abbrev xs : List Timed
  xs = map (timed_from o s.base) ds

  same_reading : (d g : Datagram) → (let r : Result Datagram Refusal = Ok d in r ≡ Ok g) → d ≡ g
  same_reading d g e = cc

  timed : AreTimed o xs
  timed x d m read =
      let r = member-map (timed_from o s.base) x ds m in
      let n = of_one r.0 r.1 in
      let e : d ≡ n.stamped.datagram =
      same_reading d n.stamped.datagram
      (sym read ∙ ap (λ (y : Timed). reading_of o y.octets) r.2 ∙ n.stamped.read) in
      ap (λ (y : Datagram). y.timestamp) e ∙ n.stamped.is
      ∙ ap (timestamp_of s.format s.base) (same_number n.number)
      ∙ ap wrapped (sym (came_at r.0 r.1))
      ∙ ap (λ (y : Timed). wrapped y.time) (sym r.2)

  one_time : (u t : ℕ) (r : Result Datagram Refusal) → IsMember u (time_if t r) → u ≡ t
  one_time u t (Ok d) (inl e) = e
  one_time u t (Ok d) (inr m) = absurd m
  one_time u t (Err e) m = absurd m

  forth : (u : ℕ) → IsMember u (times_of o xs) → IsMember u (picture_times s.format s.base 0 ps)
  forth u m =
      let a = member-flat_map (time_of o) u xs m in
      let r = member-map (timed_from o s.base) a.0 ds a.1 in
      let n = of_one r.0 r.1 in
      let e : u ≡ picture_time s.format s.base n.number =
      one_time u a.0.time (reading_of o a.0.octets) a.2
      ∙ ap (λ (y : Timed). y.time) r.2 ∙ came_at r.0 r.1 in
      subst (λ (v : ℕ). IsMember v (picture_times s.format s.base 0 ps)) (sym e)
      (subst (λ (i : ℕ). IsMember (picture_time s.format s.base i)
      (picture_times s.format s.base 0 ps)) (same_number n.number)
      (time_in s.format s.base 0 n.number ps n.below))

  back : (u : ℕ) → IsMember u (picture_times s.format s.base 0 ps) → IsMember u (times_of o xs)
  back u m =
      let t = time_from s.format s.base 0 u ps m in
      let h = sent-among s all.first ps all.sent t.number t.picture all.list t.there in
      let d = some_sent t.picture (stamp_of s t.number h.first) h.size h.packets h.mine h.picture in
      let here : IsMember d.0 ds = all.same.back d.0 (h.among d.0 d.1) in
      let st : IsStamped o d.0 (timestamp_of s.format s.base t.number) =
      picture_read o t.picture (stamp_of s t.number h.first) 0 h.packets h.mine d.0
      (subst (λ (f : Format). IsOpenFor o f s.payload_type s.ssrc) (sym h.format) all.opened)
      h.picture.sent d.1 in
      let lt : t.number < length ps = slice_get_within ps t.number t.picture t.there in
      let e : time_behind s.base (reading_of o d.0) ≡ picture_time s.format s.base t.number =
      time_is o s.format s.base t.number d.0 (omega (arith, lt, all.list.few)) st in
      subst (λ (v : ℕ). IsMember v (times_of o xs))
      (e ∙ ap (picture_time s.format s.base) (sym (same_number t.number)) ∙ sym t.is)
      (times_has o (timed_from o s.base d.0) st.datagram xs
      (member_of_map (timed_from o s.base) d.0 ds here) st.read)

  order : in_order (times_of o xs) ≡ picture_times s.format s.base 0 ps
  order =
      same_rising (in_order (times_of o xs)) (picture_times s.format s.base 0 ps)
      (rises_behind [] (times_of o xs) tt) (times_rise s.format s.base 0 ps)
      (record {
        forth = λ u m. forth u ((order_members (times_of o xs)).back u m);
        back = λ u m. (order_members (times_of o xs)).forth u (back u m);
      })

  half : AreInHalf s.base (times_of o xs)
  half u m =
      let t = time_from s.format s.base 0 u ps (forth u m) in
      let lt : t.number < length ps = slice_get_within ps t.number t.picture t.there in
      let few : ticks s.format t.number ≤ 899910000 =
      few_ticks s.format t.number (omega (arith, lt, all.list.few)) in
      let e : u ≡ picture_time s.format s.base t.number =
      t.is ∙ ap (picture_time s.format s.base) (same_number t.number) in
      record { from = omega (arith, e); below = omega (arith, e, few) }

  round : AreInRound s.base (times_of o xs)
  round u m =
      let k : IsInHalf s.base u = half u m in
      record { from = k.from; below = omega (arith, k.below) }

  abbrev window_of : ℕ → Opening
  window_of ts = with_window o (ts ∷ [])

  one_frame : (ts : ℕ) (r q : Raster) (b : Bool) → b ≡ true
      → (let x : Option Raster = cond b (Some r) None in x ≡ Some q) → r ≡ q
  one_frame ts r q true e h = cc
  one_frame ts r q false e h = absurd cc

  picture_at : (k : ℕ) (p : Values) → slice_get ps k ≡ Some p
      → frame_of o ds (timestamp_of s.format s.base k) ≡ picture_raster p
  picture_at k p there =
      let ts : ℕ = timestamp_of s.format s.base k in
      one_frame ts (frame_of o ds ts) (picture_raster p) (eqb ts ts) (eq-eqb ts ts refl)
      (frame-all (window_of ts) s all.first ps all.sent ds all.list
      (record {
        format = all.opened.format;
        type_is = all.opened.type_is;
        source = all.opened.source;
      })
      all.same k p there (all.whole p (got ps k p there)) (inl refl))
    where
      got : (ps : List Values) (k : ℕ) (p : Values) → slice_get ps k ≡ Some p → IsMember p ps
      got [] k p e = absurd cc
      got (q ∷ qs) zero p e = inl cc
      got (q ∷ qs) (suc k) p e = inr (got qs k p e)

  handed_in : (k : ℕ) (qs : List Values)
      → ((j : ℕ) (p : Values) → slice_get qs j ≡ Some p → slice_get ps (k + j) ≡ Some p)
      → map (handed_of o ds) (picture_times s.format s.base k qs) ≡ pictures_from s k qs
  handed_in k [] are = refl
  handed_in k (p ∷ qs) are =
      ap
      (λ (r : Raster). handed_by s k r ∷ map (handed_of o ds) (picture_times s.format s.base (k + 1) qs))
      (picture_at k p (subst (λ (i : ℕ). slice_get ps i ≡ Some p) (none k) (are 0 p refl)))
      ∙ ap (λ (hs : List Handed). handed_by s k (picture_raster p) ∷ hs)
      (handed_in (k + 1) qs
      (λ j q e. subst (λ (i : ℕ). slice_get ps i ≡ Some q) (next k j) (are (suc j) q e)))
    where
      none : (k : ℕ) → k + 0 ≡ k
      none k = omega arith

      next : (k j : ℕ) → k + suc j ≡ k + 1 + j
      next k j = omega arith

-- The frames of all times of what came are the pictures.
pub pictures_are : (o : Opening) (s : Sender) (ps : List Values) (ds : List (List ℕ))
    → BroughtAll o s ps ds
    → map (handed_at o (map (timed_from o s.base) ds)) (in_order (times_from o s.base ds))
    ≡ pictures_from s 0 ps
pictures_are o s ps ds all =
    map_whole o s.base (xs o s ps ds all) (timed o s ps ds all) (round o s ps ds all)
    ∙ ap (λ (us : List ℕ). map (handed_of o (octets_of (xs o s ps ds all))) us)
    (order o s ps ds all)
    ∙ ap (λ (es : List (List ℕ)). map (handed_of o es) (picture_times s.format s.base 0 ps))
    (timed-octets o s.base ds)
    ∙ handed_in o s ps ds all 0 ps
    (λ j p e. subst (λ (i : ℕ). slice_get ps i ≡ Some p) (sym (same_number o s ps ds all j)) e)

pub pictures_timed : (o : Opening) (s : Sender) (ps : List Values) (ds : List (List ℕ))
    → BroughtAll o s ps ds → AreTimed o (map (timed_from o s.base) ds)
pictures_timed o s ps ds all = timed o s ps ds all

pub pictures_half : (o : Opening) (s : Sender) (ps : List Values) (ds : List (List ℕ))
    → BroughtAll o s ps ds → AreInHalf s.base (times_from o s.base ds)
pictures_half o s ps ds all = half o s ps ds all

-- The pictures of a sender are handed out, all, in order, with nothing missing.
pub sender_pictures : (o : Opening) (size ahead : ℕ) (s : Sender) (ps : List Values)
    (ds : List (List ℕ)) → 0 < size → BroughtAll o s ps ds
    → IsOrderly size ahead (times_from o s.base ds) → handed_out (opened o size ahead) ds ≡ pictures_from s 0 ps
sender_pictures o size ahead s ps ds some all orderly =
    ap (λ (es : List (List ℕ)). handed_out (opened o size ahead) es) (sym (timed-octets o s.base ds))
    ∙ whole_stream o size ahead (xs o s ps ds all) some (timed o s ps ds all) orderly
    ∙ pictures_are o s ps ds all
