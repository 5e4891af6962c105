-- Frames of a sender's datagrams.
use Rattle.std.proofs.Common.{◌≡◌, ℕ, zero, suc, ◌+◌, ◌*◌, ◌/◌, ◌%◌, ◌^◌, ◌<◌, ◌≤◌, inl, inr, Bool}
use Rattle.std.proofs.Common.{true, false, eqb, ◌&&◌, cond, not, List, [], ◌∷◌, length, map, Result}
use Rattle.std.proofs.Common.{Ok, Err, Option, Some, refl, sym, ap, ◌∙◌, subst, arith}
use Rattle.std.specs.Prelude.{slice_get}
use Rattle.std.specs.List.{flat_map, filter}
use Rattle.std.proofs.lemmas.Bool.{eqb-true, cases_order, cases_lt}
use Rattle.std.proofs.lemmas.List.{get_or_past}
use Rattle.std.proofs.lemmas.Nat.{mul-le, le-div}
use Rattle.std.proofs.lemmas.Option.{slice_get_within}
use Rattle.std.proofs.Math.Nat.{div-le_of_le-mul, div-mul-le_self}
use Rattle.st_format.specs.declared.cell.Cell.{Cell}
use Rattle.st_format.specs.declared.cell.Cell.TheVariants.{Missing, Value, Contested}
use Rattle.st_format.specs.declared.format.Format.{Format}
use Rattle.st_format.specs.Cell.{IsCellOf}
use Rattle.st_format.specs.Member.{IsMember, SameDatagrams}
use Rattle.st_format.specs.Picture.{Values, value_at, timestamp_of}
use Rattle.st_format.specs.Position.{Position, place, number_of, sample_count}
use Rattle.st_format.specs.Offer.{Offer, is_for, values_for, cell_of}
use Rattle.st_format.specs.Raster.{raster_of, cell_at, cells_of}
use Rattle.st_format.proofs.Members.{member-map, member-filter, member-flat_map, member_of_flat_map}
use Rattle.st_format.proofs.Members.{member_left, member_right, member_cases}
use Rattle.st_format.proofs.Cells.{is_cell, is_for-true}
use Rattle.st_format.proofs.Numbering.{number_of-place}
use Rattle.st_format.proofs.Rasters.{length-cells_of, get_or-cells_of}
use Rattle.payload_header.specs.Reading.{payload_walk}
use Rattle.rtp_header.specs.declared.header.RtpFault.{RtpFault}
use Rattle.rtp_header.specs.Grammar.{Rtp, IsRtp}
use Rattle.rtp_header.proofs.Again.{rtp_again}
use Rattle.packet_plan.specs.declared.run.PacketRun.{PacketRun}
use Rattle.packet_plan.specs.declared.stamp.Stamp.{Stamp}
use Rattle.packet_plan.specs.Sent.{sample, AreSent, IsSentPicture}
use Rattle.packet_plan.specs.Sender.{Sender, stamp_of, SendsFrom, IsSenderList}
use Rattle.path_receiver.specs.declared.answer.Refusal.TheVariants.{WrongPayloadType, WrongSource}
use Rattle.path_receiver.specs.Opening.{Opening}
use Rattle.path_receiver.specs.Admission.{datagram_walk, by_header, by_payload, header_for}
use Rattle.st_format.specs.Reading.{◌>>=◌}
use Rattle.path_receiver.specs.Admission.{is_other}
use Rattle.path_receiver.specs.Offers.{offers, offers_of}
use Rattle.path_receiver.specs.Frames.{frames_of, frame_at, cell_if}
use Rattle.path_receiver.specs.Sender.{IsOpenFor, AreAmong, picture_raster, IsSendersValue}
use Rattle.path_receiver.specs.Sender.{IsSendersCell, IsSentAmong}
use Rattle.path_receiver.proofs.Offered.{by_rtp, source_from}
use Rattle.path_receiver.proofs.WholeFrames.{sent_offers, whole_raster, frame-raster}

-- ---- timestamps of different pictures differ

ticks_below : (k n d : ℕ) → 0 < n → d ≤ n → k < 10000 → k * 90000 * d / n ≤ 899910000
ticks_below k n d pos le lt =
    div-le_of_le-mul n {n = 899910000}
    (omega (arith, mul-le (k * 90000) d 899910000 n (omega arith) le))

ticks_up : (j k n d : ℕ) → 0 < n → n ≤ 300 * d → j < k → j * 90000 * d / n < k * 90000 * d / n
ticks_up j k n d pos le lt =
    let q : ℕ = j * 90000 * d / n in
    let have : q * n ≤ j * 90000 * d = div-mul-le_self (j * 90000 * d) n in
    let step : (j * 90000 + 90000) * d ≤ k * 90000 * d =
    mul-le (j * 90000 + 90000) d (k * 90000) d (omega arith) (omega arith) in
    let more : (q + 1) * n ≤ k * 90000 * d = omega arith in
    omega (arith, le-div (q + 1) (k * 90000 * d) n pos more)

apart : (b x y : ℕ) → x < y → y < 2 ^ 32 → (b + x) % 2 ^ 32 ≡ (b + y) % 2 ^ 32 → ⊥
apart b x y lt fits e = absurd (omega arith)

-- Fewer than 10,000 pictures span less than 2 ^ 32 ticks, and each is a tick or more later than the
-- one before.
pub timestamps-differ : (f : Format) (base j k : ℕ) → j < 10000 → k < 10000
    → timestamp_of f base j ≡ timestamp_of f base k → j ≡ k
timestamps-differ f base j k lj lk e =
    let r = f.sane_rate in
    let n : ℕ = f.n in
    let d : ℕ = f.d in
    elim (cases_order j k) [
      | inl h ↦ h
      | inr h ↦ elim h [
        | inl g ↦ absurd
            (apart base (j * 90000 * d / n) (k * 90000 * d / n)
            (ticks_up j k n d r.some_n r.at_most_300 g)
            (omega (arith, ticks_below k n d r.some_n r.at_least_one lk)) e)
        | inr g ↦ absurd
            (apart base (k * 90000 * d / n) (j * 90000 * d / n)
            (ticks_up k j n d r.some_n r.at_most_300 g)
            (omega (arith, ticks_below j n d r.some_n r.at_least_one lj)) (sym e))
      ]
    ]

-- ---- a datagram of another type or source offers nothing

nothing_read : (o : Opening) (r : Rtp) (t s : Bool) → (t && not s) ≡ false
    → offers_of o.format
    (cond (not t) (Err WrongPayloadType) (cond s (Err WrongSource) (Ok r)) >>=
    λ w. by_payload (payload_walk o.format w.payload) >>= by_rtp w) ≡ []
nothing_read o r true true e = refl
nothing_read o r true false e = absurd cc
nothing_read o r false s e = refl

other_offers : (o : Opening) (d : List ℕ) (r : Rtp) (t s : Bool) → IsRtp d r
    → eqb r.payload_type o.payload_type ≡ t → is_other o.ssrc r.ssrc ≡ s → (t && not s) ≡ false
    → offers o d ≡ []
unfolding datagram_walk
other_offers o d r t s is e f none =
    ap (λ (x : Result Rtp RtpFault). offers_of o.format
    (by_header x >>= λ q. header_for o.payload_type o.ssrc q >>=
    λ w. by_payload (payload_walk o.format w.payload) >>= by_rtp w)) (rtp_again r d is)
    ∙ ap
    (λ (b : Bool). offers_of o.format
    (cond (not b) (Err WrongPayloadType)
    (cond (is_other o.ssrc r.ssrc) (Err WrongSource) (Ok r)) >>=
    λ w. by_payload (payload_walk o.format w.payload) >>= by_rtp w)) e
    ∙ ap
    (λ (b : Bool). offers_of o.format
    (cond (not t) (Err WrongPayloadType) (cond b (Err WrongSource) (Ok r)) >>=
    λ w. by_payload (payload_walk o.format w.payload) >>= by_rtp w)) f
    ∙ nothing_read o r t s none

-- the header of a picture's datagram
record HasHeader (stamp : Stamp) (d : List ℕ) : Type 0 where
  header : Rtp
  is_header : IsRtp d header
  payload_type : header.payload_type ≡ stamp.payload_type
  ssrc : header.ssrc ≡ stamp.ssrc

header_of_sent : (p : Values) (stamp : Stamp) (i : ℕ) (qs : List (List PacketRun))
    (ds : List (List ℕ)) (d : List ℕ) → AreSent ds p stamp i qs → IsMember d ds → HasHeader stamp d
header_of_sent p stamp i [] [] d sent m = absurd m
header_of_sent p stamp i [] (e ∷ ds) d sent m = absurd sent
header_of_sent p stamp i (q ∷ qs) [] d sent m = absurd m
header_of_sent p stamp i (q ∷ qs) (e ∷ ds) d sent (inl same) = record {
  header = sent.0.header;
  is_header = subst (λ (x : List ℕ). IsRtp x sent.0.header) (sym same) sent.0.is_header.is;
  payload_type = sent.0.payload_type;
  ssrc = sent.0.ssrc;
}
header_of_sent p stamp i (q ∷ qs) (e ∷ ds) d sent (inr m) =
    header_of_sent p stamp (i + 1) qs ds d sent.1 m

-- What a picture's datagram offers, whatever payload type and source the receiver has
offered_at : (o : Opening) (p : Values) (stamp : Stamp) (size : ℕ) (qs : List (List PacketRun))
    (ds : List (List ℕ)) (t s : Bool) → p.format ≡ o.format → IsSentPicture ds p stamp size qs
    → eqb stamp.payload_type o.payload_type ≡ t → is_other o.ssrc stamp.ssrc ≡ s
    → (d : List ℕ) → IsMember d ds → (x : Offer) → IsMember x (offers o d)
    → (x.timestamp ≡ stamp.timestamp) × (x.value ≡ value_at p x.position)
offered_at o p stamp size qs ds true false same is e f d m x n =
    sent_offers o p stamp size qs ds
    (record {
      format = same;
      type_is = eqb-true stamp.payload_type o.payload_type e;
      source =
          source_from o.ssrc stamp.ssrc f;
    }) is x (member_of_flat_map (offers o) d x ds m n)
offered_at o p stamp size qs ds true true same is e f d m x n =
    let h = header_of_sent p stamp 0 qs ds d is.sent m in
    absurd (subst (λ (os : List Offer). IsMember x os)
    (other_offers o d h.header true true h.is_header
    (ap (λ (k : ℕ). eqb k o.payload_type) h.payload_type ∙ e)
    (ap (is_other o.ssrc) h.ssrc ∙ f) refl) n)
offered_at o p stamp size qs ds false s same is e f d m x n =
    let h = header_of_sent p stamp 0 qs ds d is.sent m in
    absurd (subst (λ (os : List Offer). IsMember x os)
    (other_offers o d h.header false s h.is_header
    (ap (λ (k : ℕ). eqb k o.payload_type) h.payload_type ∙ e)
    (ap (is_other o.ssrc) h.ssrc ∙ f) refl) n)

-- ---- what a sender's list offers

-- the picture that an offer is of, counted from the k-th
record Source (s : Sender) (k : ℕ) (ps : List Values) (x : Offer) : Type 0 where
  number : ℕ
  picture : Values
  there : slice_get ps number ≡ Some picture
  format : picture.format ≡ s.format
  time : timestamp_of s.format s.base (k + number) ≡ x.timestamp
  value : x.value ≡ value_at picture x.position

source_of : (o : Opening) (s : Sender) (k : ℕ) (ps : List Values) (first : ℕ) (ds : List (List ℕ))
    → s.format ≡ o.format → SendsFrom s k ps first ds
    → (d : List ℕ) → IsMember d ds → (x : Offer) → IsMember x (offers o d) → Source s k ps x
source_of o s k [] first ds same sends d m x n =
    absurd (subst (λ (ys : List (List ℕ)). IsMember d ys) sends m)
source_of o s k (p ∷ ps) first ds same sends d m x n =
    elim (member_cases d sends.mine sends.others
    (subst (λ (ys : List (List ℕ)). IsMember d ys) sends.whole m)) [
      | inl mine ↦
          let r =
          offered_at o p (stamp_of s k first) sends.size sends.packets sends.mine
          (eqb s.payload_type o.payload_type) (is_other o.ssrc s.ssrc)
          (sends.format ∙ same) sends.picture refl refl d mine x n in
          let z : k + 0 ≡ k = omega arith in
          record {
            number = 0;
            picture = p;
            there = refl;
            format = sends.format;
            time =
                ap (timestamp_of s.format s.base) z ∙ sym r.0;
            value = r.1;
          }
      | inr later ↦
          let r =
          source_of o s (k + 1) ps
          ((first + length sends.packets) % 2 ^ 32) sends.others same sends.rest d later x n in
          let z : k + suc r.number ≡ k + 1 + r.number = omega arith in
          record {
            number = suc r.number;
            picture = r.picture;
            there = r.there;
            format =
                r.format;
            time = ap (timestamp_of s.format s.base) z ∙ r.time;
            value = r.value;
          }
    ]

abbrev some_values : Values → Option Values
some_values p = Some p

same_some : (p q : Values) → some_values p ≡ some_values q → p ≡ q
same_some p q h = cc

-- Pictures of one timestamp are one picture.
one_picture : (s : Sender) (ps : List Values) (j k ts : ℕ) (p q : Values) → length ps ≤ 10000
    → slice_get ps j ≡ Some p → slice_get ps k ≡ Some q
    → timestamp_of s.format s.base j ≡ ts → timestamp_of s.format s.base k ≡ ts → p ≡ q
one_picture s ps j k ts p q few at_j at_k e h =
    let same : j ≡ k =
    timestamps-differ s.format s.base j k (omega (arith, slice_get_within ps j p at_j))
    (omega (arith, slice_get_within ps k q at_k)) (e ∙ sym h) in
    same_some p q (sym at_j ∙ ap (slice_get ps) same ∙ at_k)

-- each of them is the sender's
abbrev AllSenders : Sender → List Values → List Offer → Type 0
AllSenders s ps os = (x : Offer) → IsMember x os → Source s 0 ps x

all-senders : (o : Opening) (s : Sender) (ps : List Values) (first : ℕ) (ds xs : List (List ℕ))
    → s.format ≡ o.format → SendsFrom s 0 ps first ds → AreAmong xs ds
    → AllSenders s ps (flat_map (offers o) xs)
all-senders o s ps first ds xs same sends among x m =
    let d = member-flat_map (offers o) x xs m in
    source_of o s 0 ps first ds same sends d.0 (among d.0 d.1) x d.2

senders_value : (s : Sender) (ps : List Values) (os : List Offer) (ts : ℕ) (at : Position) (v : ℕ)
    → AllSenders s ps os → IsMember v (values_for os ts at) → IsSendersValue v s ps ts at
senders_value s ps os ts at v all m =
    let r = member-map (λ (x : Offer). x.value) v (filter (is_for ts at) os) m in
    let q = member-filter (is_for ts at) r.0 os r.1 in
    let h = is_for-true ts at r.0 q.1 in
    let w = all r.0 q.0 in
    let z : w.number ≡ 0 + w.number = omega arith in
    record {
      number = w.number;
      picture = w.picture;
      there = w.there;
      time =
          ap (timestamp_of s.format s.base) z ∙ w.time ∙ h.0;
      is =
          ap (value_at w.picture) (sym h.1) ∙ sym w.value ∙ sym r.2;
    }

-- ---- the cells

cell_by : (s : Sender) (ps : List Values) (os : List Offer) (ts : ℕ) (at : Position) (c : Cell)
    → length ps ≤ 10000 → AllSenders s ps os → IsCellOf (values_for os ts at) c
    → IsSendersCell c s ps ts at
cell_by s ps os ts at Missing few all is = tt
cell_by s ps os ts at (Value v) few all is = senders_value s ps os ts at v all is.0
cell_by s ps os ts at Contested few all is =
    let a = senders_value s ps os ts at is.0 all is.2 in
    let b = senders_value s ps os ts at is.1 all is.3 in
    let same : a.picture ≡ b.picture =
    one_picture s ps a.number b.number ts a.picture b.picture few a.there b.there a.time
    b.time in
    absurd (is.4 (sym a.is ∙ ap (λ (p : Values). value_at p at) same ∙ b.is))

-- each picture has this format
abbrev AllOf : Format → List Values → Type 0
AllOf f ps = (j : ℕ) (p : Values) → slice_get ps j ≡ Some p → p.format ≡ f

-- Places of one number have one value.
same_number : (s : Sender) (ps : List Values) (ts : ℕ) (f : Format) (at : Position) (c : Cell)
    → AllOf f ps → IsSendersCell c s ps ts (place f (number_of f at)) → IsSendersCell c s ps ts at
same_number s ps ts f at Missing formats is = tt
same_number s ps ts f at (Value v) formats is =
    let form : is.picture.format ≡ f = formats is.number is.picture is.there in
    let n : ℕ = number_of f at in
    let numbers : number_of is.picture.format at ≡ number_of is.picture.format (place f n) =
    ap (λ (g : Format). number_of g at) form ∙ sym (number_of-place f n)
    ∙ ap (λ (g : Format). number_of g (place f n)) (sym form) in
    record {
      number = is.number;
      picture = is.picture;
      there = is.there;
      time = is.time;
      is =
          ap (sample is.picture) numbers ∙ is.is;
    }
same_number s ps ts f at Contested formats is = is

raster_cell : (s : Sender) (ps : List Values) (os : List Offer) (ts : ℕ) (f : Format)
    (at : Position) → length ps ≤ 10000 → AllOf f ps → AllSenders s ps os
    → IsSendersCell (cell_at (raster_of f os ts) at) s ps ts at
raster_cell s ps os ts f at few formats all =
    let n : ℕ = number_of f at in
    elim (cases_lt n (sample_count f)) [
      | inl lt ↦ subst (λ (c : Cell). IsSendersCell c s ps ts at)
          (sym (get_or-cells_of f os ts n lt))
          (same_number s ps ts f at (cell_of os ts (place f n)) formats
          (cell_by s ps os ts (place f n) (cell_of os ts (place f n)) few all
          (is_cell (values_for os ts (place f n)))))
      | inr le ↦ subst (λ (c : Cell). IsSendersCell c s ps ts at)
          (sym (get_or_past (cells_of f os ts) n Missing
          (omega (arith, length-cells_of f os ts)))) tt
    ]

first_cell : (s : Sender) (ps : List Values) (os : List Offer) (ts : ℕ) (f : Format)
    (at : Position) (t : ℕ) (w : List ℕ) (b : Bool) → eqb ts t ≡ b
    → IsSendersCell (cell_at (raster_of f os ts) at) s ps ts at
    → IsSendersCell (cell_if (frame_at w (map (raster_of f os) w) ts) at) s ps ts at
    → IsSendersCell
    (cell_if (cond b (Some (raster_of f os t))
    (frame_at w (map (raster_of f os) w) ts)) at) s ps ts at
first_cell s ps os ts f at t w true e here rest =
    subst (λ (x : ℕ). IsSendersCell (cell_at (raster_of f os x) at) s ps ts at)
    (eqb-true ts t e) here
first_cell s ps os ts f at t w false e here rest = rest

window_cell : (s : Sender) (ps : List Values) (os : List Offer) (ts : ℕ) (f : Format)
    (at : Position) (w : List ℕ) → IsSendersCell (cell_at (raster_of f os ts) at) s ps ts at
    → IsSendersCell (cell_if (frame_at w (map (raster_of f os) w) ts) at) s ps ts at
window_cell s ps os ts f at [] here = tt
window_cell s ps os ts f at (t ∷ w) here =
    first_cell s ps os ts f at t w (eqb ts t) refl here (window_cell s ps os ts f at w here)

-- ---- the pictures of a sender's list

sent_from : (s : Sender) (k : ℕ) (ps : List Values) (first : ℕ) (ds : List (List ℕ)) (j : ℕ)
    (p : Values) → SendsFrom s k ps first ds → slice_get ps j ≡ Some p → IsSentAmong p s (k + j) ds
sent_from s k [] first ds j p sends at = absurd cc
sent_from s k (q ∷ ps) first ds zero p sends at =
    let z : k ≡ k + 0 = omega arith in
    let here : IsSentAmong q s k ds = record {
      first = first;
      size = sends.size;
      packets = sends.packets;
      mine = sends.mine;
      format = sends.format;
      picture = sends.picture;
      among =
          λ d m. subst (λ (ys : List (List ℕ)). IsMember d ys) (sym sends.whole)
          (member_left d sends.mine sends.others m);
    } in
    subst (λ (i : ℕ). IsSentAmong p s i ds) z
    (subst (λ (w : Values). IsSentAmong w s k ds) (same_some q p at) here)
sent_from s k (q ∷ ps) first ds (suc j) p sends at =
    let z : k + 1 + j ≡ k + suc j = omega arith in
    let r =
    sent_from s (k + 1) ps
    ((first + length sends.packets) % 2 ^ 32) sends.others j p sends.rest at in
    let later : IsSentAmong p s (k + 1 + j) ds = record {
      first = r.first;
      size = r.size;
      packets = r.packets;
      mine = r.mine;
      format = r.format;
      picture = r.picture;
      among =
          λ d m. subst (λ (ys : List (List ℕ)). IsMember d ys) (sym sends.whole)
          (member_right d sends.mine sends.others (r.among d m));
    } in
    subst (λ (i : ℕ). IsSentAmong p s i ds) z later

-- Each picture of a sender's list is sent by it.
pub sent-among : (s : Sender) (first : ℕ) (ps : List Values) (ds : List (List ℕ)) (k : ℕ)
    (p : Values) → IsSenderList ds s first ps → slice_get ps k ≡ Some p → IsSentAmong p s k ds
sent-among s first ps ds k p is at = let z : 0 + k ≡ k =
    omega arith in subst (λ (i : ℕ). IsSentAmong p s i ds) z
    (sent_from s 0 ps first ds k p is.sent at)

-- ---- frames

-- the cell of Frames at a timestamp and a position
abbrev pub frame_cell : Opening → List (List ℕ) → ℕ → Position → Cell
frame_cell o datagrams timestamp at =
    cell_if (frame_at o.window (frames_of o datagrams) timestamp) at

-- Where every datagram is a sender's, so is each cell.
pub cells-senders : (o : Opening) (s : Sender) (first : ℕ) (ps : List Values)
    (ds xs : List (List ℕ)) → IsSenderList ds s first ps → s.format ≡ o.format → AreAmong xs ds
    → (ts : ℕ) (at : Position) → IsSendersCell (frame_cell o xs ts at) s ps ts at
cells-senders o s first ps ds xs is same among ts at =
    let os : List Offer = flat_map (offers o) xs in
    window_cell s ps os ts o.format at o.window
    (raster_cell s ps os ts o.format at is.few
    (λ j p there. (sent-among s first ps ds j p is there).format ∙ same)
    (all-senders o s ps first ds xs same is.sent among))

pub never-contested : (o : Opening) (s : Sender) (first : ℕ) (ps : List Values)
    (ds xs : List (List ℕ)) → IsSenderList ds s first ps → s.format ≡ o.format → AreAmong xs ds
    → (ts : ℕ) (at : Position) → frame_cell o xs ts at ≡ Contested → ⊥
never-contested o s first ps ds xs is same among ts at e =
    subst (λ (c : Cell). IsSendersCell c s ps ts at) e
    (cells-senders o s first ps ds xs is same among ts at)

pub values-senders : (o : Opening) (s : Sender) (first : ℕ) (ps : List Values)
    (ds xs : List (List ℕ)) → IsSenderList ds s first ps → s.format ≡ o.format → AreAmong xs ds
    → (k : ℕ) (p : Values) (at : Position) (v : ℕ) → slice_get ps k ≡ Some p
    → frame_cell o xs (timestamp_of s.format s.base k) at ≡ Value v → v ≡ value_at p at
values-senders o s first ps ds xs is same among k p at v there e =
    let ts : ℕ = timestamp_of s.format s.base k in
    let r : IsSendersValue v s ps ts at =
    subst (λ (c : Cell). IsSendersCell c s ps ts at) e
    (cells-senders o s first ps ds xs is same among ts at) in
    sym r.is
    ∙ ap (λ (q : Values). value_at q at)
    (one_picture s ps r.number k ts r.picture p is.few r.there there r.time refl)

-- Where every datagram is a sender's and all of a picture's are there, the frame is the picture.
pub frame-senders : (o : Opening) (s : Sender) (first : ℕ) (ps : List Values)
    (ds xs : List (List ℕ)) → IsSenderList ds s first ps
    → IsOpenFor o s.format s.payload_type s.ssrc → AreAmong xs ds
    → (k : ℕ) (p : Values) → slice_get ps k ≡ Some p → length p.samples ≡ sample_count p.format
    → IsMember (timestamp_of s.format s.base k) o.window
    → (number size : ℕ) (qs : List (List PacketRun)) (mine : List (List ℕ))
    → IsSentPicture mine p (stamp_of s k number) size qs → AreAmong mine xs
    → frame_at o.window (frames_of o xs) (timestamp_of s.format s.base k) ≡ Some (picture_raster p)
frame-senders o s first ps ds xs is opened among k p there whole inside number size qs mine sent
    all =
    let ts : ℕ = timestamp_of s.format s.base k in
    let form : p.format ≡ o.format =
    (sent-among s first ps ds k p is there).format ∙ opened.format in
    let only : (x : Offer) → IsMember x (flat_map (offers o) xs) → x.timestamp ≡ ts
    → x.value ≡ value_at p x.position = λ x m e.
    let r = all-senders o s ps first ds xs opened.format is.sent among x m in
    let z : r.number ≡ 0 + r.number = omega arith in
    r.value ∙ ap (λ (q : Values). value_at q x.position)
    (one_picture s ps r.number k ts r.picture p is.few r.there there
    (ap (timestamp_of s.format s.base) z ∙ r.time ∙ e) refl) in
    frame-raster o xs ts inside
    ∙ ap Some
    (whole_raster o p (stamp_of s k number) size qs mine xs
    (record {
      format = form;
      type_is = opened.type_is;
      source =
          opened.source;
    }) sent whole all only)

-- Where they have the same members, each frame of a picture is the picture.
pub frame-all : (o : Opening) (s : Sender) (first : ℕ) (ps : List Values) (ds xs : List (List ℕ))
    → IsSenderList ds s first ps → IsOpenFor o s.format s.payload_type s.ssrc → SameDatagrams xs ds
    → (k : ℕ) (p : Values) → slice_get ps k ≡ Some p → length p.samples ≡ sample_count p.format
    → IsMember (timestamp_of s.format s.base k) o.window
    → frame_at o.window (frames_of o xs) (timestamp_of s.format s.base k) ≡ Some (picture_raster p)
frame-all o s first ps ds xs is opened same k p there whole inside =
    let h = sent-among s first ps ds k p is there in
    frame-senders o s first ps ds xs is opened same.forth k p there whole inside h.first h.size
    h.packets h.mine h.picture (λ d m. same.back d (h.among d m))
