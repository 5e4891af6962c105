-- What the datagrams of a picture offer.
use Rattle.std.proofs.Common.{◌≡◌, ℕ, zero, suc, ◌+◌, ◌*◌, ◌/◌, ◌<◌, Bool, List, [], ◌∷◌, ◌++◌, map}
use Rattle.std.proofs.Common.{refl, sym, ap, ◌∙◌, subst, arith}
use Rattle.std.specs.List.{flat_map, range_with_len, AllZip}
use Rattle.std.proofs.lemmas.List.{map-append}
use Rattle.std.proofs.lemmas.List.Concat.{flat_map-append}
use Rattle.st_format.specs.declared.format.Format.{Format}
use Rattle.st_format.specs.declared.sampling.Sampling.{Sampling}
use Rattle.st_format.specs.declared.sampling.Sampling.TheVariants.{Ycc422, Ycc444, Rgb}
use Rattle.st_format.specs.declared.sampling.Depth.{Depth}
use Rattle.st_format.specs.declared.sampling.Depth.TheVariants.{D8, D10, D12, D16}
use Rattle.st_format.specs.Pgroup.{pixel_group, bits_of}
use Rattle.st_format.specs.Picture.{Values}
use Rattle.st_format.specs.Position.{place, places, run_columns, run_samples, row_groups}
use Rattle.st_format.specs.Offer.{Offer}
use Rattle.st_format.specs.Raster.{Segment, first_number, offers_from, offers_in, offers_in_all}
use Rattle.st_format.proofs.Numbering.{number_of-place}
use Rattle.st_format.proofs.Spelled.{values_in-spelled}
use Rattle.payload_header.specs.Payload.{group_of, IsPayload}
use Rattle.rtp_header.specs.Grammar.{Rtp}
use Rattle.packet_plan.specs.declared.run.PacketRun.{PacketRun}
use Rattle.packet_plan.specs.declared.stamp.Stamp.{Stamp}
use Rattle.packet_plan.specs.Plan.{numbers}
use Rattle.packet_plan.specs.Sent.{sample, group_samples, run_values, CarriesRun, IsSentPacket}
use Rattle.packet_plan.specs.Sent.{is_empty, AreSent, IsSentPicture}
use Rattle.packet_plan.proofs.RunLemmas.{groups_joined, row_by, count_is}
use Rattle.path_receiver.specs.Opening.{Opening, IsSource}
use Rattle.path_receiver.specs.Grammar.{Datagram, IsDatagram}
use Rattle.path_receiver.specs.Offers.{offers}
use Rattle.path_receiver.specs.Sender.{IsOpenFor, offer_at, run_offers}
use Rattle.st_format.specs.Position.{positions_of_group, group_count}
use Rattle.path_receiver.proofs.Offered.{offers-for}

-- ---- a run

-- samples in turn, by their positions
offers_from-samples : (p : Values) (ts k n : ℕ)
    → offers_from p.format ts k (map (sample p) (range_with_len k n))
    ≡ map (offer_at p ts) (map (place p.format) (range_with_len k n))
offers_from-samples p ts k zero = refl
offers_from-samples p ts k (suc n) =
    rw (offers_from-samples p ts (k + 1) n, number_of-place p.format k) refl

-- a run's first sample, by columns and by pgroups
columns_by : (s : Sampling) (d : Depth) (first : ℕ)
    → first * (pixel_group s d).pixels / run_columns s * run_samples s
    ≡ first * (pixel_group s d).samples
columns_by Ycc422 D8 first = omega arith
columns_by Ycc422 D10 first = omega arith
columns_by Ycc422 D12 first = omega arith
columns_by Ycc422 D16 first = omega arith
columns_by Ycc444 D8 first = omega arith
columns_by Ycc444 D10 first = omega arith
columns_by Ycc444 D12 first = omega arith
columns_by Ycc444 D16 first = omega arith
columns_by Rgb D8 first = omega arith
columns_by Rgb D10 first = omega arith
columns_by Rgb D12 first = omega arith
columns_by Rgb D16 first = omega arith

first_number-run : (p : Values) (r : PacketRun) (s : Segment) → CarriesRun p r s
    → (r.row * row_groups p.format + r.first) * group_samples p.format ≡ first_number p.format s
first_number-run p r s c =
    let f : Format = p.format in
    let g : ℕ = group_samples f in
    let up : (r.row * (f.width / (group_of f).pixels) + r.first) * g
    ≡ r.row * (f.width / (group_of f).pixels * g) + r.first * g = omega arith in
    up
    ∙ ap (λ (k : ℕ). r.row * k + r.first * g)
    (row_by f.sampling f.depth f.width f.whole_width.whole_groups)
    ∙ ap (λ (k : ℕ). r.row * (f.width / run_columns f.sampling * run_samples f.sampling) + k)
    (sym (columns_by f.sampling f.depth r.first))
    ∙ ap
    (λ (k : ℕ). k * (f.width / run_columns f.sampling * run_samples f.sampling) + r.first *
    (group_of f).pixels / run_columns f.sampling * run_samples f.sampling) (sym c.row)
    ∙ ap
    (λ (k : ℕ). s.row *
    (f.width / run_columns f.sampling * run_samples f.sampling)
    + k / run_columns f.sampling * run_samples f.sampling) (sym c.offset)

some_bits : (d : Depth) → 0 < bits_of d
some_bits D8 = omega arith
some_bits D10 = omega arith
some_bits D12 = omega arith
some_bits D16 = omega arith

-- What a segment offers that carries a run
offers_in-run : (p : Values) (ts : ℕ) (r : PacketRun) (s : Segment) → CarriesRun p r s
    → offers_in p.format ts s ≡ run_offers p ts r
offers_in-run p ts r s c =
    let f : Format = p.format in
    let w : ℕ = group_samples f in
    let g : ℕ = r.row * row_groups f + r.first in
    ap (offers_from f ts (first_number f s))
    (values_in-spelled (bits_of f.depth) s.octets (run_values p r) (some_bits f.depth) c.spells
    ∙ groups_joined (sample p) w g r.groups)
    ∙ ap (λ (k : ℕ). offers_from f ts k (map (sample p) (range_with_len (g * w) (r.groups * w))))
    (sym (first_number-run p r s c))
    ∙ offers_from-samples p ts (g * w) (r.groups * w)
    ∙ ap (map (offer_at p ts)) (sym (groups_joined (place f) w g r.groups))

offers_in_all-runs : (p : Values) (ts : ℕ) (rs : List PacketRun) (ss : List Segment)
    → AllZip (CarriesRun p) rs ss → offers_in_all p.format ts ss ≡ flat_map (run_offers p ts) rs
offers_in_all-runs p ts [] [] c = refl
offers_in_all-runs p ts [] (s ∷ ss) c = absurd c
offers_in_all-runs p ts (r ∷ rs) [] c = absurd c
offers_in_all-runs p ts (r ∷ rs) (s ∷ ss) c =
    ap (λ (os : List Offer). os ++ offers_in_all p.format ts ss) (offers_in-run p ts r s c.0)
    ∙ ap (λ (os : List Offer). run_offers p ts r ++ os) (offers_in_all-runs p ts rs ss c.1)

-- ---- a datagram

-- The i-th datagram of a picture offers the picture's values at the positions of its runs.
pub offers-packet : (o : Opening) (p : Values) (stamp : Stamp) (i : ℕ) (l : Bool)
    (rs : List PacketRun) (d : List ℕ) → IsOpenFor o p.format stamp.payload_type stamp.ssrc
    → IsSentPacket d p stamp i l rs
    → offers o d ≡ flat_map (run_offers p stamp.timestamp) rs
offers-packet o p stamp i l rs d opened sent =
    let h : Rtp = sent.header in
    let g : Datagram =
    record {
      payload_type = h.payload_type;
      number =
          65536 * sent.extended + h.sequence;
      timestamp = h.timestamp;
      ssrc = h.ssrc;
      marker =
          h.marker;
      segments = sent.segments;
    } in
    let is : IsDatagram d o.format g = record {
      sequence = h.sequence;
      extended = sent.extended;
      payload = h.payload;
      is_header = sent.is_header.is;
      is_payload =
          subst (λ
          (f : Format). IsPayload h.payload f sent.extended sent.segments) opened.format
          sent.is_payload.is_payload;
      number_is = refl;
    } in
    offers-for o d g
    (record {
      is = is;
      type_is = sent.payload_type ∙ opened.type_is;
      source =
          subst (λ (x : ℕ). IsSource o.ssrc x) (sym sent.ssrc) opened.source;
    })
    ∙ ap (λ (f : Format). offers_in_all f h.timestamp sent.segments) (sym opened.format)
    ∙ ap (λ (ts : ℕ). offers_in_all p.format ts sent.segments) sent.timestamp
    ∙ offers_in_all-runs p stamp.timestamp rs sent.segments sent.carries

-- ---- a picture

joined_through : {A B C D : Type 0} (h : C → D) (g : B → List C) (n : A → List B) (xs : List A)
    → flat_map (λ x. map h (flat_map g (n x))) xs ≡ map h (flat_map g (flat_map n xs))
joined_through h g n [] = refl
joined_through h g n (x ∷ xs) =
    ap (λ (ys : List _). map h (flat_map g (n x)) ++ ys) (joined_through h g n xs)
    ∙ sym (map-append h (flat_map g (n x)) (flat_map g (flat_map n xs)))
    ∙ ap (map h) (sym (flat_map-append g (n x) (flat_map n xs)))

abbrev packet_offers : Values → ℕ → List PacketRun → List Offer
packet_offers p ts q =
    map (offer_at p ts) (flat_map (positions_of_group p.format) (flat_map (numbers p.format) q))

offers-packets : (o : Opening) (p : Values) (stamp : Stamp) (i : ℕ) (qs : List (List PacketRun))
    (ds : List (List ℕ)) → IsOpenFor o p.format stamp.payload_type stamp.ssrc
    → AreSent ds p stamp i qs
    → flat_map (offers o) ds ≡ flat_map (packet_offers p stamp.timestamp) qs
offers-packets o p stamp i [] [] opened sent = refl
offers-packets o p stamp i [] (d ∷ ds) opened sent = absurd sent
offers-packets o p stamp i (q ∷ qs) [] opened sent = absurd sent
offers-packets o p stamp i (q ∷ qs) (d ∷ ds) opened sent =
    ap (λ (os : List Offer). os ++ flat_map (offers o) ds)
    (offers-packet o p stamp i (is_empty qs) q d opened sent.0
    ∙ joined_through (offer_at p stamp.timestamp) (positions_of_group p.format)
    (numbers p.format) q)
    ∙ ap (λ (os : List Offer). packet_offers p stamp.timestamp q ++ os)
    (offers-packets o p stamp (i + 1) qs ds opened sent.1)

-- The datagrams of a picture offer its value at each position, in raster order, once.
pub offers-picture : (o : Opening) (p : Values) (stamp : Stamp) (size : ℕ)
    (qs : List (List PacketRun)) (ds : List (List ℕ))
    → IsOpenFor o p.format stamp.payload_type stamp.ssrc → IsSentPicture ds p stamp size qs
    → flat_map (offers o) ds ≡ map (offer_at p stamp.timestamp) (places p.format)
offers-picture o p stamp size qs ds opened is =
    let f : Format = p.format in
    let w : ℕ = group_samples f in
    let z : 0 * w ≡ 0 = omega arith in
    offers-packets o p stamp 0 qs ds opened is.sent
    ∙ joined_through (offer_at p stamp.timestamp) (positions_of_group f) (flat_map (numbers f)) qs
    ∙ ap (map (offer_at p stamp.timestamp))
    (ap (flat_map (positions_of_group f)) is.plan.whole
    ∙ groups_joined (place f) w 0 (group_count f)
    ∙ ap (λ (k : ℕ). map (place f) (range_with_len k (group_count f * w))) z
    ∙ ap (λ (k : ℕ). map (place f) (range_with_len 0 k)) (count_is f))
