-- What is written is in the grammar.
use Rattle.std.proofs.Common.{◌≡◌, ℕ, ◌+◌, ◌*◌, ◌/◌, ◌%◌, ◌^◌, ◌<◌, ◌≤◌, Bool, true, List, [], ◌∷◌}
use Rattle.std.proofs.Common.{◌++◌, length, map, take, append_assoc, refl, sym, ap, ◌∙◌, subst}
use Rattle.std.proofs.Common.{arith}
use Rattle.std.specs.List.{flat_map, range_with_len, AllByRecursion, AllZip}
use Rattle.std.proofs.lemmas.List.{append-nil, length-append, length-take-le, take_at}
use Rattle.std.proofs.lemmas.List.Elements.{All-from_recursion, recursion_from_All}
use Rattle.std.proofs.Math.Nat.{mul-div_left, mul-mod_left}
use Rattle.st_format.specs.declared.format.Format.{Format}
use Rattle.st_format.specs.Pgroup.{bits_of}
use Rattle.st_format.specs.Picture.{Values, IsPicture, FitsDepth}
use Rattle.st_format.specs.Raster.{Segment}
use Rattle.rtp_header.specs.Grammar.{Rtp, IsPlainRtp, fixed_text, plain_flags}
use Rattle.rtp_header.proofs.Written.{plain_rtp}
use Rattle.payload_header.specs.Payload.{group_of, header_text, IsInside}
use Rattle.payload_header.specs.Writing.{HeadFits, Announces, AreInside, AreHeads, IsWholePayload}
use Rattle.payload_header.specs.Writing.{data_text, payload_front, header_of_head, headers_of_heads}
use Rattle.payload_header.specs.declared.writing.SegmentHead.{SegmentHead}
use Rattle.payload_header.proofs.Written.{is_written_payload}
use Rattle.packet_plan.specs.declared.run.PacketRun.{PacketRun}
use Rattle.packet_plan.specs.declared.stamp.Stamp.{Stamp}
use Rattle.packet_plan.specs.Plan.{IsPacket, IsRasterPlan, group_octets, numbers}
use Rattle.st_format.specs.Position.{group_count}
use Rattle.packet_plan.specs.Plan.{packet_octets, IsFullPlan, RasterPlan, packet_at}
use Rattle.packet_plan.specs.Sent.{CarriesRun, run_values, IsSentPacket, IsSentPicture, AreSent}
use Rattle.packet_plan.specs.Sent.{is_empty}
use Rattle.packet_plan.specs.Text.{AreRuns, HasHead, IsStamp, head_of, run_octets, payload_text}
use Rattle.packet_plan.specs.Text.{header_of, number_of, datagram_text, datagram_texts}
use Rattle.st_format.proofs.SpelledOctets.{Spells-octets_in}
use Rattle.packet_plan.proofs.RunLemmas.{columns, have_heads, length-run, run_bits, length-runs}
use Rattle.packet_plan.proofs.RunLemmas.{rows_below, run_fits}
use Rattle.packet_plan.proofs.Packets.{some_octets}
use Rattle.packet_plan.proofs.Walks.{front, all_numbers, length-map}

-- ---- the payload

-- the segment that carries a run
abbrev pub segment_of : Values → PacketRun → Segment
segment_of p r =
    record { row = r.row; offset = r.first * (group_of p.format).pixels; octets = run_octets p r }

pub heads_fit : (f : Format) (rs : List PacketRun) → AllByRecursion (HasHead f) rs
    → AllByRecursion HeadFits (map (head_of f) rs)
heads_fit f [] heads = tt
heads_fit f (r ∷ rs) heads =
    let head = heads.0 in (
      record {
        octets = head.small;
        row = omega (arith, head.row, f.whole_height.most);
        offset =
            head.column;
      },
      heads_fit f rs heads.1,
    )

announced : (p : Values) (rs : List PacketRun)
    → AllZip Announces (map (head_of p.format) rs) (map (segment_of p) rs)
announced p [] = tt
announced p (r ∷ rs) =
    (record { octets = sym (length-run p r); row = refl; offset = refl }, announced p rs)

is_inside : (p : Values) (r : PacketRun) → HasHead p.format r → IsInside (segment_of p r) p.format
unfolding group_octets
is_inside p r head =
    let f : Format = p.format in
    let o : ℕ = group_octets f in
    let count : length (run_octets p r) ≡ r.groups * o = length-run p r in
    let cols : (r.first + r.groups) * (group_of f).pixels ≤ f.width = columns f r head.run in
    let up : (r.first + r.groups) * (group_of f).pixels
    ≡ r.first * (group_of f).pixels + r.groups * (group_of f).pixels = omega arith in
    let back : r.groups * o / o ≡ r.groups = mul-div_left r.groups (some_octets f) in
    let inside : r.first * (group_of f).pixels + r.groups * (group_of f).pixels ≤ f.width =
    omega arith in
    record {
      whole_groups = ap (λ (n : ℕ). n % o) count ∙ mul-mod_left r.groups o;
      at_group = mul-mod_left r.first (group_of f).pixels;
      row = head.row;
      columns =
          subst (λ (n : ℕ). r.first * (group_of f).pixels + n * (group_of f).pixels ≤ f.width)
          (sym (ap (λ (n : ℕ). n / o) count ∙ back)) inside;
    }

are_inside : (p : Values) (rs : List PacketRun) → AllByRecursion (HasHead p.format) rs
    → AreInside (map (segment_of p) rs) p.format
are_inside p [] heads = tt
are_inside p (r ∷ rs) heads = (λ some. is_inside p r heads.0, are_inside p rs heads.1)

data_is : (p : Values) (rs : List PacketRun)
    → data_text (map (segment_of p) rs) ≡ flat_map (run_octets p) rs
data_is p [] = refl
data_is p (r ∷ rs) = ap (λ (xs : List ℕ). run_octets p r ++ xs) (data_is p rs)

is_payload : (p : Values) (number : ℕ) (rs : List PacketRun) → number < 2 ^ 32 → AreRuns p.format rs
    → IsWholePayload (payload_text p number rs) p.format (number / 65536) (map (segment_of p) rs)
is_payload p number rs small are =
    let f : Format = p.format in
    let segments : List Segment = map (segment_of p) rs in
    let heads : AreHeads (number / 65536) (map (head_of f) rs) segments = record {
      extended_fits = omega arith;
      some = omega (arith, are.some, length-map (head_of f) rs);
      few = omega (arith, are.few, length-map (head_of f) rs);
      fields = heads_fit f rs are.heads;
      announce = announced p rs;
    } in
    subst (λ (xs : List ℕ). IsWholePayload (payload_front (number / 65536) (map (head_of f) rs)
    ++ xs)
    f (number / 65536) segments) (data_is p rs)
    ((is_written_payload f (number / 65536) (map (head_of f) rs) segments heads).0
    (are_inside p rs are.heads))

-- ---- the datagram

carried : (p : Values) (rs : List PacketRun) → IsPicture p → AllByRecursion (HasHead p.format) rs
    → AllZip (CarriesRun p) rs (map (segment_of p) rs)
carried p [] is heads = tt
carried p (r ∷ rs) is heads = (
  record {
    row = refl;
    offset = refl;
    spells =
        Spells-octets_in (bits_of p.format.depth) (run_values p r)
        (r.groups * group_octets p.format) (run_bits p r)
        (recursion_from_All (FitsDepth p.format) (run_values p r) (run_fits p r is heads.0));
  },
  carried p rs is heads.1,
)

-- The text of a datagram is a datagram of the picture.
pub sent_text : (p : Values) (stamp : Stamp) (i : ℕ) (l : Bool) (rs : List PacketRun)
    → AreRuns p.format rs → IsPicture p → IsStamp stamp
    → IsSentPacket (datagram_text p stamp i l rs) p stamp i l rs
sent_text p stamp i l rs are is fits =
    let number : ℕ = number_of stamp i in
    let payload : List ℕ = payload_text p number rs in
    let r : Rtp = header_of stamp number l payload in
    record {
      header = r;
      extended = number / 65536;
      segments = map (segment_of p) rs;
      is_header =
          plain_rtp r (datagram_text p stamp i l rs)
          (record {
            payload_type = omega (arith, fits.payload_type);
            sequence =
                omega arith;
            timestamp = fits.timestamp;
            ssrc = fits.ssrc;
          }) refl;
      is_payload = is_payload p number rs (omega arith) are;
      payload_type = refl;
      timestamp = refl;
      ssrc = refl;
      number = omega arith;
      marker = refl;
      carries = carried p rs is are.heads;
    }

-- ---- packets of a raster plan

pub packet_runs : (f : Format) (size a n : ℕ) (rs : List PacketRun) → size ≤ 9000
    → IsPacket f size rs → flat_map (numbers f) rs ≡ range_with_len a n → a + n ≤ group_count f
    → AreRuns f rs
packet_runs f size a n rs most is whole le = record {
  some = omega (arith, is.some);
  few = is.few;
  heads =
      have_heads f size rs most (omega (arith, is.fits)) is.runs
      (rows_below f rs a n is.runs whole le);
}

pub packet_sent : (p : Values) (stamp : Stamp) (size i a n : ℕ) (l : Bool) (rs : List PacketRun)
    → size ≤ 9000 → IsPacket p.format size rs
    → flat_map (numbers p.format) rs ≡ range_with_len a n → a + n ≤ group_count p.format
    → IsPicture p → IsStamp stamp
    → IsSentPacket (datagram_text p stamp i l rs) p stamp i l rs
packet_sent p stamp size i a n l rs most is whole le picture fits =
    sent_text p stamp i l rs (packet_runs p.format size a n rs most is whole le) picture fits

are_sent : (p : Values) (stamp : Stamp) (size i a n : ℕ) (qs : List (List PacketRun)) → size ≤ 9000
    → AllByRecursion (IsPacket p.format size) qs
    → all_numbers p.format qs ≡ range_with_len a n → a + n ≤ group_count p.format → IsPicture p
    → IsStamp stamp
    → AreSent (datagram_texts p stamp i qs) p stamp i qs
are_sent p stamp size i a n [] most each whole le picture fits = tt
are_sent p stamp size i a n (q ∷ qs) most each whole le picture fits =
    let f : Format = p.format in
    let m : ℕ = length (flat_map (numbers f) q) in
    let r = front (flat_map (numbers f) q) (all_numbers f qs) a n whole in
    let sum : m + r.0 ≡ n = r.1 in (
      packet_sent p stamp size i a m (is_empty qs) q most each.0 r.2 (omega arith) picture fits,
      are_sent p stamp size (i + 1) (a + m) r.0 qs most each.1 r.3 (omega arith) picture fits,
    )

-- The texts of the packets of a raster plan are the datagrams of the picture.
pub picture_sent : (p : Values) (stamp : Stamp) (size : ℕ) (qs : List (List PacketRun))
    → size ≤ 9000 → IsRasterPlan qs p.format size → IsPicture p → IsStamp stamp
    → IsSentPicture (datagram_texts p stamp 0 qs) p stamp size qs
picture_sent p stamp size qs most plan picture fits = record {
  plan = plan;
  sent =
      are_sent p stamp size 0 0 (group_count p.format) qs most plan.each plan.whole
      (omega arith) picture fits;
}

-- each packet of a raster plan can be written
are_runs : (f : Format) (size a n : ℕ) (qs : List (List PacketRun)) → size ≤ 9000
    → AllByRecursion (IsPacket f size) qs → all_numbers f qs ≡ range_with_len a n
    → a + n ≤ group_count f → AllByRecursion (AreRuns f) qs
are_runs f size a n [] most each whole le = tt
are_runs f size a n (q ∷ qs) most each whole le =
    let m : ℕ = length (flat_map (numbers f) q) in
    let r = front (flat_map (numbers f) q) (all_numbers f qs) a n whole in
    let sum : m + r.0 ≡ n = r.1 in (
      packet_runs f size a m q most each.0 r.2 (omega arith),
      are_runs f size (a + m) r.0 qs most each.1 r.3 (omega arith),
    )

pub plan_runs : (plan : RasterPlan) (i : ℕ) → IsFullPlan plan.packets plan.format plan.max_octets
    → i < length plan.packets → AreRuns plan.format (packet_at plan i)
plan_runs plan i full lt =
    All-from_recursion (AreRuns plan.format) plan.packets
    (are_runs plan.format plan.max_octets 0
    (group_count plan.format) plan.packets full.limits.most full.plan.each full.plan.whole
    (omega arith)) i [] lt

pub runs_at : (f g : Format) (rs qs : List PacketRun) → g ≡ f → qs ≡ rs → AreRuns f rs
    → AreRuns g qs
runs_at f g rs qs e h are =
    subst (λ (k : Format). AreRuns k qs) (sym e) (subst (AreRuns f) (sym h) are)

-- ---- what the code writes, put together

-- a plain datagram's octets
pub plain_octets : (r : Rtp) (octets : List ℕ) → IsPlainRtp octets r
    → octets ≡ fixed_text plain_flags r ++ r.payload
plain_octets r octets is =
    let tail : is.is.source_list ++ (is.is.extension ++ (r.payload ++ is.is.padding)) ≡ r.payload =
    rw (is.no_sources, is.no_extension, is.no_padding) (append-nil r.payload) in
    is.is.whole ∙ rw (is.flags) (ap (λ (xs : List ℕ). fixed_text plain_flags r ++ xs) tail)

length-heads : (heads : List SegmentHead)
    → length (flat_map header_text (headers_of_heads heads)) ≡ 6 * length heads
length-heads [] = refl
length-heads (h ∷ []) = refl
length-heads (h ∷ k ∷ hs) =
    let more = length-heads (k ∷ hs) in
    omega (
      arith,
      length-append (header_text (header_of_head true h))
          (flat_map header_text (headers_of_heads (k ∷ hs))),
    )

pub length-front : (extended : ℕ) (heads : List SegmentHead)
    → length (payload_front extended heads) ≡ 2 + 6 * length heads
length-front extended heads = omega (arith, length-heads heads)

-- the RTP header, then the front of the payload
pub front_at : (r : Rtp) (xs ys behind post : List ℕ) (extended n : ℕ) (hs ks : List SegmentHead)
    → IsPlainRtp (take 12 xs ++ []) r → r.payload ≡ [] → ys ≡ payload_front extended hs ++ behind
    → hs ≡ ks
    → n ≡ 2 + 6 * length hs → 12 ≤ length xs
    → take (12 + n) (take 12 xs ++ (ys ++ post)) ≡ fixed_text plain_flags r
    ++ payload_front extended ks
front_at r xs ys behind post extended n hs ks is none parts same long room =
    let t : List ℕ = payload_front extended hs in
    let head : take 12 xs ≡ fixed_text plain_flags r =
    sym (append-nil (take 12 xs)) ∙ plain_octets r (take 12 xs ++ []) is
    ∙ ap (λ (zs : List ℕ). fixed_text plain_flags r ++ zs) none
    ∙ append-nil (fixed_text plain_flags r) in
    let count : length (take 12 xs ++ t) ≡ 12 + n =
    omega (arith, length-append (take 12 xs) t, length-take-le 12 xs room, length-heads hs) in
    ap (λ (zs : List ℕ). take (12 + n) (take 12 xs ++ (zs ++ post))) parts
    ∙ ap (λ (zs : List ℕ). take (12 + n) (take 12 xs ++ zs)) (append_assoc t behind post)
    ∙ ap (take (12 + n)) (sym (append_assoc (take 12 xs) t (behind ++ post)))
    ∙ take_at (take 12 xs ++ t) (behind ++ post) (12 + n) count
    ∙ ap (λ (zs : List ℕ). zs ++ t) head
    ∙ ap (λ (gs : List SegmentHead). fixed_text plain_flags r ++ payload_front extended gs) same

-- how long it is
pub octets_at : (p : Values) (rs : List PacketRun)
    → 14 + 6 * length rs + length (flat_map (run_octets p) rs) ≡ packet_octets p.format rs
octets_at p rs = omega (arith, length-runs p rs)
