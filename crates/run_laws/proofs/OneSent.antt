-- A picture is sent as one list of datagrams by a plan: the texts of its packets.
use Rattle.std.proofs.Common.{◌≡◌, ℕ, zero, suc, ◌+◌, ◌*◌, ◌/◌, ◌%◌, ◌<◌, ◌≤◌, Bool, true, false}
use Rattle.std.proofs.Common.{List, [], ◌∷◌, ◌++◌, length, map, get_or, refl, sym, ap, ◌∙◌, subst}
use Rattle.std.proofs.Common.{append_assoc, arith}
use Rattle.std.specs.Int.{w16, to_be_bytes}
use Rattle.std.specs.List.{flat_map, range_with_len, AllByRecursion, AllZip}
use Rattle.std.proofs.lemmas.List.{append-nil}
use Rattle.std.proofs.lemmas.Nat.{mul-le}
use Rattle.st_format.specs.Pgroup.{bits_of}
use Rattle.st_format.specs.Picture.{Values}
use Rattle.st_format.specs.Position.{group_count, row_groups, sample_count}
use Rattle.st_format.specs.Raster.{Segment}
use Rattle.st_format.specs.Samples.{octets_in}
use Rattle.st_format.specs.declared.format.Format.{Format}
use Rattle.st_format.proofs.SpelledOctets.{octets_in-spelled}
use Rattle.rtp_header.specs.Grammar.{IsPlainRtp, Rtp, fixed_text, plain_flags}
use Rattle.payload_header.specs.Payload.{Header, IsChain, IsHeaderOf, group_of, header_text}
use Rattle.payload_header.specs.Writing.{IsWholePayload, data_text, header_of_head}
use Rattle.payload_header.specs.Writing.{headers_of_heads, payload_front}
use Rattle.packet_plan.specs.declared.run.PacketRun.{PacketRun}
use Rattle.packet_plan.specs.declared.stamp.Stamp.{Stamp}
use Rattle.packet_plan.specs.Plan.{IsPacket, IsRun, group_octets, numbers}
use Rattle.packet_plan.specs.Sent.{AreSent, CarriesRun, IsSentPacket, IsSentPicture, group_samples}
use Rattle.packet_plan.specs.Sent.{is_empty, run_values, sample}
use Rattle.packet_plan.specs.Text.{datagram_text, datagram_texts, head_of, header_of, number_of}
use Rattle.packet_plan.specs.Text.{payload_text, run_octets}
use Rattle.packet_plan.proofs.Packets.{some_octets}
use Rattle.packet_plan.proofs.RunLemmas.{groups_joined, length-run, rows_below, run_within}
use Rattle.packet_plan.proofs.Walks.{all_numbers, front}

-- ---- octets, one after the other

abbrev pub Small : List ℕ → Type 0
Small octets = AllByRecursion (λ v. v < 256) octets

pub small_front : (xs ys : List ℕ) → Small (xs ++ ys) → Small xs
small_front [] ys all = tt
small_front (x ∷ xs) ys all = (all.0, small_front xs ys all.1)

pub small_behind : (xs ys : List ℕ) → Small (xs ++ ys) → Small ys
small_behind [] ys all = all
small_behind (x ∷ xs) ys all = small_behind xs ys all.1

-- ---- the octets of segments

run_once : (p : Values) (r : PacketRun) (s : Segment) → Small s.octets → CarriesRun p r s
    → s.octets ≡ run_octets p r
run_once p r s small carries =
    sym (octets_in-spelled (bits_of p.format.depth) s.octets (run_values p r) small carries.spells)

data_once : (p : Values) (rs : List PacketRun) (ss : List Segment) → Small (data_text ss)
    → AllZip (CarriesRun p) rs ss → data_text ss ≡ flat_map (run_octets p) rs
data_once p [] [] small carries = refl
data_once p [] (s ∷ ss) small carries = absurd carries
data_once p (r ∷ rs) [] small carries = absurd carries
data_once p (r ∷ rs) (s ∷ ss) small carries =
    ap (λ (xs : List ℕ). xs ++ data_text ss)
    (run_once p r s (small_front s.octets (data_text ss) small) carries.0)
    ∙ ap (λ (xs : List ℕ). run_octets p r ++ xs)
    (data_once p rs ss (small_behind s.octets (data_text ss) small) carries.1)

-- ---- the headers of segments

-- a header's fields but for C, of the segment that carries a run
record IsHeaderFor (f : Format) (h : Header) (r : PacketRun) : Type 0 where
  octets : h.octets ≡ r.groups * group_octets f
  row : h.row ≡ r.row
  offset : h.offset ≡ r.first * (group_of f).pixels
  first_field : h.second_field ≡ false

header_for : (p : Values) (h : Header) (r : PacketRun) (s : Segment) → IsRun p.format r
    → Small s.octets → IsHeaderOf h p.format s → CarriesRun p r s → IsHeaderFor p.format h r
header_for p h r s run small is carries =
    let octets : length s.octets ≡ r.groups * group_octets p.format =
    ap (λ (xs : List ℕ). length xs) (run_once p r s small carries) ∙ length-run p r in
    let some : 0 < length s.octets =
    omega (
      arith,
      octets,
      mul-le 1 1 r.groups (group_octets p.format) run.some (some_octets p.format),
    ) in
    record {
      octets = is.octets ∙ octets;
      row = is.row ∙ carries.row;
      offset = is.offset ∙ carries.offset;
      first_field = is.first_field some;
    }

headers_for : (p : Values) (hs : List Header) (rs : List PacketRun) (ss : List Segment)
    → AllByRecursion (IsRun p.format) rs → Small (data_text ss)
    → AllZip (λ h s. IsHeaderOf h p.format s) hs ss → AllZip (CarriesRun p) rs ss
    → AllZip (IsHeaderFor p.format) hs rs
headers_for p [] [] [] runs small are carries = tt
headers_for p [] [] (s ∷ ss) runs small are carries = absurd carries
headers_for p [] (r ∷ rs) [] runs small are carries = absurd carries
headers_for p [] (r ∷ rs) (s ∷ ss) runs small are carries = absurd are
headers_for p (h ∷ hs) [] [] runs small are carries = absurd are
headers_for p (h ∷ hs) [] (s ∷ ss) runs small are carries = absurd carries
headers_for p (h ∷ hs) (r ∷ rs) [] runs small are carries = absurd carries
headers_for p (h ∷ hs) (r ∷ rs) (s ∷ ss) runs small are carries = (
  header_for p h r s runs.0 (small_front s.octets (data_text ss) small) are.0 carries.0,
  headers_for p hs rs ss runs.1 (small_behind s.octets (data_text ss) small) are.1 carries.1,
)

header_is : (f : Format) (more : Bool) (h : Header) (r : PacketRun) → h.more ≡ more
    → IsHeaderFor f h r → h ≡ header_of_head more (head_of f r)
header_is f more h r flag is = λ i. record {
  octets = is.octets i;
  second_field = is.first_field i;
  row = is.row i;
  more = flag i;
  offset = is.offset i;
}

-- C is set on all but the last.
headers_once : (f : Format) (hs : List Header) (rs : List PacketRun) → IsChain hs
    → AllZip (IsHeaderFor f) hs rs → hs ≡ headers_of_heads (map (head_of f) rs)
headers_once f [] rs chain are = absurd chain
headers_once f (h ∷ []) [] chain are = absurd are
headers_once f (h ∷ []) (r ∷ []) chain are =
    ap (λ (k : Header). k ∷ []) (header_is f false h r chain are.0)
headers_once f (h ∷ []) (r ∷ q ∷ rs) chain are = absurd are.1
headers_once f (h ∷ k ∷ hs) [] chain are = absurd are
headers_once f (h ∷ k ∷ hs) (r ∷ []) chain are = absurd are.1
headers_once f (h ∷ k ∷ hs) (r ∷ q ∷ rs) chain are =
    ap (λ (x : Header). x ∷ k ∷ hs) (header_is f true h r chain.0 are.0)
    ∙ ap (λ (xs : List Header). header_of_head true (head_of f r) ∷ xs)
    (headers_once f (k ∷ hs) (q ∷ rs) chain.1 are.1)

-- ---- the payload

payload_once : (p : Values) (extended : ℕ) (rs : List PacketRun) (payload : List ℕ)
    (ss : List Segment) → AllByRecursion (IsRun p.format) rs → Small payload
    → IsWholePayload payload p.format extended ss → AllZip (CarriesRun p) rs ss
    → payload
    ≡ payload_front extended (map (head_of p.format) rs) ++ flat_map (run_octets p) rs
payload_once p extended rs payload ss runs small is carries =
    let number : List ℕ = to_be_bytes w16 extended in
    let headers : List Header = is.is_payload.headers in
    let heads : List Header = headers_of_heads (map (head_of p.format) rs) in
    let text : List ℕ = flat_map header_text headers in
    let data_is : List ℕ = data_text ss in
    let parts : payload ≡ number ++ (text ++ data_is) =
    is.is_payload.whole
    ∙ ap (λ (xs : List ℕ). number ++ (text ++ (data_is ++ xs))) is.no_rest
    ∙ ap (λ (xs : List ℕ). number ++ (text ++ xs)) (append-nil data_is) in
    let behind : Small data_is =
    small_behind text data_is (small_behind number (text ++ data_is) (subst Small parts small)) in
    let same : headers ≡ heads =
    headers_once p.format headers rs is.is_payload.chain
    (headers_for p headers rs ss runs behind is.is_payload.described carries) in
    parts
    ∙ ap (λ (ks : List Header). number ++ (flat_map header_text ks ++ data_is)) same
    ∙ ap (λ (xs : List ℕ). number ++ (flat_map header_text heads ++ xs))
    (data_once p rs ss behind carries)
    ∙ sym (append_assoc number (flat_map header_text heads) (flat_map (run_octets p) rs))

-- ---- the datagram

-- a plain datagram's octets
plain_octets : (h : Rtp) (octets : List ℕ) → IsPlainRtp octets h
    → octets ≡ fixed_text plain_flags h ++ h.payload
plain_octets h octets is =
    let tail : is.is.source_list ++ (is.is.extension ++ (h.payload ++ is.is.padding)) ≡ h.payload =
    rw (is.no_sources, is.no_extension, is.no_padding) (append-nil h.payload) in
    is.is.whole ∙ rw (is.flags) (ap (λ (xs : List ℕ). fixed_text plain_flags h ++ xs) tail)

-- the halves of a packet's number
halves : (high low number : ℕ) → 65536 * high + low ≡ number → low < 65536
    → (high ≡ number / 65536) × (low ≡ number % 65536)
halves high low number is lt = (omega (arith, is, lt), omega (arith, is, lt))

same_header : (h k : Rtp) → h.marker ≡ k.marker → h.payload_type ≡ k.payload_type
    → h.sequence ≡ k.sequence → h.timestamp ≡ k.timestamp → h.ssrc ≡ k.ssrc
    → h.payload ≡ k.payload → h ≡ k
same_header h k marker payload_type sequence timestamp ssrc payload = λ i. record {
  marker = marker i;
  payload_type = payload_type i;
  sequence = sequence i;
  timestamp = timestamp i;
  ssrc = ssrc i;
  payload = payload i;
}

pub datagram_once : (p : Values) (stamp : Stamp) (i : ℕ) (is_last : Bool) (rs : List PacketRun)
    (d : List ℕ) → AllByRecursion (IsRun p.format) rs → Small d
    → IsSentPacket d p stamp i is_last rs → d ≡ datagram_text p stamp i is_last rs
datagram_once p stamp i is_last rs d runs small is =
    let h : Rtp = is.header in
    let n : ℕ = number_of stamp i in
    let plain : d ≡ fixed_text plain_flags h ++ h.payload = plain_octets h d is.is_header in
    let octets : Small h.payload =
    small_behind (fixed_text plain_flags h) h.payload (subst Small plain small) in
    let half = halves is.extended h.sequence n is.number is.is_header.is.sequence in
    let payload : h.payload ≡ payload_text p n rs =
    payload_once p is.extended rs h.payload is.segments runs octets is.is_payload is.carries
    ∙ ap (λ (e : ℕ). payload_front e (map (head_of p.format) rs) ++ flat_map (run_octets p) rs)
    half.0 in
    plain
    ∙ ap (λ (k : Rtp). fixed_text plain_flags k ++ k.payload)
    (same_header h (header_of stamp n is_last (payload_text p n rs)) is.marker is.payload_type
    half.1 is.timestamp is.ssrc payload)

datagrams_once : (p : Values) (stamp : Stamp) (size i : ℕ) (ds : List (List ℕ))
    (qs : List (List PacketRun)) → AllByRecursion (IsPacket p.format size) qs
    → AllByRecursion Small ds → AreSent ds p stamp i qs → ds ≡ datagram_texts p stamp i qs
datagrams_once p stamp size i [] [] each small sent = refl
datagrams_once p stamp size i [] (q ∷ qs) each small sent = absurd sent
datagrams_once p stamp size i (d ∷ ds) [] each small sent = absurd sent
datagrams_once p stamp size i (d ∷ ds) (q ∷ qs) each small sent =
    ap (λ (x : List ℕ). x ∷ ds)
    (datagram_once p stamp i (is_empty qs) q d each.0.runs small.0 sent.0)
    ∙ ap (λ (xs : List (List ℕ)). datagram_text p stamp i (is_empty qs) q ∷ xs)
    (datagrams_once p stamp size (i + 1) ds qs each.1 small.1 sent.1)

-- The datagrams of a picture, where they are octets, are the texts of its packets.
pub picture_texts : (ds : List (List ℕ)) (p : Values) (stamp : Stamp) (size : ℕ)
    (packets : List (List PacketRun)) → AllByRecursion Small ds
    → IsSentPicture ds p stamp size packets → ds ≡ datagram_texts p stamp 0 packets
picture_texts ds p stamp size packets small sent =
    datagrams_once p stamp size 0 ds packets sent.plan.each small sent.sent

-- ---- pictures with the same values have the same texts

map_range_same : (g h : ℕ → ℕ) (a n end : ℕ) → ((k : ℕ) → k < end → g k ≡ h k) → a + n ≤ end
    → map g (range_with_len a n) ≡ map h (range_with_len a n)
map_range_same g h a zero end each le = refl
map_range_same g h a (suc n) end each le =
    ap (λ (x : ℕ). x ∷ map g (range_with_len (a + 1) n)) (each a (omega (arith, le)))
    ∙ ap (λ (xs : List ℕ). h a ∷ xs) (map_range_same g h (a + 1) n end each (omega (arith, le)))

abbrev values_by : Format → List ℕ → Values
values_by f samples = record { format = f; samples = samples }

-- a datagram whose payload has these octets behind its front
abbrev with_data : Format → Stamp → ℕ → Bool → List PacketRun → List ℕ → List ℕ
with_data f stamp n is_last rs octets =
    let payload : List ℕ = payload_front (n / 65536) (map (head_of f) rs) ++ octets in
    fixed_text plain_flags (header_of stamp n is_last payload) ++ payload

module _ (f : Format) (xs ys : List ℕ)
    (same : (k : ℕ) → k < sample_count f → get_or xs k 0 ≡ get_or ys k 0)
  where
    abbrev p : Values
    p = values_by f xs

    abbrev q : Values
    q = values_by f ys

    run_same : (r : PacketRun) → IsRun f r → r.row < f.height → run_octets p r ≡ run_octets q r
    run_same r is below =
        let s : ℕ = group_samples f in
        let g : ℕ = r.row * row_groups f + r.first in
        ap (octets_in (bits_of f.depth))
        (groups_joined (sample p) s g r.groups
        ∙ map_range_same (sample p) (sample q) (g * s) (r.groups * s) (sample_count f) same
        (run_within f r is below)
        ∙ sym (groups_joined (sample q) s g r.groups))

    runs_same : (rs : List PacketRun) → AllByRecursion (IsRun f) rs
        → AllByRecursion (λ r. r.row < f.height) rs
        → flat_map (run_octets p) rs ≡ flat_map (run_octets q) rs
    runs_same [] runs below = refl
    runs_same (r ∷ rs) runs below =
        ap (λ (zs : List ℕ). zs ++ flat_map (run_octets p) rs) (run_same r runs.0 below.0)
        ∙ ap (λ (zs : List ℕ). run_octets q r ++ zs) (runs_same rs runs.1 below.1)

    texts_same : (stamp : Stamp) (size i a n : ℕ) (qs : List (List PacketRun))
        → AllByRecursion (IsPacket f size) qs → all_numbers f qs ≡ range_with_len a n
        → a + n ≤ group_count f → datagram_texts p stamp i qs ≡ datagram_texts q stamp i qs
    texts_same stamp size i a n [] each whole le = refl
    texts_same stamp size i a n (o ∷ os) each whole le =
        let m : ℕ = length (flat_map (numbers f) o) in
        let x = front (flat_map (numbers f) o) (all_numbers f os) a n whole in
        let below : AllByRecursion (λ r. r.row < f.height) o =
        rows_below f o a m each.0.runs x.2 (omega (arith, x.1, le)) in
        ap (λ (zs : List ℕ). with_data f stamp (number_of stamp i) (is_empty os) o zs
        ∷ datagram_texts p stamp (i + 1) os) (runs_same o each.0.runs below)
        ∙ ap (λ (zs : List (List ℕ)). datagram_text q stamp i (is_empty os) o ∷ zs)
        (texts_same stamp size (i + 1) (a + m) x.0 os each.1 x.3 (omega (arith, x.1, le)))

-- Pictures of one format with the same samples are sent as the same datagrams.
pub same_values_sent : (ds es : List (List ℕ)) (p q : Values) (stamp : Stamp) (size : ℕ)
    (packets : List (List PacketRun)) → AllByRecursion Small ds → AllByRecursion Small es
    → p.format ≡ q.format
    → ((k : ℕ) → k < sample_count p.format → get_or p.samples k 0 ≡ get_or q.samples k 0)
    → IsSentPicture ds p stamp size packets → IsSentPicture es q stamp size packets → ds ≡ es
same_values_sent ds es p q stamp size packets small few format same sent again =
    let mid : Values = values_by p.format q.samples in
    let moved : mid ≡ q = λ i. values_by (format i) q.samples in
    picture_texts ds p stamp size packets small sent
    ∙ texts_same p.format p.samples q.samples same stamp size 0 0 (group_count p.format) packets
    sent.plan.each sent.plan.whole (omega arith)
    ∙ ap (λ (v : Values). datagram_texts v stamp 0 packets) moved
    ∙ sym (picture_texts es q stamp size packets few again)
