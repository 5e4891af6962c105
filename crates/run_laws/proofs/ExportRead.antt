-- What `export` wrote of a capture is read as its records.
use Rattle.std.proofs.Common.{◌≡◌, ◌∙◌, ℕ, zero, suc, ◌+◌, ◌<◌, ◌≤◌, ◌^◌, Bool, true, false}
use Rattle.std.proofs.Common.{List, [], ◌∷◌, ◌++◌, length, drop, Option, None, Some, Result, Ok}
use Rattle.std.proofs.Common.{refl, sym, ap, subst, arith, cond}
use Rattle.std.specs.Prelude.{◌&&◌, ◌==◌}
use Rattle.std.specs.List.{cons_option, filter}
use Rattle.std.specs.declared.net.ip_addr.IpAddr.{IpAddr}
use Rattle.std.specs.declared.net.ip_addr.IpAddr.TheVariants as ip
use Rattle.std.specs.Net.Addr.{ipv4_octets, ipv6_octets}
use Rattle.std.specs.Str.{bytes_eq}
use Rattle.std.proofs.lemmas.Bool.{eq-eqb, eqb-true, ne_eqb}
use Rattle.std.proofs.lemmas.Bool.Decides.{nat_tests}
use Rattle.std.proofs.lemmas.List.{length-append}
use Rattle.std.proofs.lemmas.List.Sums.{count_by-le-length, length-filter}
use Rattle.std.proofs.lemmas.Slice.Eq.{bytes_eq-Decides}
use Rattle.st_format.specs.Device.{AreOctets}
use Rattle.st_format.specs.Reading.{◌>>=◌}
use Rattle.st_format.specs.declared.path.Path.{Path}
use Rattle.st_format.specs.declared.path.Path.TheVariants.{A, B}
use Rattle.st_format.proofs.Octets.{AreOctets-take}
use Rattle.flow.specs.Flow.{address_octets, has_flow, is_flow_to, is_named, path_to}
use Rattle.flow.specs.declared.flows.Flow.{Flow}
use Rattle.flow.specs.declared.flows.Flows.{Flows}
use Rattle.flow.proofs.FlowTexts.{flow_once}
use Rattle.media_file.specs.Records.{Entry}
use Rattle.media_file.proofs.Failing.{itself}
use Rattle.pcap_file.specs.NgSteps.{first_at, section_type}
use Rattle.pcap_file.specs.Orders.{long_at}
use Rattle.pcap_file.specs.Pcap.{magic_number, magic_of}
use Rattle.pcap_file.specs.PcapReading.{AreRecords, GivesPackets, GivesPcap, HaveRoom, IsPcap}
use Rattle.pcap_file.specs.PcapReading.{Recorded, pcap_at}
use Rattle.pcap_file.specs.Reading.{datagram_walk}
use Rattle.pcap_file.specs.Runs.{InPcap, Laid, Run, blocks_begun, fault_in, laid_by, led_by}
use Rattle.pcap_file.specs.Runs.{most_blocks, most_packet, opened_at, packets_in, pcap_begun}
use Rattle.pcap_file.specs.Runs.{pcap_if, run_at, run_behind}
use Rattle.pcap_file.specs.Udp.{Datagram}
use Rattle.pcap_file.specs.Writing.{file_text}
use Rattle.pcap_file.specs.declared.datagram.NoDatagram.{NoDatagram}
use Rattle.pcap_file.specs.declared.fault.RecordingFault.{RecordingFault}
use Rattle.pcap_file.specs.declared.link.Link.TheVariants.{Ethernet}
use Rattle.pcap_file.specs.declared.order.ByteOrder.{ByteOrder}
use Rattle.pcap_file.specs.declared.order.ByteOrder.TheVariants.{Big}
use Rattle.pcap_file.specs.declared.pcap.PcapHead.{PcapHead}
use Rattle.pcap_file.proofs.Pcaps.{some_magic}
use Rattle.pcap_file.proofs.Recordings.{Field, field_whole}
use Rattle.pcap_file.proofs.Runs.{Laying, run_ends, run_passes}
use Rattle.pcap_file.proofs.Whole.{datagram_exact}
use Rattle.pcap_file.proofs.WholePcap.{pcap_again}
use Rattle.pcap_file.proofs.WholeRuns.{all_of, pcap_step}
use Rattle.recording_reader.specs.Files.{records_of_file}
use Rattle.recording_reader.specs.Records.{entry_by, entry_of, record_of, records_of}
use Rattle.export_engine.specs.Packets.{AreEnvelopes, IsEnvelopeText, IsSecondText, can_say}
use Rattle.export_engine.specs.Packets.{envelope_4, envelope_6, envelope_from, envelope_of}
use Rattle.export_engine.specs.Packets.{has_packet, if_said, is_there, most_payload, packet_count}
use Rattle.export_engine.specs.Packets.{packets_text, pcap_text, sender, sender6, sent_by}
use Rattle.export_engine.specs.Reread.{enveloped_datagram, frame_by, packet_of, packets_of}
use Rattle.export_engine.specs.Reread.{recorded_by}
use Rattle.export_engine.specs.declared.places.Envelopes.{Envelopes}
use Rattle.export_engine.specs.declared.places.IpEnvelope.{IpEnvelope}
use Rattle.export_engine.specs.declared.places.IpEnvelope.TheVariants.{V4, V6}
use Rattle.export_engine.proofs.Rereading.{are_datagrams, is_reread}
use Rattle.export_engine.proofs.PacketTexts.{flow_at}
use Rattle.recording_engines.specs.Imported.{IsAsked}
use Rattle.run_laws.specs.Exported.{HaveTwoPlaces, address_of, port_of, sent_records}

-- ---- a recording that begins as those that are written is read whole, by a reader with any room

records_run : (n room : ℕ) (file : PcapHead) (o : List ℕ) (ps : List Recorded) → length ps < n
    → GivesPackets room file o ps → run_at n room (InPcap file) o ≡ all_of ps
records_run zero room file o ps few g = absurd (omega (arith, few))
records_run (suc n) room file o [] few g =
    run_ends n room (InPcap file) (InPcap file) o [] (pcap_step room file o [] None g)
records_run (suc n) room file o (p ∷ ps) few g =
    run_passes n room (InPcap file) (InPcap file) o g.0 (Some p)
    (pcap_step room file o g.0 (Some p) g.1)
    ∙ ap (led_by (p ∷ [])) (records_run n room file g.0 ps (omega (arith, few)) g.2)

-- a record has octets
records_few : (file : PcapHead) (o : List ℕ) (ps : List Recorded) → AreRecords file o ps
    → length ps ≤ length o
records_few file o [] is = omega arith
records_few file o (p ∷ ps) is =
    let text : List ℕ = is.0 in
    let rest : List ℕ = is.1 in
    let record_is = is.2 in
    omega (
      arith,
      records_few file rest ps is.4,
      ap (λ (x : List ℕ). length x) is.3,
      length-append text rest,
      ap (λ (x : List ℕ). length x) record_is.whole,
      length-append record_is.front p.octets,
      record_is.front_octets,
    )

-- the four octets that the file begins with
abbrev four : List ℕ
four = 0xa1 ∷ 0xb2 ∷ 0x3c ∷ 0x4d ∷ []

no_section : long_at Big 0 four ≡ magic_number true → long_at Big 0 four ≡ section_type → ⊥
no_section e f = omega (arith, e, f)

abbrev laying : Laid × List ℕ → Laying
laying x = Ok x

abbrev Heads : Type 0
Heads = Result (PcapHead × List ℕ) RecordingFault

abbrev headed : PcapHead × List ℕ → Heads
headed x = Ok x

opens : (rest : List ℕ) (file : PcapHead) (behind : List ℕ) → AreOctets (file_text ++ rest)
    → pcap_at (file_text ++ rest) ≡ headed (file, behind)
    → opened_at (file_text ++ rest) ≡ laying (InPcap file, behind)
unfolding opened_at
opens rest file behind fit e =
    let o : List ℕ = file_text ++ rest in
    ap (λ (r : Field). r >>= λ x. laid_by x.0 o) (field_whole 4 four (drop 4 o) refl)
    ∙ ap (λ (b : Bool). cond b (blocks_begun (first_at o)) (pcap_if (magic_of four) four o))
    (ne_eqb (long_at Big 0 four) section_type (no_section refl))
    ∙ ap (λ (k : Option (ByteOrder × Bool)). pcap_if k four o)
    (some_magic four Big true (AreOctets-take 4 o fit) refl)
    ∙ ap (λ (r : Heads). pcap_begun r) e

pub written_whole : (room : ℕ) (rest : List ℕ) (ps : List Recorded) → AreOctets (file_text ++ rest)
    → length (file_text ++ rest) < 2 ^ 64 → IsPcap (file_text ++ rest) ps → HaveRoom room ps
    → (packets_in room (file_text ++ rest) ≡ ps) × (fault_in room (file_text ++ rest) ≡ None)
written_whole room rest ps fit few is fits =
    let o : List ℕ = file_text ++ rest in
    let g : GivesPcap room o ps = pcap_again room o ps fit is fits in
    let count : length ps ≤ length is.rest = records_few is.file is.rest ps is.records in
    let less : length ps < most_blocks =
    omega (
      arith,
      few,
      count,
      ap (λ (x : List ℕ). length x) is.whole,
      length-append is.front is.rest,
      is.front_octets,
    ) in
    let e : opened_at o ≡ laying (InPcap g.0, g.1) = opens rest g.0 g.1 fit g.2 in
    let run : run_at most_blocks room (InPcap g.0) g.1 ≡ all_of ps =
    records_run most_blocks room g.0 g.1 ps less g.3 in (
      ap (λ (r : Laying). (run_behind room r).packets) e ∙ ap (λ (r : Run). r.packets) run,
      ap (λ (r : Laying). (run_behind room r).fault) e ∙ ap (λ (r : Run). r.fault) run,
    )

-- ---- the flow of a text is that of its envelope

abbrev pub some_envelope : IpEnvelope → Option IpEnvelope
some_envelope e = Some e

some_is : (x y : IpEnvelope) → some_envelope x ≡ some_envelope y → x ≡ y
some_is x y same = cc

not_some : (x : IpEnvelope) → (let none : Option IpEnvelope = None in none ≡ some_envelope x) → ⊥
not_some x same = cc

abbrev pub some_flow : Flow → Option Flow
some_flow f = Some f

-- the address from which datagrams are sent
abbrev source_by : IpEnvelope → List ℕ
source_by (V4 e) = e.source
source_by (V6 e) = e.source

all_three : (p q r : Bool) → p ≡ true → q ≡ true → r ≡ true → (p && q && r && true) ≡ true
all_three true true true a b c = refl
all_three false q r a b c = absurd cc
all_three true false r a b c = absurd cc
all_three true true false a b c = absurd cc

not_both : (p q r : Bool) → (p ≡ true → q ≡ true → ⊥) → (p && q && r && true) ≡ false
not_both false q r differ = refl
not_both true false r differ = refl
not_both true true r differ = absurd (differ refl refl)

-- an envelope's datagrams are of this flow
abbrev Has : Flow → IpEnvelope → Type 0
Has f w = has_flow f None (source_by w) (address_of w) (port_of w) ≡ true

own_flow : (source : Option IpAddr) (address : IpAddr) (port : ℕ) (w : IpEnvelope)
    → envelope_from source address port ≡ Some w → Has (flow_at source address port) w
own_flow None (ip.V4 a) port w same =
    subst (λ (x : IpEnvelope). Has (flow_at None (ip.V4 a) port) x)
    (some_is (envelope_4 sender a port) w same)
    (all_three (port == port) (bytes_eq (ipv4_octets a) (ipv4_octets a)) true
    (eq-eqb port port refl) (itself (ipv4_octets a)) refl)
own_flow None (ip.V6 a) port w same =
    subst (λ (x : IpEnvelope). Has (flow_at None (ip.V6 a) port) x)
    (some_is (envelope_6 sender6 a port) w same)
    (all_three (port == port) (bytes_eq (ipv6_octets a) (ipv6_octets a)) true
    (eq-eqb port port refl) (itself (ipv6_octets a)) refl)
own_flow (Some (ip.V4 s)) (ip.V4 a) port w same =
    subst (λ (x : IpEnvelope). Has (flow_at (Some (ip.V4 s)) (ip.V4 a) port) x)
    (some_is (envelope_4 (ipv4_octets s) a port) w same)
    (all_three (port == port) (bytes_eq (ipv4_octets a) (ipv4_octets a))
    (bytes_eq (ipv4_octets s) (ipv4_octets s)) (eq-eqb port port refl) (itself (ipv4_octets a))
    (itself (ipv4_octets s)))
own_flow (Some (ip.V4 s)) (ip.V6 a) port w same = absurd (not_some w same)
own_flow (Some (ip.V6 s)) (ip.V4 a) port w same = absurd (not_some w same)
own_flow (Some (ip.V6 s)) (ip.V6 a) port w same =
    subst (λ (x : IpEnvelope). Has (flow_at (Some (ip.V6 s)) (ip.V6 a) port) x)
    (some_is (envelope_6 (ipv6_octets s) a port) w same)
    (all_three (port == port) (bytes_eq (ipv6_octets a) (ipv6_octets a))
    (bytes_eq (ipv6_octets s) (ipv6_octets s)) (eq-eqb port port refl) (itself (ipv6_octets a))
    (itself (ipv6_octets s)))

pub address_from : (source : Option IpAddr) (address : IpAddr) (port : ℕ) (w : IpEnvelope)
    → envelope_from source address port ≡ Some w → address_of w ≡ address_octets address
address_from None (ip.V4 a) port w same =
    ap address_of (sym (some_is (envelope_4 sender a port) w same))
address_from None (ip.V6 a) port w same =
    ap address_of (sym (some_is (envelope_6 sender6 a port) w same))
address_from (Some (ip.V4 s)) (ip.V4 a) port w same =
    ap address_of (sym (some_is (envelope_4 (ipv4_octets s) a port) w same))
address_from (Some (ip.V4 s)) (ip.V6 a) port w same = absurd (not_some w same)
address_from (Some (ip.V6 s)) (ip.V4 a) port w same = absurd (not_some w same)
address_from (Some (ip.V6 s)) (ip.V6 a) port w same =
    ap address_of (sym (some_is (envelope_6 (ipv6_octets s) a port) w same))

pub port_from : (source : Option IpAddr) (address : IpAddr) (port : ℕ) (w : IpEnvelope)
    → envelope_from source address port ≡ Some w → port_of w ≡ port
port_from None (ip.V4 a) port w same =
    ap port_of (sym (some_is (envelope_4 sender a port) w same))
port_from None (ip.V6 a) port w same =
    ap port_of (sym (some_is (envelope_6 sender6 a port) w same))
port_from (Some (ip.V4 s)) (ip.V4 a) port w same =
    ap port_of (sym (some_is (envelope_4 (ipv4_octets s) a port) w same))
port_from (Some (ip.V4 s)) (ip.V6 a) port w same = absurd (not_some w same)
port_from (Some (ip.V6 s)) (ip.V4 a) port w same = absurd (not_some w same)
port_from (Some (ip.V6 s)) (ip.V6 a) port w same =
    ap port_of (sym (some_is (envelope_6 (ipv6_octets s) a port) w same))

-- the octets of an address are those that a flow with it names
named : (address : IpAddr) (octets : List ℕ) → is_named (Some address) octets ≡ true
    → address_octets address ≡ octets
named address octets is = (bytes_eq-Decides (address_octets address) octets).0 is

other_flow : (source : Option IpAddr) (address : IpAddr) (port : ℕ) (w : IpEnvelope)
    → (address_octets address ≡ address_of w → port ≡ port_of w → ⊥)
    → has_flow (flow_at source address port) None (source_by w) (address_of w) (port_of w)
    ≡ false
other_flow source address port w apart =
    not_both (port == port_of w) (is_named (Some address) (address_of w))
    (is_named source (source_by w))
    (λ p q. apart (named address (address_of w) q) (eqb-true port (port_of w) p))

pub asked_flow : (text : List ℕ) (o : Option Flow) (e : IpEnvelope) (is : IsEnvelopeText text e)
    → IsAsked (Some text) o → o ≡ some_flow (flow_at is.source is.address is.port)
asked_flow text None e is asked = absurd asked
asked_flow text (Some f) e is asked =
    ap (λ (g : Flow). some_flow g)
    (flow_once text f (flow_at is.source is.address is.port) asked is.flow)

-- ---- one record

abbrev Walk : Type 0
Walk = Result Datagram NoDatagram

abbrev walked : Datagram → Walk
walked d = Ok d

-- by which path an envelope's datagrams came
abbrev path_by : Flows → IpEnvelope → Option Path
path_by flows w = path_to flows None (source_by w) (address_of w) (port_of w)

read_back : (flows : Flows) (w : IpEnvelope) (moment : ℕ) (payload : List ℕ)
    → datagram_walk Ethernet (frame_by w payload) ≡ walked (enveloped_datagram w payload)
    → record_of flows (recorded_by w moment payload) ≡ entry_by (path_by flows w) moment payload
read_back flows (V4 e) moment payload is = ap (λ (r : Walk). entry_of flows None moment r) is
read_back flows (V6 e) moment payload is = ap (λ (r : Walk). entry_of flows None moment r) is

said : (w : IpEnvelope) (moment count : ℕ) → can_say w moment count ≡ true
    → count ≤ most_payload w
said w moment count is = grind (arith, nat_tests)

from_path : (o : Option IpEnvelope) (w : IpEnvelope) (moment count : ℕ)
    → if_said o moment count ≡ Some w → (o ≡ Some w) × (count ≤ most_payload w)
from_path None w moment count is = absurd (not_some w is)
from_path (Some v) w moment count is = by (can_say v moment count) refl is
  where
    by : (t : Bool) → can_say v moment count ≡ t → cond t (Some v) None ≡ Some w
        → (some_envelope v ≡ Some w) × (count ≤ most_payload w)
    by true can same =
        let is_it : v ≡ w = some_is v w same in (
          ap some_envelope is_it,
          subst (λ (x : IpEnvelope). count ≤ most_payload x) is_it (said v moment count can),
        )
    by false can same = absurd (not_some w same)

room_4 : (count : ℕ) → count ≤ 65507 → 42 + count ≤ 1048576
room_4 count few = omega (arith, few)

room_6 : (count : ℕ) → count ≤ 65527 → 62 + count ≤ 1048576
room_6 count few = omega (arith, few)

-- there is room for each packet
has_room : (w : IpEnvelope) (moment : ℕ) (payload : List ℕ) → length payload ≤ most_payload w
    → (recorded_by w moment payload).head.captured ≤ most_packet
has_room (V4 e) moment payload few = room_4 (length payload) few
has_room (V6 e) moment payload few = room_6 (length payload) few

room_then : (es : Envelopes) (e : Entry) (o : Option IpEnvelope) → sent_by es e ≡ o
    → (ps : List Recorded) → HaveRoom most_packet ps
    → HaveRoom most_packet (cons_option (packet_of o e) ps)
room_then es e None is ps all = all
room_then es e (Some w) is ps all = (
  has_room w e.moment e.octets
      (from_path (envelope_of es e.path) w e.moment (length e.octets) is).1,
  all,
)

pub have_room : (es : Envelopes) (entries : List Entry)
    → HaveRoom most_packet (packets_of es entries)
have_room es [] = tt
have_room es (e ∷ entries) =
    room_then es e (sent_by es e) refl (packets_of es entries) (have_room es entries)

-- ---- all records

module _ (a : List ℕ) (b : Option (List ℕ)) (es : Envelopes) (are : AreEnvelopes a b es)
    (flows : Flows) (asked_a : IsAsked (Some a) flows.a) (asked_b : IsAsked b flows.b)
    (two : HaveTwoPlaces es)
  where
    flow_a : flows.a ≡ some_flow (flow_at are.first.source are.first.address are.first.port)
    flow_a = asked_flow a flows.a es.a are.first asked_a

    path_a : path_by flows es.a ≡ Some A
    path_a =
        ap (λ (f : Option Flow). cond (is_flow_to f None (source_by es.a) (address_of es.a)
        (port_of es.a)) (Some A) (cond (is_flow_to flows.b None (source_by es.a)
        (address_of es.a) (port_of es.a)) (Some B) None)) flow_a
        ∙ ap (λ (t : Bool). cond t (Some A) (cond (is_flow_to flows.b None (source_by es.a)
        (address_of es.a) (port_of es.a)) (Some B) None))
        (own_flow are.first.source are.first.address are.first.port es.a are.first.envelope)

    is_b : (c : Option (List ℕ)) (o : Option IpEnvelope) (w : IpEnvelope) (g : Option Flow)
        → IsSecondText c o → IsAsked c g → o ≡ Some w
        → is_flow_to g None (source_by w) (address_of w) (port_of w) ≡ true
    is_b None o w g second asked is = absurd (not_some w (sym second ∙ is))
    is_b (Some t) None w g second asked is = absurd second
    is_b (Some t) (Some v) w g second asked is =
        subst (λ (x : IpEnvelope). is_flow_to g None (source_by x) (address_of x) (port_of x)
        ≡ true) (some_is v w is)
        (ap (λ (f : Option Flow). is_flow_to f None (source_by v) (address_of v) (port_of v))
        (asked_flow t g v second asked)
        ∙ own_flow second.source second.address second.port v second.envelope)

    not_a : (w : IpEnvelope) → es.b ≡ Some w
        → is_flow_to flows.a None (source_by w) (address_of w) (port_of w) ≡ false
    not_a w is =
        ap (λ (f : Option Flow). is_flow_to f None (source_by w) (address_of w) (port_of w))
        flow_a
        ∙ other_flow are.first.source are.first.address are.first.port w
        (λ address port. two w is
        (address_from are.first.source are.first.address are.first.port es.a are.first.envelope
        ∙ address)
        (port_from are.first.source are.first.address are.first.port es.a are.first.envelope
        ∙ port))

    path_b : (w : IpEnvelope) → es.b ≡ Some w → path_by flows w ≡ Some B
    path_b w is =
        ap (λ (t : Bool). cond t (Some A) (cond (is_flow_to flows.b None (source_by w)
        (address_of w) (port_of w)) (Some B) None)) (not_a w is)
        ∙ ap (λ (t : Bool). cond t (Some B) None) (is_b b es.b w flows.b are.second asked_b is)

    path_is : (path : Path) (w : IpEnvelope) → envelope_of es path ≡ Some w
        → path_by flows w ≡ Some path
    path_is A w is =
        subst (λ (x : IpEnvelope). path_by flows x ≡ Some A) (some_is es.a w is) path_a
    path_is B w is = path_b w is

    one_record : (e : Entry) (w : IpEnvelope) → sent_by es e ≡ Some w
        → record_of flows (recorded_by w e.moment e.octets) ≡ Some e
    one_record e w is =
        read_back flows w e.moment e.octets
        ((datagram_exact Ethernet (frame_by w e.octets)).again (enveloped_datagram w e.octets)
        (are_datagrams a b es are e w is))
        ∙ ap (λ (p : Option Path). entry_by p e.moment e.octets)
        (path_is e.path w
        (from_path (envelope_of es e.path) w e.moment (length e.octets) is).0)

    one_more : (e : Entry) (o : Option IpEnvelope) → sent_by es e ≡ o → (ps : List Recorded)
        (rest : List Entry) → records_of flows ps ≡ rest
        → records_of flows (cons_option (packet_of o e) ps) ≡ cond (is_there o) (e ∷ rest) rest
    one_more e None is ps rest same = same
    one_more e (Some w) is ps rest same =
        ap (λ (x : Option Entry). cons_option x (records_of flows ps)) (one_record e w is)
        ∙ ap (λ (l : List Entry). e ∷ l) same

    pub records_back : (entries : List Entry)
        → records_of flows (packets_of es entries) ≡ sent_records es entries
    records_back [] = refl
    records_back (e ∷ entries) =
        one_more e (sent_by es e) refl (packets_of es entries) (sent_records es entries)
        (records_back entries)

    -- so they are those of the recording
    pub recording_records : (entries : List Entry) → AreOctets (pcap_text es entries)
        → length (pcap_text es entries) < 2 ^ 64
        → records_of_file (Some flows) (pcap_text es entries) ≡ sent_records es entries
    recording_records entries fit few =
        ap (λ (ps : List Recorded). records_of flows ps)
        (written_whole most_packet (packets_text es entries) (packets_of es entries) fit few
        (is_reread a b es are entries) (have_room es entries)).0
        ∙ records_back entries

-- and it has no fault
pub recording_sound : (a : List ℕ) (b : Option (List ℕ)) (es : Envelopes)
    → AreEnvelopes a b es → (entries : List Entry) → AreOctets (pcap_text es entries)
    → length (pcap_text es entries) < 2 ^ 64
    → fault_in most_packet (pcap_text es entries) ≡ None
recording_sound a b es are entries fit few =
    (written_whole most_packet (packets_text es entries) (packets_of es entries) fit few
    (is_reread a b es are entries) (have_room es entries)).1

-- ---- where each record has a packet

-- from one element on, where that is so of what is behind it
kept_on : {X : Type 0} (p : X → Bool) (x : X) (xs : List X) (t : Bool)
    → (length (filter p xs) ≡ length xs → filter p xs ≡ xs)
    → length (cond t (x ∷ filter p xs) (filter p xs)) ≡ suc (length xs)
    → cond t (x ∷ filter p xs) (filter p xs) ≡ x ∷ xs
kept_on {X} p x xs true more e = ap (λ (l : List X). x ∷ l) (more (omega (arith, e)))
kept_on {X} p x xs false more e =
    absurd (omega (arith, e, length-filter p xs, count_by-le-length p xs))

all_kept : {X : Type 0} (p : X → Bool) (xs : List X) → length (filter p xs) ≡ length xs
    → filter p xs ≡ xs
all_kept p [] e = refl
all_kept p (x ∷ xs) e =
    kept_on p x xs (p x) (λ (same : length (filter p xs) ≡ length xs). all_kept p xs same) e

pub all_sent : (es : Envelopes) (entries : List Entry) (written left : ℕ)
    → written ≡ packet_count es entries → written + left ≡ length entries → left ≡ 0
    → sent_records es entries ≡ entries
all_sent es entries written left counted all none =
    all_kept (has_packet es) entries
    (omega (arith, length-filter (has_packet es) entries, counted, all, none))
