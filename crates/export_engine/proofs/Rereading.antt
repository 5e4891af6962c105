-- The recording that is written is one of the records' packets.
use Rattle.std.proofs.Common.{◌≡◌, ℕ, ◌-◌, ◌*◌, ◌^◌, ◌<◌, ◌≤◌, Bool, true, false, cond, List}
use Rattle.std.proofs.Common.{[], ◌∷◌, ◌++◌, length, Option, Some, None, refl, sym, ap, ◌∙◌, subst}
use Rattle.std.proofs.Common.{arith, inl, inr, replicate}
use Rattle.std.specs.List.{cons_option}
use Rattle.std.specs.Net.Addr.{ipv4_octets, ipv6_octets, octets_of}
use Rattle.std.specs.Net.Grammar.{IsColonHex, IsIpv4Text, IsIpv6Text}
use Rattle.std.specs.declared.net.ip_addr.IpAddr.{IpAddr}
use Rattle.std.specs.declared.net.ip_addr.IpAddr.TheVariants as ip
use Rattle.std.specs.declared.net.ipv4_addr.Ipv4Addr.{Ipv4Addr}
use Rattle.std.specs.declared.net.ipv6_addr.Ipv6Addr.{Ipv6Addr}
use Rattle.std.proofs.lemmas.Bool.Decides.{nat_tests}
use Rattle.std.proofs.lemmas.List.{length-append, length-replicate}
use Rattle.st_format.specs.declared.path.Path.{Path}
use Rattle.st_format.specs.declared.path.Path.TheVariants.{A, B}
use Rattle.flow.specs.FlowText.{SpellsSource}
use Rattle.media_file.specs.Records.{Entry}
use Rattle.pcap_file.specs.Datagram.{IsDatagram}
use Rattle.pcap_file.specs.PcapReading.{AreRecords, IsPcap, IsRecord, Recorded}
use Rattle.pcap_file.specs.Writing.{EnvelopeFits, file_text, written_file}
use Rattle.pcap_file.specs.Writing6.{EnvelopeFits6}
use Rattle.pcap_file.specs.declared.link.Link.TheVariants.{Ethernet}
use Rattle.pcap_file.proofs.Writes.{is_datagram, is_record}
use Rattle.pcap_file.proofs.Writes6.{is_datagram6, is_record6}
use Rattle.export_engine.specs.Packets.{AreEnvelopes, IsEnvelopeText, IsSecondText, can_say}
use Rattle.export_engine.specs.Packets.{datagram_record, envelope_4, envelope_6, envelope_from}
use Rattle.export_engine.specs.Packets.{envelope_of, if_said, most_payload, packet_record}
use Rattle.export_engine.specs.Packets.{packets_text, pcap_text, sender, sender6, sent_by}
use Rattle.export_engine.specs.Reread.{enveloped_datagram, frame_by, packet_of, packets_of}
use Rattle.export_engine.specs.Reread.{recorded_by}
use Rattle.export_engine.specs.declared.places.Envelopes.{Envelopes}
use Rattle.export_engine.specs.declared.places.IpEnvelope.{IpEnvelope}
use Rattle.export_engine.specs.declared.places.IpEnvelope.TheVariants.{V4, V6}

-- ---- envelopes fit

-- numbers and addresses have their octets
abbrev Fits : IpEnvelope → Type 0
Fits (V4 e) = EnvelopeFits e
Fits (V6 e) = EnvelopeFits6 e

two_each : (segments : List ℕ) → length (octets_of segments) ≡ 2 * length segments
two_each [] = refl
two_each (s ∷ segments) = omega (arith, two_each segments)

eight : (text segments : List ℕ) → IsColonHex text segments → length segments ≡ 8
eight text segments (inl is) = is.1
eight text segments (inr is) =
    let zeros : List ℕ = replicate (8 - length is.head - length is.tail) 0 in
    ap (λ (l : List ℕ). length l) is.value
    ∙ omega (
      arith,
      length-append (is.head ++ zeros) is.tail,
      length-append is.head zeros,
      length-replicate {A = ℕ} (8 - length is.head - length is.tail) 0,
      is.room,
    )

four_octets : (text : List ℕ) (a : Ipv4Addr) → IsIpv4Text text a → length (ipv4_octets a) ≡ 4
four_octets text a is = ap (λ (o : List ℕ). length o) is.value

sixteen_octets : (text : List ℕ) (a : Ipv6Addr) → IsIpv6Text text a → length (ipv6_octets a) ≡ 16
sixteen_octets text a is =
    two_each a.segments ∙ ap (λ (n : ℕ). 2 * n) (eight text a.segments is)

fits_4 : (source : List ℕ) (a : Ipv4Addr) (port : ℕ) → length source ≡ 4
    → length (ipv4_octets a) ≡ 4 → port ≤ 65535 → Fits (envelope_4 source a port)
fits_4 source a port from to small = record {
  source = from;
  destination = to;
  source_port = omega (arith, small);
  destination_port = omega (arith, small);
}

fits_6 : (source : List ℕ) (a : Ipv6Addr) (port : ℕ) → length source ≡ 16
    → length (ipv6_octets a) ≡ 16 → port ≤ 65535 → Fits (envelope_6 source a port)
fits_6 source a port from to small = record {
  source = from;
  destination = to;
  source_port = omega (arith, small);
  destination_port = omega (arith, small);
}

some_is : (x y : IpEnvelope) → Some x ≡ Some y → x ≡ y
some_is x y same = cc

not_some : (x : IpEnvelope) → None ≡ Some x → ⊥
not_some x same = cc

from_fits : (text : List ℕ) (source : Option IpAddr) (address : IpAddr) (port : ℕ) (e : IpEnvelope)
    → SpellsSource text source (Some address, port) → envelope_from source address port ≡ Some e
    → Fits e
from_fits text None (ip.V4 a) port e is same =
    subst Fits (some_is (envelope_4 sender a port) e same)
    (fits_4 sender a port refl (four_octets is.0 a is.3) is.4.1)
from_fits text None (ip.V6 a) port e is same =
    subst Fits (some_is (envelope_6 sender6 a port) e same)
    (fits_6 sender6 a port refl (sixteen_octets is.3.0 a is.3.2) is.4.1)
from_fits text (Some (ip.V4 s)) (ip.V4 a) port e is same =
    let to = is.4 in
    subst Fits (some_is (envelope_4 (ipv4_octets s) a port) e same)
    (fits_4 (ipv4_octets s) a port (four_octets is.0 s is.3) (four_octets to.0 a to.3) to.4.1)
from_fits text (Some (ip.V4 s)) (ip.V6 a) port e is same = absurd (not_some e same)
from_fits text (Some (ip.V6 s)) (ip.V4 a) port e is same = absurd (not_some e same)
from_fits text (Some (ip.V6 s)) (ip.V6 a) port e is same =
    let from = is.3 in
    let to = is.4 in
    subst Fits (some_is (envelope_6 (ipv6_octets s) a port) e same)
    (fits_6 (ipv6_octets s) a port (sixteen_octets from.0 s from.2)
    (sixteen_octets to.3.0 a to.3.2) to.4.1)

text_fits : (text : List ℕ) (e : IpEnvelope) → IsEnvelopeText text e → Fits e
text_fits text e is = from_fits text is.source is.address is.port e is.flow is.envelope

second_fits : (b : Option (List ℕ)) (o : Option IpEnvelope) (e : IpEnvelope) → IsSecondText b o
    → o ≡ Some e → Fits e
second_fits None o e is same = absurd (none (sym is ∙ same))
  where
    none : {x : IpEnvelope} → None ≡ Some x → ⊥
    none bad = cc
second_fits (Some text) None e is same = absurd is
second_fits (Some text) (Some d) e is same =
    subst Fits (some_is d e same) (text_fits text d is)

path_fits : (a : List ℕ) (b : Option (List ℕ)) (es : Envelopes) → AreEnvelopes a b es
    → (path : Path) (e : IpEnvelope) → envelope_of es path ≡ Some e → Fits e
path_fits a b es are A e same =
    subst Fits (some_is es.a e same) (text_fits a es.a are.first)
path_fits a b es are B e same = second_fits b es.b e are.second same

-- ---- what is sent

record Sent (es : Envelopes) (e : Entry) (envelope : IpEnvelope) : Type 0 where
  few : length e.octets ≤ most_payload envelope
  time : e.moment < 2 ^ 32 * 1000000000
  from : envelope_of es e.path ≡ Some envelope

said : (w : IpEnvelope) (moment count : ℕ) → can_say w moment count ≡ true
    → (count ≤ most_payload w) × (moment < 2 ^ 32 * 1000000000)
said w moment count is = (grind (arith, nat_tests), grind (arith, nat_tests))

sent : (es : Envelopes) (e : Entry) (envelope : IpEnvelope) → sent_by es e ≡ Some envelope
    → Sent es e envelope
sent es e envelope is = of (envelope_of es e.path) refl is
  where
    by : (w : IpEnvelope) → envelope_of es e.path ≡ Some w → (t : Bool)
        → can_say w e.moment (length e.octets) ≡ t → cond t (Some w) None ≡ Some envelope
        → Sent es e envelope
    by w from true can same =
        let is_it : w ≡ envelope = some_is w envelope same in
        let both = said w e.moment (length e.octets) can in
        subst (λ (x : IpEnvelope). Sent es e x) is_it
        (record { few = both.0; time = both.1; from = from })
    by w from false can same = absurd (none same)
      where
        none : {x : IpEnvelope} → None ≡ Some x → ⊥
        none bad = cc

    of : (o : Option IpEnvelope) → envelope_of es e.path ≡ o
        → if_said o e.moment (length e.octets) ≡ Some envelope → Sent es e envelope
    of None from same = absurd (none same)
      where
        none : {x : IpEnvelope} → None ≡ Some x → ⊥
        none bad = cc
    of (Some w) from same = by w from (can_say w e.moment (length e.octets)) refl same

-- ---- the recording

one_datagram : (w : IpEnvelope) → Fits w → (payload : List ℕ) → length payload ≤ most_payload w
    → IsDatagram Ethernet (frame_by w payload) (enveloped_datagram w payload)
one_datagram (V4 w) fits payload few = is_datagram w fits payload few
one_datagram (V6 w) fits payload few = is_datagram6 w fits payload few

one_record : (w : IpEnvelope) → Fits w → (payload : List ℕ) → length payload ≤ most_payload w
    → (time : ℕ) → time < 2 ^ 32 * 1000000000
    → IsRecord written_file (datagram_record w time payload) (recorded_by w time payload)
one_record (V4 w) fits payload few time small = is_record w fits payload few time small
one_record (V6 w) fits payload few time small = is_record6 w fits payload few time small

module _ (a : List ℕ) (b : Option (List ℕ)) (es : Envelopes) (are : AreEnvelopes a b es) where
  fits : (e : Entry) (envelope : IpEnvelope) → sent_by es e ≡ Some envelope → Fits envelope
  fits e envelope is = path_fits a b es are e.path envelope (sent es e envelope is).from

  pub are_datagrams : (e : Entry) (envelope : IpEnvelope) → sent_by es e ≡ Some envelope
      → IsDatagram Ethernet (frame_by envelope e.octets) (enveloped_datagram envelope e.octets)
  are_datagrams e envelope is =
      one_datagram envelope (fits e envelope is) e.octets (sent es e envelope is).few

  one_more : (e : Entry) (o : Option IpEnvelope) → sent_by es e ≡ o → (text : List ℕ)
      (packets : List Recorded) → AreRecords written_file text packets
      → AreRecords written_file (packet_record o e ++ text) (cons_option (packet_of o e) packets)
  one_more e None is text packets all = all
  one_more e (Some envelope) is text packets all = (
    datagram_record envelope e.moment e.octets,
    text,
    one_record envelope (fits e envelope is) e.octets (sent es e envelope is).few e.moment
        (sent es e envelope is).time,
    refl,
    all,
  )

  are_records : (entries : List Entry)
      → AreRecords written_file (packets_text es entries) (packets_of es entries)
  are_records [] = refl
  are_records (e ∷ entries) =
      one_more e (sent_by es e) refl (packets_text es entries) (packets_of es entries)
      (are_records entries)

  pub is_reread : (entries : List Entry) → IsPcap (pcap_text es entries) (packets_of es entries)
  is_reread entries = record {
    file = written_file;
    front = file_text;
    rest = packets_text es entries;
    front_octets = refl;
    is = record { magic = refl; major = refl; minor = refl; snap = refl; link = refl };
    records = are_records entries;
    whole = refl;
  }
