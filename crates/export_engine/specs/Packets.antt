-- The packets that `export` writes of a capture's records, as a recording of pcap (own).
use Rattle.std.specs.Prelude.{◌≡◌, ℕ, ◌*◌, ◌^◌, ◌&&◌, nat_le, nat_lt, Bool, true, false}
use Rattle.std.specs.Prelude.{if◌then◌else◌, List, [], ◌∷◌, ◌++◌, length, Option, None, Some}
use Rattle.std.specs.Prelude.{count_by}
use Rattle.std.specs.List.{flat_map}
use Rattle.std.specs.Net.Addr.{ipv4_octets, ipv6_octets}
use Rattle.std.specs.declared.net.ip_addr.IpAddr.{IpAddr}
use Rattle.std.specs.declared.net.ip_addr.IpAddr.TheVariants as ip
use Rattle.std.specs.declared.net.ipv4_addr.Ipv4Addr.{Ipv4Addr}
use Rattle.std.specs.declared.net.ipv6_addr.Ipv6Addr.{Ipv6Addr}
use Rattle.st_format.specs.declared.path.Path.{Path}
use Rattle.st_format.specs.declared.path.Path.TheVariants.{A, B}
use Rattle.media_file.specs.Records.{Entry}
use Rattle.flow.specs.FlowText.{IsFlowText}
use Rattle.pcap_file.specs.Writing.{datagram_text, file_text}
use Rattle.pcap_file.specs.Writing6.{datagram6_text}
use Rattle.export_engine.specs.declared.places.Envelopes.{Envelopes}
use Rattle.export_engine.specs.declared.places.IpEnvelope.{IpEnvelope}
use Rattle.export_engine.specs.declared.places.IpEnvelope.TheVariants.{V4, V6}

-- the address that sends of IPv4: one for documentation (RFC 5737, 3)
abbrev pub sender : List ℕ
sender = 192 ∷ 0 ∷ 2 ∷ 1 ∷ []

-- the address that sends of IPv6, 2001:db8::1: one for documentation (RFC 3849, 2)
abbrev pub sender6 : List ℕ
sender6 = 0x20 ∷ 0x01 ∷ 0x0d ∷ 0xb8 ∷ 0 ∷ 0 ∷ 0 ∷ 0 ∷ 0 ∷ 0 ∷ 0 ∷ 0 ∷ 0 ∷ 0 ∷ 0 ∷ 1 ∷ []

-- from octets of a source to an address of IPv4 and a port, and from the same port
abbrev pub envelope_4 : List ℕ → Ipv4Addr → ℕ → IpEnvelope
envelope_4 source a port =
    V4 (record {
      source = source;
      destination = ipv4_octets a;
      source_port = port;
      destination_port = port;
    })

-- the same of IPv6
abbrev pub envelope_6 : List ℕ → Ipv6Addr → ℕ → IpEnvelope
envelope_6 source a port =
    V6 (record {
      source = source;
      destination = ipv6_octets a;
      source_port = port;
      destination_port = port;
    })

-- From a source to an address and a port, and where none is named from the sender of the address's
-- version; none where the source is of the other version.
abbrev pub envelope_from : Option IpAddr → IpAddr → ℕ → Option IpEnvelope
envelope_from None (ip.V4 a) port = Some (envelope_4 sender a port)
envelope_from None (ip.V6 a) port = Some (envelope_6 sender6 a port)
envelope_from (Some (ip.V4 s)) (ip.V4 a) port = Some (envelope_4 (ipv4_octets s) a port)
envelope_from (Some (ip.V4 s)) (ip.V6 a) port = None
envelope_from (Some (ip.V6 s)) (ip.V4 a) port = None
envelope_from (Some (ip.V6 s)) (ip.V6 a) port = Some (envelope_6 (ipv6_octets s) a port)

-- A text is a flow to an address, and names no interface, and so its datagrams are sent.
pub record IsEnvelopeText (text : List ℕ) (e : IpEnvelope) : Type 0 where
  pub source : Option IpAddr
  pub address : IpAddr
  pub port : ℕ
  pub flow : IsFlowText text
      (record { interface = None; source = source; address = Some address; port = port })
  pub envelope : envelope_from source address port ≡ Some e

-- so of the text of path B, where there is one
abbrev pub IsSecondText : Option (List ℕ) → Option IpEnvelope → Type 0
IsSecondText None e = e ≡ None
IsSecondText (Some text) None = ⊥
IsSecondText (Some text) (Some e) = IsEnvelopeText text e

-- and of the texts of both paths
pub record AreEnvelopes (a : List ℕ) (b : Option (List ℕ)) (es : Envelopes) : Type 0 where
  pub first : IsEnvelopeText a es.a
  pub second : IsSecondText b es.b

-- texts are flows to addresses
abbrev pub SayFlows : List ℕ → Option (List ℕ) → Type 0
SayFlows a b = (es : Envelopes) × AreEnvelopes a b es

-- how the datagrams of a path are sent
abbrev pub envelope_of : Envelopes → Path → Option IpEnvelope
envelope_of es A = Some es.a
envelope_of es B = es.b

-- The octets that a datagram has at most: a packet of IPv4 has 65,535 with its header of 20 (RFC
-- 791, 3.1), one of IPv6 has them behind its header (RFC 8200, 3); 8 are the header of UDP (RFC
-- 768).
abbrev pub most_payload : IpEnvelope → ℕ
most_payload (V4 e) = 65507
most_payload (V6 e) = 65527

-- The datagram fits a packet. And its moment in nanoseconds is a time that pcap can say: 32 bits of
-- seconds.
abbrev pub can_say : IpEnvelope → ℕ → ℕ → Bool
can_say e moment count = nat_le count (most_payload e) && nat_lt moment (2 ^ 32 * 1000000000)

-- an envelope, where there is one and it can say a datagram of so many octets at a moment
abbrev pub if_said : Option IpEnvelope → ℕ → ℕ → Option IpEnvelope
if_said None moment count = None
if_said (Some e) moment count = if can_say e moment count then Some e else None

-- how a record's datagram is sent; none where it is left out
abbrev pub sent_by : Envelopes → Entry → Option IpEnvelope
sent_by es e = if_said (envelope_of es e.path) e.moment (length e.octets)

-- a datagram, as a record of pcap
abbrev pub datagram_record : IpEnvelope → ℕ → List ℕ → List ℕ
datagram_record (V4 e) time payload = datagram_text e time payload
datagram_record (V6 e) time payload = datagram6_text e time payload

-- a packet, at the record's moment
abbrev pub packet_record : Option IpEnvelope → Entry → List ℕ
packet_record None e = []
packet_record (Some envelope) e = datagram_record envelope e.moment e.octets

-- the packet of a record, at its moment; nothing, where the record is left out
abbrev pub packet_text : Envelopes → Entry → List ℕ
packet_text es e = packet_record (sent_by es e) e

-- packets, one after the other
abbrev pub packets_text : Envelopes → List Entry → List ℕ
packets_text es entries = flat_map (packet_text es) entries

-- a recording of the packets of a capture's records
abbrev pub pcap_text : Envelopes → List Entry → List ℕ
pcap_text es entries = file_text ++ packets_text es entries

-- a record has a packet
abbrev pub is_there : Option IpEnvelope → Bool
is_there None = false
is_there (Some envelope) = true

-- a record of a capture has a packet
abbrev pub has_packet : Envelopes → Entry → Bool
has_packet es e = is_there (sent_by es e)

-- how many records have a packet
abbrev pub packet_count : Envelopes → List Entry → ℕ
packet_count es entries = count_by (has_packet es) entries
