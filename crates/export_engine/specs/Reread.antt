-- The recording that `export` writes, as the grammar of recordings has it (own).
use Rattle.std.specs.Prelude.{◌≡◌, ℕ, List, Option, None, Some}
use Rattle.std.specs.List.{filter_map}
use Rattle.media_file.specs.Records.{Entry}
use Rattle.pcap_file.specs.Datagram.{IsDatagram}
use Rattle.pcap_file.specs.PcapReading.{IsPcap, Recorded}
use Rattle.pcap_file.specs.Udp.{Datagram}
use Rattle.pcap_file.specs.Writing.{datagram_of, frame_text, recorded_of}
use Rattle.pcap_file.specs.Writing6.{ends_of, frame6_text, recorded6_of}
use Rattle.pcap_file.specs.declared.link.Link.TheVariants.{Ethernet}
use Rattle.export_engine.specs.Packets.{AreEnvelopes, pcap_text, sent_by}
use Rattle.export_engine.specs.declared.places.Envelopes.{Envelopes}
use Rattle.export_engine.specs.declared.places.IpEnvelope.{IpEnvelope}
use Rattle.export_engine.specs.declared.places.IpEnvelope.TheVariants.{V4, V6}

-- a datagram so sent, as a packet that is recorded at this time
abbrev pub recorded_by : IpEnvelope → ℕ → List ℕ → Recorded
recorded_by (V4 e) time payload = recorded_of e time payload
recorded_by (V6 e) time payload = recorded6_of e time payload

-- the octets of its packet
abbrev pub frame_by : IpEnvelope → List ℕ → List ℕ
frame_by (V4 e) payload = frame_text e payload
frame_by (V6 e) payload = frame6_text e payload

-- the datagram that these are
abbrev pub enveloped_datagram : IpEnvelope → List ℕ → Datagram
enveloped_datagram (V4 e) payload = datagram_of e payload
enveloped_datagram (V6 e) payload = datagram_of (ends_of e) payload

-- the packet that a record has: at its moment
abbrev pub packet_of : Option IpEnvelope → Entry → Option Recorded
packet_of None e = None
packet_of (Some envelope) e = Some (recorded_by envelope e.moment e.octets)

-- the packets of records, in their order
abbrev pub packets_of : Envelopes → List Entry → List Recorded
packets_of es entries = filter_map (λ (e : Entry). packet_of (sent_by es e) e) entries

-- What is written of records is a recording of their packets.
abbrev pub IsReread : Type 0
IsReread = (a : List ℕ) (b : Option (List ℕ)) (es : Envelopes) → AreEnvelopes a b es
    → (entries : List Entry) → IsPcap (pcap_text es entries) (packets_of es entries)

-- And each packet's octets are the record's datagram, to where it is sent.
abbrev pub AreDatagrams : Type 0
AreDatagrams = (a : List ℕ) (b : Option (List ℕ)) (es : Envelopes) → AreEnvelopes a b es
    → (e : Entry) (envelope : IpEnvelope) → sent_by es e ≡ Some envelope
    → IsDatagram Ethernet (frame_by envelope e.octets) (enveloped_datagram envelope e.octets)
