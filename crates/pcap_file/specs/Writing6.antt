-- What is written of a datagram of IPv6: a record of pcap with a frame of Ethernet, IPv6 and UDP.
-- RFC 8200, 3 and 8.1; RFC 4291, 2.7; RFC 2464, 3 and 7; RFC 768; RFC 1071, 1.
use Rattle.std.specs.Prelude.{◌≡◌, ℕ, ◌+◌, ◌^◌, ◌<◌, ◌==◌, if◌then◌else◌, Bool, List, [], ◌∷◌, ◌++◌}
use Rattle.std.specs.Prelude.{None, Some, length, slice_index}
use Rattle.std.specs.Int.{w16, to_be_bytes}
use Rattle.pcap_file.specs.declared.writing.Envelope.{Envelope}
use Rattle.pcap_file.specs.declared.writing6.Envelope6.{Envelope6}
use Rattle.pcap_file.specs.PcapReading.{Recorded}
use Rattle.pcap_file.specs.Writing.{record_text, udp_checksum, udp_text}

-- Addresses and ports, whatever the version. What is summed for UDP before its header is the same
-- for IPv6: addresses, length and protocol (RFC 8200, 8.1).
abbrev pub ends_of : Envelope6 → Envelope
ends_of e =
    record {
      source = e.source;
      destination = e.destination;
      source_port = e.source_port;
      destination_port = e.destination_port;
    }

-- the first eight octets of a header of IPv6, for so many octets behind it
abbrev pub ip6_front_text : ℕ → List ℕ
ip6_front_text count = (0x60 ∷ 0 ∷ 0 ∷ 0 ∷ to_be_bytes w16 count) ++ (17 ∷ 64 ∷ [])

-- the header: behind them the addresses
abbrev pub ip6_text : Envelope6 → ℕ → List ℕ
ip6_text e count = ip6_front_text count ++ (e.source ++ e.destination)

-- an address of a group: its highest eight bits are 1. RFC 4291, 2.7
abbrev pub is_group6 : List ℕ → Bool
is_group6 address = slice_index address 0 == 255

-- The address of Ethernet of an address of IPv6: of a group 33-33 and the low 32 bits (RFC 2464,
-- 7). Another's is not known, and is 0.
abbrev pub ethernet6_of : List ℕ → List ℕ
ethernet6_of address =
    if is_group6 address
    then 0x33 ∷ 0x33 ∷ slice_index address 12 ∷ slice_index address 13 ∷ slice_index address 14
    ∷ slice_index address 15 ∷ []
    else 0 ∷ 0 ∷ 0 ∷ 0 ∷ 0 ∷ 0 ∷ []

-- the address of Ethernet that the packet is for, that of its sender, which is 0, and the type of
-- IPv6
abbrev pub ethernet6_text : Envelope6 → List ℕ
ethernet6_text e = ethernet6_of e.destination ++ (0 ∷ 0 ∷ 0 ∷ 0 ∷ 0 ∷ 0 ∷ 0x86 ∷ 0xdd ∷ [])

-- the header of UDP, with its checksum
abbrev pub udp6_text : Envelope6 → List ℕ → List ℕ
udp6_text e payload =
    udp_text (ends_of e) (8 + length payload) (udp_checksum (ends_of e) payload)

-- the heads of a record: all before the datagram's octets
abbrev pub heads6_text : Envelope6 → ℕ → List ℕ → List ℕ
heads6_text e time payload =
    record_text time (62 + length payload)
    ++ (ethernet6_text e ++ (ip6_text e (8 + length payload) ++ udp6_text e payload))

-- a frame of Ethernet: its header, those of IPv6 and UDP, and the datagram's octets
abbrev pub frame6_text : Envelope6 → List ℕ → List ℕ
frame6_text e payload =
    ethernet6_text e ++ (ip6_text e (8 + length payload) ++ (udp6_text e payload ++ payload))

-- a record of pcap: its head of 16 octets, and the frame
abbrev pub datagram6_text : Envelope6 → ℕ → List ℕ → List ℕ
datagram6_text e time payload =
    record_text time (62 + length payload) ++ frame6_text e payload

-- ---- what is read of it

-- an envelope whose numbers and addresses have their octets
pub record EnvelopeFits6 (e : Envelope6) : Type 0 where
  pub source : length e.source ≡ 16
  pub destination : length e.destination ≡ 16
  pub source_port : e.source_port < 2 ^ 16
  pub destination_port : e.destination_port < 2 ^ 16

-- the packet
abbrev pub recorded6_of : Envelope6 → ℕ → List ℕ → Recorded
recorded6_of e time payload =
    record {
      head = record {
        time = Some time;
        link = 1;
        captured = 62 + length payload;
        original = 62 + length payload;
        interface = None;
      };
      octets = frame6_text e payload;
    }
