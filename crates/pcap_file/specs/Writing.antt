-- What is written of a datagram: a record of pcap in nanoseconds, most significant octet first,
-- with a frame of Ethernet, IPv4 and UDP. The draft of pcap (file header, packet record);
-- RFC 1112, 6.4; RFC 791, 3.1; RFC 768; RFC 1071, 1.
use Rattle.std.specs.Prelude.{◌≡◌, ℕ, ◌+◌, ◌-◌, ◌*◌, ◌/◌, ◌%◌, ◌^◌, ◌<◌, ◌==◌, if◌then◌else◌}
use Rattle.std.specs.Prelude.{Bool, List, [], ◌∷◌, ◌++◌, length, slice_index}
use Rattle.std.specs.Int.{w16, w32, to_be_bytes}
use Rattle.std.specs.Prelude.{true, None, Some}
use Rattle.pcap_file.specs.declared.order.ByteOrder.TheVariants.{Big}
use Rattle.pcap_file.specs.declared.pcap.PcapHead.{PcapHead}
use Rattle.pcap_file.specs.declared.writing.Envelope.{Envelope}
use Rattle.pcap_file.specs.PcapReading.{Recorded}
use Rattle.pcap_file.specs.Udp.{Datagram}

-- The sum of the numbers of 16 bits that octets are, the last filled up with 0. RFC 1071, 1
abbrev pub word_sum : List ℕ → ℕ
word_sum [] = 0
word_sum (x ∷ []) = 256 * x
word_sum (x ∷ y ∷ rest) = 256 * x + y + word_sum rest

-- A sum of ones' complements in 16 bits: 65535 stands for 0 where there is something. RFC 1071, 1
abbrev pub folded : ℕ → ℕ
folded sum = if sum == 0 then 0 else (sum - 1) % 65535 + 1

-- the complement of that sum, which is a checksum. RFC 1071, 1
abbrev pub complement_of : ℕ → ℕ
complement_of sum = 65535 - folded sum

-- as UDP sends it: 0 would mean that there is none. RFC 768
abbrev pub sent_sum : ℕ → ℕ
sent_sum checksum = if checksum == 0 then 65535 else checksum

-- the octets that are summed for UDP before its header: addresses, protocol and length. RFC 768
abbrev pub pseudo_sum : Envelope → ℕ → ℕ
pseudo_sum e count = word_sum e.source + word_sum e.destination + 17 + count

-- the first 12 octets of a header of IPv4 of 20, for so many octets with it, with this checksum
abbrev pub ip_front_text : ℕ → ℕ → List ℕ
ip_front_text total checksum =
    (0x45 ∷ 0 ∷ to_be_bytes w16 total)
    ++ (0 ∷ 0 ∷ 0x40 ∷ 0 ∷ 64 ∷ 17 ∷ to_be_bytes w16 checksum)

-- the header: behind them the addresses
abbrev pub ip_text : Envelope → ℕ → ℕ → List ℕ
ip_text e total checksum = ip_front_text total checksum ++ (e.source ++ e.destination)

-- a header of UDP from one port to another, for so many octets with it, with this checksum
abbrev pub udp_head_text : ℕ → ℕ → ℕ → ℕ → List ℕ
udp_head_text from to count checksum =
    (to_be_bytes w16 from ++ to_be_bytes w16 to)
    ++ (to_be_bytes w16 count ++ to_be_bytes w16 checksum)

-- of an envelope's ports
abbrev pub udp_text : Envelope → ℕ → ℕ → List ℕ
udp_text e count checksum = udp_head_text e.source_port e.destination_port count checksum

-- an address of a group: its highest four bits are 1110. RFC 1112, 4
abbrev pub is_group : List ℕ → Bool
is_group address = slice_index address 0 / 16 == 14

-- The address of Ethernet of an address of IPv4: of a group 01-00-5E, a bit that is 0 and the low
-- 23 bits (RFC 1112, 6.4). Another's is not known, and is 0.
abbrev pub ethernet_of : List ℕ → List ℕ
ethernet_of address =
    if is_group address
    then 1 ∷ 0 ∷ 0x5e ∷ (slice_index address 1 % 128) ∷ slice_index address 2
    ∷ slice_index address 3 ∷ []
    else 0 ∷ 0 ∷ 0 ∷ 0 ∷ 0 ∷ 0 ∷ []

-- the address of Ethernet that the packet is for, that of its sender, which is 0, and the type of
-- IPv4
abbrev pub ethernet_text : Envelope → List ℕ
ethernet_text e = ethernet_of e.destination ++ (0 ∷ 0 ∷ 0 ∷ 0 ∷ 0 ∷ 0 ∷ 8 ∷ 0 ∷ [])

-- the 16 octets before a packet's own
abbrev pub record_text : ℕ → ℕ → List ℕ
record_text time count =
    (to_be_bytes w32 (time / 1000000000) ++ to_be_bytes w32 (time % 1000000000))
    ++ (to_be_bytes w32 count ++ to_be_bytes w32 count)

-- the checksum of a header of IPv4, over the header with 0 in its place. RFC 791, 3.1
abbrev pub ip_checksum : Envelope → ℕ → ℕ
ip_checksum e total = complement_of (word_sum (ip_text e total 0))

-- the checksum of UDP as it is sent, over addresses, protocol, length, header and data. RFC 768
abbrev pub udp_checksum : Envelope → List ℕ → ℕ
udp_checksum e payload =
    sent_sum
    (complement_of (pseudo_sum e (8 + length payload)
    + word_sum (udp_text e (8 + length payload) 0) + word_sum payload))

-- the heads of a record: all before the datagram's octets
abbrev pub heads_text : Envelope → ℕ → List ℕ → List ℕ
heads_text e time payload =
    record_text time (42 + length payload)
    ++ (ethernet_text e
    ++ (ip_text e (28 + length payload) (ip_checksum e (28 + length payload))
    ++ udp_text e (8 + length payload) (udp_checksum e payload)))

-- a frame of Ethernet: its header, those of IPv4 and UDP, and the datagram's octets
abbrev pub frame_text : Envelope → List ℕ → List ℕ
frame_text e payload =
    ethernet_text e
    ++ (ip_text e (28 + length payload) (ip_checksum e (28 + length payload))
    ++ (udp_text e (8 + length payload) (udp_checksum e payload) ++ payload))

-- a record of pcap: its head of 16 octets, and the frame
abbrev pub datagram_text : Envelope → ℕ → List ℕ → List ℕ
datagram_text e time payload =
    record_text time (42 + length payload) ++ frame_text e payload

-- ---- what is read of it

-- an envelope whose numbers and addresses have their octets
pub record EnvelopeFits (e : Envelope) : Type 0 where
  pub source : length e.source ≡ 4
  pub destination : length e.destination ≡ 4
  pub source_port : e.source_port < 2 ^ 16
  pub destination_port : e.destination_port < 2 ^ 16

-- the datagram that is read again of an envelope and octets
abbrev pub datagram_of : Envelope → List ℕ → Datagram
datagram_of e payload =
    record {
      source = e.source;
      destination = e.destination;
      source_port = e.source_port;
      destination_port = e.destination_port;
      payload = payload;
    }

-- what stands before the records of a file: nanoseconds, most significant octet first, Ethernet
abbrev pub written_file : PcapHead
written_file = record { order = Big; nanoseconds = true; snap = 262144; link = 1 }

-- the 24 octets of a file before its records: the magic number of nanoseconds, version 2.4,
-- 262144 octets kept of a packet at most, Ethernet
abbrev pub file_text : List ℕ
file_text =
    0xa1 ∷ 0xb2 ∷ 0x3c ∷ 0x4d ∷ 0 ∷ 2 ∷ 0 ∷ 4 ∷ 0 ∷ 0 ∷ 0 ∷ 0 ∷ 0 ∷ 0 ∷ 0 ∷ 0 ∷ 0 ∷ 4 ∷ 0 ∷ 0 ∷ 0
    ∷ 0 ∷ 0 ∷ 1 ∷ []

-- the packet
abbrev pub recorded_of : Envelope → ℕ → List ℕ → Recorded
recorded_of e time payload =
    record {
      head = record {
        time = Some time;
        link = 1;
        captured = 42 + length payload;
        original = 42 + length payload;
        interface = None;
      };
      octets = frame_text e payload;
    }
