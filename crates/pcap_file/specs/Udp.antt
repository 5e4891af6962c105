-- UDP in what an IP packet carries. RFC 768.
use Rattle.std.specs.Prelude.{◌≡◌, ℕ, ◌+◌, ◌<◌, ◌⊎◌, List, ◌++◌, length}
use Rattle.pcap_file.specs.Parts.{Begins, number_16}
use Rattle.pcap_file.specs.Ip.{Packet}

-- What a datagram says: whence and where to, addresses and ports, and its octets.
pub record Datagram : Type 0 where
  pub source : List ℕ
  pub destination : List ℕ
  pub source_port : ℕ
  pub destination_port : ℕ
  pub payload : List ℕ

-- the length of header and data, in octets 4 and 5
abbrev pub udp_octets : List ℕ → ℕ
udp_octets header = number_16 4 header

-- What a packet carries is a header of eight octets, the data, and any octets behind the length
-- that the header says.
pub record IsUdp (p : Packet) (d : Datagram) : Type 0 where
  pub header : List ℕ
  pub behind : List ℕ
  pub counted : length header ≡ 8
  pub total : length header + length d.payload ≡ udp_octets header
  pub source : d.source ≡ p.source
  pub destination : d.destination ≡ p.destination
  pub source_port : d.source_port ≡ number_16 0 header
  pub destination_port : d.destination_port ≡ number_16 2 header
  pub whole : p.carried ≡ header ++ (d.payload ++ behind)

-- The header isn't whole, or says fewer octets than it has or more than there are.
abbrev pub IsBadLength : List ℕ → Type 0
IsBadLength octets =
    (length octets < 8)
    ⊎ ((header : List ℕ) × (rest : List ℕ) × Begins octets 8 header rest
    × ((udp_octets header < 8) ⊎ (length octets < udp_octets header)))
