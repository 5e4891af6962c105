-- IP packets: their addresses, and what they carry for UDP. RFC 791, 3.1; RFC 8200, 3 and 4.
use Rattle.std.specs.Prelude.{◌≡◌, ◌≢◌, ℕ, ◌+◌, ◌*◌, ◌/◌, ◌%◌, ◌^◌, ◌<◌, ◌≤◌, ◌⊎◌}
use Rattle.std.specs.Prelude.{Bool, true, false, ◌||◌, ◌==◌, List, [], ◌∷◌, ◌++◌, length, take}
use Rattle.std.specs.Prelude.{drop}
use Rattle.std.specs.Prelude.{slice_index}
use Rattle.std.specs.List.{concat}
use Rattle.pcap_file.specs.Parts.{Begins, number_16}
use Rattle.pcap_file.specs.declared.link.IpVersion.{IpVersion}
use Rattle.pcap_file.specs.declared.link.IpVersion.TheVariants.{V4, V6}

-- What a packet says: whence, where to, and the octets that it carries.
pub record Packet : Type 0 where
  pub source : List ℕ
  pub destination : List ℕ
  pub carried : List ℕ

-- the protocol that is read: UDP
abbrev pub udp : ℕ
udp = 17

-- ---- IPv4 (RFC 791, 3.1)

-- The first octet is the version in four bits and the header's length in words of four octets.
abbrev pub version_of : List ℕ → ℕ
version_of header = slice_index header 0 / 16

-- the length of the header in octets, options and all: four for each word
abbrev pub header_octets : List ℕ → ℕ
header_octets header = 4 * (slice_index header 0 % 16)

-- the length of the packet, header and all, in octets 2 and 3
abbrev pub total_octets : List ℕ → ℕ
total_octets header = number_16 2 header

-- the protocol, in octet 9
abbrev pub protocol_of : List ℕ → ℕ
protocol_of header = slice_index header 9

-- octets 6 and 7 without the bits that say nothing of fragments: "more fragments" and the offset
abbrev pub fragment_of : List ℕ → ℕ
fragment_of header = number_16 6 header % 2 ^ 14

-- A header of 20 octets that can be one: version 4, five words or more, all in the packet.
pub record IsHeader4 (header : List ℕ) : Type 0 where
  pub version : version_of header ≡ 4
  pub fixed : 20 ≤ header_octets header
  pub inside : header_octets header ≤ total_octets header

-- a header that can't be one: another version, fewer than five words, or more than the packet
abbrev pub IsBadHeader4 : List ℕ → Type 0
IsBadHeader4 header =
    (version_of header ≢ 4)
    ⊎ ((header_octets header < 20) ⊎ (total_octets header < header_octets header))

-- The octets are a packet of UDP, whole and no fragment: 20 octets of header, options, what it
-- carries, and any octets of the link layer behind it.
pub record IsPacket4 (octets : List ℕ) (p : Packet) : Type 0 where
  pub header : List ℕ
  pub options : List ℕ
  pub behind : List ℕ
  pub counted : length header ≡ 20
  pub is_header : IsHeader4 header
  pub words : length header + length options ≡ header_octets header
  pub total : length header + length options + length p.carried ≡ total_octets header
  pub protocol : protocol_of header ≡ udp
  pub unfragmented : fragment_of header ≡ 0
  pub source : p.source ≡ take 4 (drop 12 header)
  pub destination : p.destination ≡ take 4 (drop 16 header)
  pub whole : octets ≡ header ++ (options ++ (p.carried ++ behind))

-- ---- IPv6 (RFC 8200, 3 and 4)

-- the octets behind the header, in octets 4 and 5
abbrev pub payload_octets : List ℕ → ℕ
payload_octets header = number_16 4 header

-- the header of 20 octets or an extension that is next, in octet 6
abbrev pub next_of : List ℕ → ℕ
next_of header = slice_index header 6

-- the extensions that are passed over: hop-by-hop options, routing, destination options
abbrev pub is_passed : ℕ → Bool
is_passed n = n == 0 || n == 43 || n == 60

-- the number of a fragment's header among those of IPv6 (RFC 8200, 4.5)
abbrev pub fragment_header : ℕ
fragment_header = 44

-- the octets of an extension: eight, and eight for each that its second octet counts
abbrev pub extension_octets : List ℕ → ℕ
extension_octets octets = 8 * (slice_index octets 1 + 1)

-- Extensions one after the other, from the number of the first to the number of what is behind the
-- last: the first octet of each is the number of the next.
abbrev pub AreLinked : ℕ → List (List ℕ) → ℕ → Type 0
AreLinked first [] last = first ≡ last
AreLinked first (x ∷ xs) last =
    (is_passed first ≡ true) × (length x ≡ extension_octets x) × AreLinked (slice_index x 0) xs last

-- Octets are extensions, and then what is behind them, of which the number is this.
pub record LeadTo (first : ℕ) (octets : List ℕ) (last : ℕ) (rest : List ℕ) : Type 0 where
  pub extensions : List (List ℕ)
  pub linked : AreLinked first extensions last
  pub parts : octets ≡ concat extensions ++ rest

-- The octets are a packet of UDP, whole and no fragment: 40 octets of header, extensions, what it
-- carries, and any octets of the link layer behind it.
pub record IsPacket6 (octets : List ℕ) (p : Packet) : Type 0 where
  pub header : List ℕ
  pub payload : List ℕ
  pub behind : List ℕ
  pub counted : length header ≡ 40
  pub version : version_of header ≡ 6
  pub total : length payload ≡ payload_octets header
  pub leads : LeadTo (next_of header) payload udp p.carried
  pub source : p.source ≡ take 16 (drop 8 header)
  pub destination : p.destination ≡ take 16 (drop 24 header)
  pub whole : octets ≡ header ++ (payload ++ behind)

-- the octets are a packet of this version that carries this for UDP
abbrev pub IsUdpPacket : IpVersion → List ℕ → Packet → Type 0
IsUdpPacket V4 octets p = IsPacket4 octets p
IsUdpPacket V6 octets p = IsPacket6 octets p

-- ---- what is no such packet

-- octets begin with a header of IPv4 that can be one, and the packet is whole
pub record IsWhole4 (octets header rest : List ℕ) : Type 0 where
  pub begins : Begins octets 20 header rest
  pub is_header : IsHeader4 header
  pub there : total_octets header ≤ length octets

-- the same of IPv6: the payload is whole
pub record IsWhole6 (octets header payload behind : List ℕ) : Type 0 where
  pub begins : Begins octets 40 header (payload ++ behind)
  pub version : version_of header ≡ 6
  pub there : length payload ≡ payload_octets header

-- A header isn't whole, or can be one and says more octets than there are.
abbrev pub IsCutPacket : IpVersion → List ℕ → Type 0
IsCutPacket V4 octets =
    (length octets < 20)
    ⊎ ((header : List ℕ) × (rest : List ℕ) × Begins octets 20 header rest × IsHeader4 header
    × (length octets < total_octets header))
IsCutPacket V6 octets =
    (length octets < 40)
    ⊎ ((header : List ℕ) × (rest : List ℕ) × Begins octets 40 header rest × (version_of header ≡ 6)
    × (length rest < payload_octets header))

-- The header is whole and can't be one; of IPv6 also: the packet is whole, and an extension isn't.
abbrev pub IsBadPacket : IpVersion → List ℕ → Type 0
IsBadPacket V4 octets =
    (header : List ℕ) × (rest : List ℕ) × Begins octets 20 header rest × IsBadHeader4 header
IsBadPacket V6 octets =
    ((header : List ℕ) × (rest : List ℕ) × Begins octets 40 header rest × (version_of header ≢ 6))
    ⊎ ((header : List ℕ) × (payload : List ℕ) × (behind : List ℕ) × IsWhole6 octets header payload
    behind
    × ((last : ℕ) × (rest : List ℕ) × LeadTo (next_of header) payload last rest
    × (is_passed last ≡ true) × (length rest < extension_octets rest)))

-- The packet is whole, and carries another protocol.
abbrev pub IsNotUdp : IpVersion → List ℕ → Type 0
IsNotUdp V4 octets =
    (header : List ℕ) × (rest : List ℕ) × IsWhole4 octets header rest × (protocol_of header ≢ udp)
IsNotUdp V6 octets =
    (header : List ℕ) × (payload : List ℕ) × (behind : List ℕ) × IsWhole6 octets header payload
    behind
    × ((last : ℕ) × (rest : List ℕ) × LeadTo (next_of header) payload last rest
    × (is_passed last ≡ false) × (last ≢ udp) × (last ≢ fragment_header))

-- The packet is whole, and a fragment: of IPv4, of UDP.
abbrev pub IsFragment : IpVersion → List ℕ → Type 0
IsFragment V4 octets =
    (header : List ℕ) × (rest : List ℕ) × IsWhole4 octets header rest × (protocol_of header ≡ udp)
    × (fragment_of header ≢ 0)
IsFragment V6 octets =
    (header : List ℕ) × (payload : List ℕ) × (behind : List ℕ) × IsWhole6 octets header payload
    behind
    × ((rest : List ℕ) × LeadTo (next_of header) payload fragment_header rest)
