-- What stands before an IP packet in a recording, by the link layer: the registry of link-layer
-- header types of pcap and pcapng; IEEE 802.3, 3.2; IEEE 802.1Q, 9.6.
use Rattle.std.specs.Prelude.{◌≡◌, ℕ, zero, suc, ◌+◌, ◌/◌, ◌<◌, ◌≤◌, ◌⊎◌, Bool, IsTrue, ◌||◌}
use Rattle.std.specs.Prelude.{◌&&◌, nat_le, ◌==◌, if◌then◌else◌, List, length, take, drop}
use Rattle.std.specs.Prelude.{slice_index, Option, Some, None}
use Rattle.std.specs.Int.{w32, from_be_bytes, from_le_bytes}
use Rattle.pcap_file.specs.Parts.{Begins, number_16}
use Rattle.pcap_file.specs.declared.link.IpVersion.{IpVersion}
use Rattle.pcap_file.specs.declared.link.IpVersion.TheVariants.{V4, V6}
use Rattle.pcap_file.specs.declared.link.Link.{Link}
use Rattle.pcap_file.specs.declared.link.Link.TheVariants.{Null, Ethernet, Ip, Loop, Cooked, Ip4}
use Rattle.pcap_file.specs.declared.link.Link.TheVariants.{Ip6, Cooked2}

-- ---- numbers

-- the link layer of a number of the registry, of those that are read
abbrev pub link_of : ℕ → Option Link
link_of n =
    if n == 0 then Some Null else
    (if n == 1 then Some Ethernet else
    (if n == 101 then Some Ip else
    (if n == 108 then Some Loop else
    (if n == 113 then Some Cooked else
    (if n == 228 then Some Ip4 else
    (if n == 229 then Some Ip6 else
    (if n == 276 then Some Cooked2 else None)))))))

-- the version of IP that an EtherType is of: 0x0800 and 0x86dd
abbrev pub version_of_type : ℕ → Option IpVersion
version_of_type n = if n == 0x0800 then Some V4 else (if n == 0x86dd then Some V6 else None)

-- the types of tags: of a customer's VLAN and of a service's (IEEE 802.1Q, 9.5)
abbrev pub is_tag_type : ℕ → Bool
is_tag_type n = n == 0x8100 || n == 0x88a8

-- the version of IP that a family of addresses is of: 2, and the numbers of IPv6 in the BSDs and
-- macOS
abbrev pub version_of_family : ℕ → Option IpVersion
version_of_family n =
    if n == 2 then Some V4 else (if n == 24 || n == 28 || n == 30 then Some V6 else None)

-- the version that the first four bits of a packet are
abbrev pub version_of_packet : List ℕ → Option IpVersion
version_of_packet packet =
    if slice_index packet 0 / 16 == 4 then Some V4
    else (if slice_index packet 0 / 16 == 6 then Some V6 else None)

-- the one, or where it is none, the other
abbrev pub option_or : Option IpVersion → Option IpVersion → Option IpVersion
option_or (Some v) other = Some v
option_or None other = other

-- the version by the family in four octets of either order (link layer 0)
abbrev pub version_of_either : List ℕ → Option IpVersion
version_of_either four =
    option_or (version_of_family (from_be_bytes w32 four))
    (version_of_family (from_le_bytes w32 four))

-- ---- the grammar

-- An EtherType in two octets, which says the version of IP, and the packet.
pub record IsType (octets : List ℕ) (version : IpVersion) (packet : List ℕ) : Type 0 where
  pub type : List ℕ
  pub begins : Begins octets 2 type packet
  pub known : version_of_type (number_16 0 type) ≡ Some version

-- A tag of four octets, its type and two octets of control information, and what is behind it.
-- IEEE 802.1Q, 9.6
pub record IsTagged (octets tag rest : List ℕ) : Type 0 where
  pub begins : Begins octets 4 tag rest
  pub type : IsTrue (is_tag_type (number_16 0 tag))

-- At most so many tags, then the EtherType and the packet.
abbrev pub IsTyped : ℕ → List ℕ → IpVersion → List ℕ → Type 0
IsTyped zero octets version packet = IsType octets version packet
IsTyped (suc n) octets version packet =
    IsType octets version packet
    ⊎ ((tag : List ℕ) × (rest : List ℕ) × IsTagged octets tag rest × IsTyped n rest version packet)

-- So many octets, then at most two tags, the EtherType and the packet.
pub record IsFramed (count : ℕ) (octets : List ℕ) (version : IpVersion)
    (packet : List ℕ) : Type 0 where
  pub front : List ℕ
  pub typed : List ℕ
  pub begins : Begins octets count front typed
  pub is : IsTyped 2 typed version packet

-- A header of so many octets, which says the version, and the packet.
pub record IsHeaded (count : ℕ) (version_of : List ℕ → Option IpVersion) (octets : List ℕ)
    (version : IpVersion) (packet : List ℕ) : Type 0 where
  pub header : List ℕ
  pub begins : Begins octets count header packet
  pub known : version_of header ≡ Some version

-- A packet alone, which says its version.
pub record IsPlain (octets : List ℕ) (version : IpVersion) (packet : List ℕ) : Type 0 where
  pub same : octets ≡ packet
  pub known : version_of_packet packet ≡ Some version

-- a packet alone, of this version
abbrev pub IsOnly : IpVersion → List ℕ → IpVersion → List ℕ → Type 0
IsOnly only octets version packet = (octets ≡ packet) × (only ≡ version)

-- The octets are a packet of this version behind the header of a link layer: two addresses of six
-- octets and a type (Ethernet); 14 octets and a type (cooked, version 1); 20 octets, the first two
-- of which are the type (cooked, version 2); four octets of family, in either order (null) or most
-- significant first (loop); or nothing (raw IP).
abbrev pub IsLinked : Link → List ℕ → IpVersion → List ℕ → Type 0
IsLinked Null octets version packet = IsHeaded 4 version_of_either octets version packet
IsLinked Ethernet octets version packet = IsFramed 12 octets version packet
IsLinked Ip octets version packet = IsPlain octets version packet
IsLinked Loop octets version packet =
    IsHeaded 4 (λ four. version_of_family (from_be_bytes w32 four)) octets version packet
IsLinked Cooked octets version packet = IsFramed 14 octets version packet
IsLinked Ip4 octets version packet = IsOnly V4 octets version packet
IsLinked Ip6 octets version packet = IsOnly V6 octets version packet
IsLinked Cooked2 octets version packet =
    IsHeaded 20 (λ header. version_of_type (number_16 0 header)) octets version packet

-- ---- where the packet begins

-- the octets begin with the type of a tag
abbrev pub begins_tag : List ℕ → Bool
begins_tag octets = nat_le 2 (length octets) && is_tag_type (number_16 0 octets)

-- How many octets the tags at the front have, of at most so many. One that isn't whole counts as
-- whole: then what is behind it lies behind the octets.
abbrev pub tag_octets : ℕ → List ℕ → ℕ
tag_octets zero octets = 0
tag_octets (suc n) octets =
    if begins_tag octets then 4 + tag_octets n (drop 4 octets) else 0

-- where the EtherType stands, behind so many octets and at most two tags
abbrev pub type_place : ℕ → List ℕ → ℕ
type_place count octets = count + tag_octets 2 (drop count octets)

-- how many octets stand before the packet
abbrev pub packet_place : Link → List ℕ → ℕ
packet_place Null octets = 4
packet_place Ethernet octets = type_place 12 octets + 2
packet_place Ip octets = 0
packet_place Loop octets = 4
packet_place Cooked octets = type_place 14 octets + 2
packet_place Ip4 octets = 0
packet_place Ip6 octets = 0
packet_place Cooked2 octets = 20

-- the version that the header says, where it is whole
abbrev pub said_version : Link → List ℕ → Option IpVersion
said_version Null octets = version_of_either (take 4 octets)
said_version Ethernet octets = version_of_type (number_16 (type_place 12 octets) octets)
said_version Ip octets = version_of_packet octets
said_version Loop octets = version_of_family (from_be_bytes w32 (take 4 octets))
said_version Cooked octets = version_of_type (number_16 (type_place 14 octets) octets)
said_version Ip4 octets = Some V4
said_version Ip6 octets = Some V6
said_version Cooked2 octets = version_of_type (number_16 0 (take 20 octets))

-- ---- what is no packet

-- The header of the link layer isn't whole.
abbrev pub IsCutLink : Link → List ℕ → Type 0
IsCutLink link octets = length octets < packet_place link octets

-- The header is whole, and says no version of IP.
pub record IsNotIp (link : Link) (octets : List ℕ) : Type 0 where
  pub whole : packet_place link octets ≤ length octets
  pub other : said_version link octets ≡ None
