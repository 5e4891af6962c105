-- A walk over a recorded packet from the left, as the code walks. What a datagram is says Datagram,
-- and what stands in octets that are none says Reasons; laws join the three.
use Rattle.std.specs.Prelude.{ℕ, zero, suc, ◌||◌, not, nat_lt, ◌==◌}
use Rattle.std.specs.Prelude.{if◌then◌else◌, List, length, take, drop, slice_index, Option, Some}
use Rattle.std.specs.Prelude.{None}
use Rattle.std.specs.Prelude.{Result, Ok, Err}
use Rattle.st_format.specs.Reading.{◌>>=◌}
use Rattle.pcap_file.specs.declared.datagram.NoDatagram.{NoDatagram}
use Rattle.pcap_file.specs.declared.datagram.NoDatagram.TheVariants.{NotIp, CutShort, BadIpHeader}
use Rattle.pcap_file.specs.declared.datagram.NoDatagram.TheVariants.{NotUdp, Fragment, BadUdpLength}
use Rattle.pcap_file.specs.declared.link.IpVersion.{IpVersion}
use Rattle.pcap_file.specs.declared.link.IpVersion.TheVariants.{V4, V6}
use Rattle.pcap_file.specs.declared.link.Link.{Link}
use Rattle.pcap_file.specs.Parts.{number_16}
use Rattle.pcap_file.specs.Link.{packet_place, said_version}
use Rattle.pcap_file.specs.Ip.{Packet, extension_octets, fragment_header, fragment_of}
use Rattle.pcap_file.specs.Ip.{header_octets, is_passed, next_of, payload_octets, protocol_of}
use Rattle.pcap_file.specs.Ip.{total_octets, udp, version_of}
use Rattle.pcap_file.specs.Udp.{Datagram, udp_octets}

-- a reason, or else this
abbrev pub reason_or : {A : Type 0} → Option NoDatagram → A → Result A NoDatagram
reason_or None x = Ok x
reason_or (Some e) x = Err e

-- a version that is said, with the packet
abbrev pub version_or : Option IpVersion → List ℕ → Result (IpVersion × List ℕ) NoDatagram
version_or (Some version) packet = Ok (version, packet)
version_or None packet = Err NotIp

-- what is behind the link layer
unfoldable pub link_at : Link → List ℕ → Result (IpVersion × List ℕ) NoDatagram
link_at link octets =
    if nat_lt (length octets) (packet_place link octets) then Err CutShort
    else version_or (said_version link octets) (drop (packet_place link octets) octets)

-- what speaks against a header of IPv4, where so many octets are there
abbrev pub reason_4 : List ℕ → ℕ → Option NoDatagram
reason_4 header there =
    if not (version_of header == 4)
    || nat_lt (header_octets header) 20 || nat_lt (total_octets header) (header_octets header)
    then Some BadIpHeader else
    (if nat_lt there (total_octets header) then Some CutShort else
    (if not (protocol_of header == udp) then Some NotUdp else
    (if not (fragment_of header == 0) then Some Fragment else None)))

-- what a packet says by its header, of its octets without those of the link layer behind it
abbrev pub packet_4 : List ℕ → List ℕ → Packet
packet_4 header octets =
    record {
      source = take 4 (drop 12 header);
      destination = take 4 (drop 16 header);
      carried =
          drop (header_octets header) (take (total_octets header) octets);
    }

-- the packet of IPv4 that octets begin with, or why there is none (RFC 791, 3.1)
unfoldable pub packet_4_at : List ℕ → Result Packet NoDatagram
packet_4_at octets =
    if nat_lt (length octets) 20 then Err CutShort
    else reason_or (reason_4 (take 20 octets) (length octets)) (packet_4 (take 20 octets) octets)

-- what speaks against a header of IPv6, where so many octets are behind it
abbrev pub reason_6 : List ℕ → ℕ → Option NoDatagram
reason_6 header there =
    if not (version_of header == 6) then Some BadIpHeader else
    (if nat_lt there (payload_octets header) then Some CutShort else None)

-- what is behind the extensions, by its number
abbrev pub ending : ℕ → List ℕ → Result (List ℕ) NoDatagram
ending last rest =
    if is_passed last then Err BadIpHeader else
    (if last == udp then Ok rest else
    (if last == fragment_header then Err Fragment else Err NotUdp))

-- what is behind at most so many extensions
unfoldable pub extensions_at : ℕ → ℕ → List ℕ → Result (List ℕ) NoDatagram
extensions_at zero next octets = ending next octets
extensions_at (suc n) next octets =
    if is_passed next then
    (if nat_lt (length octets) (extension_octets octets) then Err BadIpHeader
    else extensions_at n (slice_index octets 0) (drop (extension_octets octets) octets))
    else ending next octets

-- an extension has at least one octet, so these are all
abbrev pub carried_at : ℕ → List ℕ → Result (List ℕ) NoDatagram
carried_at next octets = extensions_at (length octets) next octets

-- what a packet of IPv6 says: its addresses by the header, and what is behind the extensions
abbrev pub packet_6 : List ℕ → List ℕ → Packet
packet_6 header carried =
    record {
      source = take 16 (drop 8 header);
      destination = take 16 (drop 24 header);
      carried = carried;
    }

-- what a whole header of IPv6 and the octets behind it say
abbrev pub packet_6_by : List ℕ → List ℕ → Result Packet NoDatagram
packet_6_by header rest =
    reason_or (reason_6 header (length rest)) (take (payload_octets header) rest) >>=
    λ payload. carried_at (next_of header) payload >>= λ carried. Ok (packet_6 header carried)

-- the packet of IPv6 that octets begin with, or why there is none (RFC 8200, 3)
unfoldable pub packet_6_at : List ℕ → Result Packet NoDatagram
packet_6_at octets =
    if nat_lt (length octets) 40 then Err CutShort
    else packet_6_by (take 40 octets) (drop 40 octets)

-- the packet of this version that octets begin with, or why there is none
abbrev pub packet_at : IpVersion → List ℕ → Result Packet NoDatagram
packet_at V4 octets = packet_4_at octets
packet_at V6 octets = packet_6_at octets

-- what speaks against a header of UDP, where so many octets are there
abbrev pub reason_udp : List ℕ → ℕ → Option NoDatagram
reason_udp header there =
    if nat_lt (udp_octets header) 8 || nat_lt there (udp_octets header) then Some BadUdpLength
    else None

-- the datagram in a packet: its ports, and the data up to the length, by the header of UDP. RFC 768
abbrev pub datagram_by : Packet → List ℕ → Datagram
datagram_by p header =
    record {
      source = p.source;
      destination = p.destination;
      source_port = number_16 0 header;
      destination_port = number_16 2 header;
      payload = drop 8 (take (udp_octets header) p.carried);
    }

-- the datagram of UDP that a packet carries, or why there is none (RFC 768)
unfoldable pub udp_at : Packet → Result Datagram NoDatagram
udp_at p =
    if nat_lt (length p.carried) 8 then Err BadUdpLength
    else reason_or (reason_udp (take 8 p.carried) (length p.carried))
    (datagram_by p (take 8 p.carried))

-- the walk: the datagram, or the reason why it is none
unfoldable pub datagram_walk : Link → List ℕ → Result Datagram NoDatagram
datagram_walk link octets =
    link_at link octets >>= λ x. packet_at x.0 x.1 >>= λ p. udp_at p
