-- The datagram in a recorded packet.
use Rattle.std.specs.Prelude.{◌≡◌, ◌⊎◌, ℕ, List, Option, None, Some, Result, Err}
use Rattle.pcap_file.specs.declared.datagram.NoDatagram.{NoDatagram}
use Rattle.pcap_file.specs.declared.datagram.NoDatagram.TheVariants.{NotIp}
use Rattle.pcap_file.specs.declared.link.Link.{Link}
use Rattle.pcap_file.specs.Link.{link_of}
use Rattle.pcap_file.specs.Datagram.{IsDatagram}
use Rattle.pcap_file.specs.PcapReading.{Recorded}
use Rattle.pcap_file.specs.Reading.{datagram_walk}
use Rattle.pcap_file.specs.Reasons.{IsNoDatagram}
use Rattle.pcap_file.specs.Udp.{Datagram}

-- by the number of its link layer: an unknown one is no IP
abbrev pub walk_of : Option Link → List ℕ → Result Datagram NoDatagram
walk_of None octets = Err NotIp
walk_of (Some link) octets = datagram_walk link octets

-- The datagram in a recorded packet, or the reason why there is none.
abbrev pub datagram_in : Recorded → Result Datagram NoDatagram
datagram_in p = walk_of (link_of p.head.link) p.octets

-- Octets behind the link layer of a number are this datagram, by the grammar.
abbrev pub HasDatagram : ℕ → List ℕ → Datagram → Type 0
HasDatagram number octets d =
    (link : Link) × (link_of number ≡ Some link) × IsDatagram link octets d

-- They are none, for this reason.
abbrev pub LacksDatagram : ℕ → List ℕ → NoDatagram → Type 0
LacksDatagram number octets reason =
    ((link_of number ≡ None) × (reason ≡ NotIp))
    ⊎ ((link : Link) × (link_of number ≡ Some link) × IsNoDatagram link octets reason)
