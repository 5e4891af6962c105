-- Why octets are no datagram: one condition for each reason, of which at most one holds. The order
-- is this project's own.
use Rattle.std.specs.Prelude.{ℕ, List, ◌⊎◌, codes}
use Rattle.pcap_file.specs.declared.datagram.NoDatagram.{NoDatagram}
use Rattle.pcap_file.specs.declared.datagram.NoDatagram.TheVariants.{NotIp, CutShort, BadIpHeader}
use Rattle.pcap_file.specs.declared.datagram.NoDatagram.TheVariants.{NotUdp, Fragment, BadUdpLength}
use Rattle.pcap_file.specs.declared.link.IpVersion.{IpVersion}
use Rattle.pcap_file.specs.declared.link.Link.{Link}
use Rattle.pcap_file.specs.Link.{IsCutLink, IsLinked, IsNotIp}
use Rattle.pcap_file.specs.Ip.{IsBadPacket, IsCutPacket, IsFragment, IsNotUdp, Packet}
use Rattle.pcap_file.specs.Udp.{IsBadLength}
use Rattle.pcap_file.specs.Datagram.{HasPacket}

-- the numbers of the reasons, as `number` answers them (own)
abbrev pub reason_number : NoDatagram → ℕ
reason_number CutShort = 1
reason_number NotIp = 2
reason_number BadIpHeader = 3
reason_number NotUdp = 4
reason_number Fragment = 5
reason_number BadUdpLength = 6

-- their names, as `name` answers them (own)
abbrev pub reason_name : NoDatagram → List ℕ
reason_name CutShort = codes "CutShort"
reason_name NotIp = codes "NotIp"
reason_name BadIpHeader = codes "BadIpHeader"
reason_name NotUdp = codes "NotUdp"
reason_name Fragment = codes "Fragment"
reason_name BadUdpLength = codes "BadUdpLength"

-- what speaks against the link layer
abbrev pub IsNoLink : Link → List ℕ → NoDatagram → Type 0
IsNoLink link octets CutShort = IsCutLink link octets
IsNoLink link octets NotIp = IsNotIp link octets
IsNoLink link octets BadIpHeader = ⊥
IsNoLink link octets NotUdp = ⊥
IsNoLink link octets Fragment = ⊥
IsNoLink link octets BadUdpLength = ⊥

-- what speaks against an IP packet
abbrev pub IsNoPacket : IpVersion → List ℕ → NoDatagram → Type 0
IsNoPacket version octets CutShort = IsCutPacket version octets
IsNoPacket version octets NotIp = ⊥
IsNoPacket version octets BadIpHeader = IsBadPacket version octets
IsNoPacket version octets NotUdp = IsNotUdp version octets
IsNoPacket version octets Fragment = IsFragment version octets
IsNoPacket version octets BadUdpLength = ⊥

-- what speaks against UDP
abbrev pub IsNoUdp : List ℕ → NoDatagram → Type 0
IsNoUdp octets CutShort = ⊥
IsNoUdp octets NotIp = ⊥
IsNoUdp octets BadIpHeader = ⊥
IsNoUdp octets NotUdp = ⊥
IsNoUdp octets Fragment = ⊥
IsNoUdp octets BadUdpLength = IsBadLength octets

-- a header of the link layer, and behind it what is no IP packet of UDP
pub record HasNoPacket (link : Link) (octets : List ℕ) (reason : NoDatagram) : Type 0 where
  pub version : IpVersion
  pub packet : List ℕ
  pub linked : IsLinked link octets version packet
  pub no : IsNoPacket version packet reason

-- a packet, and in it what is no UDP
pub record HasNoUdp (link : Link) (octets : List ℕ) (reason : NoDatagram) : Type 0 where
  pub packet : Packet
  pub has : HasPacket link octets packet
  pub no : IsNoUdp packet.carried reason

-- Why octets are no datagram: by the link layer; by the IP packet behind it; by UDP in that.
abbrev pub IsNoDatagram : Link → List ℕ → NoDatagram → Type 0
IsNoDatagram link octets reason =
    IsNoLink link octets reason ⊎ (HasNoPacket link octets reason ⊎ HasNoUdp link octets reason)
