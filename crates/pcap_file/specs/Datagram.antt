-- A recorded packet that is a UDP datagram.
use Rattle.std.specs.Prelude.{ℕ, List}
use Rattle.pcap_file.specs.declared.link.IpVersion.{IpVersion}
use Rattle.pcap_file.specs.declared.link.Link.{Link}
use Rattle.pcap_file.specs.Link.{IsLinked}
use Rattle.pcap_file.specs.Ip.{IsUdpPacket, Packet}
use Rattle.pcap_file.specs.Udp.{Datagram, IsUdp}

-- The octets are an IP packet behind a header of the link layer, and it carries this.
pub record HasPacket (link : Link) (octets : List ℕ) (p : Packet) : Type 0 where
  pub version : IpVersion
  pub packet : List ℕ
  pub linked : IsLinked link octets version packet
  pub is : IsUdpPacket version packet p

-- The octets are this datagram, in an IP packet behind a header of the link layer.
pub record IsDatagram (link : Link) (octets : List ℕ) (d : Datagram) : Type 0 where
  pub packet : Packet
  pub has : HasPacket link octets packet
  pub is : IsUdp packet d
