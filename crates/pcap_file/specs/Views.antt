-- What the records of the code say.
use Rattle.std.specs.Prelude.{ℕ, List}
use Rattle.pcap_file.specs.declared.datagram.DatagramView.{DatagramView}
use Rattle.pcap_file.specs.declared.ip.PacketView.{PacketView}
use Rattle.pcap_file.specs.declared.link.IpVersion.{IpVersion}
use Rattle.pcap_file.specs.declared.link.LinkView.{LinkView}
use Rattle.pcap_file.specs.Ip.{Packet}
use Rattle.pcap_file.specs.Udp.{Datagram}

-- a packet behind a link layer, without where it lies in memory
abbrev pub seen_link : LinkView → IpVersion × List ℕ
seen_link v = (v.version, v.packet.now)

-- a packet, without where its octets lie in memory
abbrev pub seen_packet : PacketView → Packet
seen_packet p =
    record {
      source = p.source.now;
      destination = p.destination.now;
      carried = p.carried.now;
    }

-- a datagram, without where its octets lie in memory
abbrev pub seen_datagram : DatagramView → Datagram
seen_datagram d =
    record {
      source = d.source.now;
      destination = d.destination.now;
      source_port = d.source_port;
      destination_port = d.destination_port;
      payload = d.payload.now;
    }
