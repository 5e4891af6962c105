-- The datagrams in recorded packets, and the packets that are none.
use Rattle.std.specs.Prelude.{◌≡◌, ℕ, ◌==◌, if◌then◌else◌, ◌⊎◌, List, [], ◌∷◌, length, Result, Ok}
use Rattle.std.specs.Prelude.{Err}
use Rattle.std.specs.List.{flat_map}
use Rattle.std.specs.declared.net.socket_addr.SocketAddr.{SocketAddr}
use Rattle.std.specs.declared.net.socket_addr.SocketAddr.TheVariants.{V4, V6}
use Rattle.std.specs.Net.Addr.{segments_of}
use Rattle.recording_counts.specs.Flows.{Arrival}
use Rattle.recording_counts.specs.declared.omission.Omission.{Omission}
use Rattle.recording_counts.specs.declared.omission.Omission.TheVariants as by
use Rattle.pcap_file.specs.declared.datagram.NoDatagram.{NoDatagram}
use Rattle.pcap_file.specs.declared.pcap.PacketHead.{PacketHead}
use Rattle.pcap_file.specs.PacketDatagram.{datagram_in}
use Rattle.pcap_file.specs.PcapReading.{Recorded}
use Rattle.pcap_file.specs.Udp.{Datagram}

-- a packet that was recorded
abbrev pub captured : PacketHead → List ℕ → Recorded
captured head octets = record { head = head; octets = octets }

-- the octets of an address: 4 of IPv4 (RFC 791, 3.1), or 16 of IPv6 (RFC 8200, 3)
abbrev pub IsAddress : List ℕ → Type 0
IsAddress octets = (length octets ≡ 4) ⊎ (length octets ≡ 16)

-- the destination of an address and a port
abbrev pub destination_at : List ℕ → ℕ → SocketAddr
destination_at octets port =
    if length octets == 4
    then V4 (record { ip = record { octets = octets }; port = port })
    else V6 (record {
      ip = record { segments = segments_of octets };
      port = port;
      flowinfo = 0;
      scope_id = 0;
    })

-- the datagram in a packet, if it has one, with the packet's time
abbrev pub arrival_by : Recorded → Result Datagram NoDatagram → List Arrival
arrival_by p (Ok d) =
    record {
      time = p.head.time;
      destination = destination_at d.destination d.destination_port;
      payload = d.payload;
    } ∷ []
arrival_by p (Err reason) = []

-- the datagrams in recorded packets, in their order
abbrev pub arrivals_of : List Recorded → List Arrival
arrivals_of packets = flat_map (λ p. arrival_by p (datagram_in p)) packets

-- the reason why a packet has none
abbrev pub omission_by : Result Datagram NoDatagram → List Omission
omission_by (Ok d) = []
omission_by (Err reason) = by.NoDatagram reason ∷ []

-- the reasons of the packets that have none, in their order
abbrev pub omissions_of : List Recorded → List Omission
omissions_of packets = flat_map (λ p. omission_by (datagram_in p)) packets
