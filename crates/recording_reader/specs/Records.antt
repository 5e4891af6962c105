-- The records that a recording has by the flows of two paths (own).
use Rattle.std.specs.Prelude.{ℕ, List, Option, None, Some, Result, Ok, Err, is_none}
use Rattle.std.specs.List.{count_by, filter_map}
use Rattle.flow.specs.Flow.{path_to}
use Rattle.flow.specs.declared.flows.Flows.{Flows}
use Rattle.interface_name.specs.declared.name.InterfaceName.{InterfaceName}
use Rattle.recording_counts.specs.declared.omission.Omission.{Omission}
use Rattle.recording_counts.specs.declared.omission.Omission.TheVariants as by
use Rattle.media_file.specs.Records.{Entry}
use Rattle.pcap_file.specs.declared.datagram.NoDatagram.{NoDatagram}
use Rattle.pcap_file.specs.PacketDatagram.{datagram_in}
use Rattle.pcap_file.specs.PcapReading.{Recorded}
use Rattle.pcap_file.specs.Runs.{packets_in, most_packet}
use Rattle.pcap_file.specs.Udp.{Datagram}
use Rattle.st_format.specs.declared.path.Path.{Path}

-- a packet's moment: its time in nanoseconds since 1970, or 0 where the recording doesn't say one
abbrev pub moment_of : Option ℕ → ℕ
moment_of None = 0
moment_of (Some time) = time

-- the record of octets that came by a path, if they came by one
abbrev pub entry_by : Option Path → ℕ → List ℕ → Option Entry
entry_by None moment octets = None
entry_by (Some path) moment octets =
    Some (record { path = path; moment = moment; octets = octets })

-- the record of a packet, by what was read in it: of a datagram of one of the flows
abbrev pub entry_of : Flows → Option InterfaceName → ℕ → Result Datagram NoDatagram → Option Entry
entry_of flows interface moment (Err reason) = None
entry_of flows interface moment (Ok d) =
    entry_by (path_to flows interface d.source d.destination d.destination_port) moment d.payload

-- the record of a packet: that of its datagram, where it has one of the flows, which may name the
-- interface that the packet was taken at
abbrev pub record_of : Flows → Recorded → Option Entry
record_of flows p = entry_of flows p.head.interface (moment_of p.head.time) (datagram_in p)

-- the records of packets, and how many packets are left out
abbrev pub records_of : Flows → List Recorded → List Entry
records_of flows packets = filter_map (record_of flows) packets

-- how many of these packets have no record by the flows
abbrev pub left_out : Flows → List Recorded → ℕ
left_out flows packets = count_by (λ p. is_none (record_of flows p)) packets

-- why a packet has no record: it is no datagram, or one of another flow
abbrev pub other_by : Option Path → Option Omission
other_by None = Some by.OtherFlow
other_by (Some path) = None

-- why a packet has no record, by what was read in it; nothing, where it has one
abbrev pub omission_by : Flows → Option InterfaceName → Result Datagram NoDatagram
    → Option Omission
omission_by flows interface (Err reason) = Some (by.NoDatagram reason)
omission_by flows interface (Ok d) =
    other_by (path_to flows interface d.source d.destination d.destination_port)

-- why a packet has no record by the flows; nothing, where it has one
abbrev pub omission_of : Flows → Recorded → Option Omission
omission_of flows p = omission_by flows p.head.interface (datagram_in p)

-- the reasons for which packets are left out
abbrev pub omissions_of : Flows → List Recorded → List Omission
omissions_of flows packets = filter_map (omission_of flows) packets

-- the records of a recording's octets, up to their end or their first fault
abbrev pub records_in : Flows → List ℕ → List Entry
records_in flows octets = records_of flows (packets_in most_packet octets)
