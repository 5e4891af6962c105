use Rattle.std.proofs.Common.{sym, ◌∙◌}
use Rattle.pcap_file.proofs.PacketDatagrams.{lacks}
use Rattle.pcap_file.proofs.datagram.packet_datagram.Goals as goal

pub returns-in-Some-clause-refused : goal.returns-in-Some-clause-refused
returns-in-Some-clause-refused c =
    lacks c.args.packet.now.link c.args.octets.now c.in-Some.link c.read_datagram.result
    (sym c.from_number.ensures ∙ c.in-Some.is) c.read_datagram.ensures.refused
