use Rattle.pcap_file.specs.Ip.{IsUdpPacket}
use Rattle.pcap_file.specs.Reading.{packet_at}
use Rattle.pcap_file.specs.Reasons.{IsNoPacket}
use Rattle.pcap_file.specs.Views.{seen_packet}
use Rattle.pcap_file.proofs.Exact.{found_by, only_by, refused_by}
use Rattle.pcap_file.proofs.Whole.{packet_exact}
use Rattle.pcap_file.proofs.ip.read_packet.Goals as goal

pub returns-clause-found : goal.returns-clause-found
returns-clause-found c =
    let o = c.args.octets.now in
    found_by seen_packet c.read.result (packet_at c.args.version o) (IsUdpPacket c.args.version o)
    (IsNoPacket c.args.version o) (packet_exact c.args.version o) c.read.ensures.exact

pub returns-clause-only : goal.returns-clause-only
returns-clause-only c =
    let o = c.args.octets.now in
    only_by seen_packet c.read.result (packet_at c.args.version o) (IsUdpPacket c.args.version o)
    (IsNoPacket c.args.version o) (packet_exact c.args.version o) c.read.ensures.exact

pub returns-clause-refused : goal.returns-clause-refused
returns-clause-refused c =
    let o = c.args.octets.now in
    refused_by seen_packet c.read.result (packet_at c.args.version o) (IsUdpPacket c.args.version o)
    (IsNoPacket c.args.version o) (packet_exact c.args.version o) c.read.ensures.exact
