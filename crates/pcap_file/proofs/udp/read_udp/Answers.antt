use Rattle.pcap_file.specs.Udp.{IsUdp}
use Rattle.pcap_file.specs.Reading.{udp_at}
use Rattle.pcap_file.specs.Reasons.{IsNoUdp}
use Rattle.pcap_file.specs.Views.{seen_datagram, seen_packet}
use Rattle.pcap_file.proofs.Exact.{found_by, only_by, refused_by}
use Rattle.pcap_file.proofs.Udps.{exact_udp}
use Rattle.pcap_file.proofs.udp.read_udp.Goals as goal

pub returns-clause-found : goal.returns-clause-found
returns-clause-found c =
    let p = seen_packet c.args.packet.now in
    found_by seen_datagram c.read.result (udp_at p) (IsUdp p) (IsNoUdp p.carried) (exact_udp p)
    c.read.ensures.exact

pub returns-clause-only : goal.returns-clause-only
returns-clause-only c =
    let p = seen_packet c.args.packet.now in
    only_by seen_datagram c.read.result (udp_at p) (IsUdp p) (IsNoUdp p.carried) (exact_udp p)
    c.read.ensures.exact

pub returns-clause-refused : goal.returns-clause-refused
returns-clause-refused c =
    let p = seen_packet c.args.packet.now in
    refused_by seen_datagram c.read.result (udp_at p) (IsUdp p) (IsNoUdp p.carried) (exact_udp p)
    c.read.ensures.exact
