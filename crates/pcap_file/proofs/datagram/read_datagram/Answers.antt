use Rattle.pcap_file.specs.Datagram.{IsDatagram}
use Rattle.pcap_file.specs.Reading.{datagram_walk}
use Rattle.pcap_file.specs.Reasons.{IsNoDatagram}
use Rattle.pcap_file.specs.Views.{seen_datagram}
use Rattle.pcap_file.proofs.Exact.{found_by, none_by, only_by, refused_by}
use Rattle.pcap_file.proofs.Whole.{datagram_exact}
use Rattle.pcap_file.proofs.datagram.read_datagram.Goals as goal

pub returns-clause-found : goal.returns-clause-found
returns-clause-found c =
    let o = c.args.octets.now in
    found_by seen_datagram c.read.result (datagram_walk c.args.link o) (IsDatagram c.args.link o)
    (IsNoDatagram c.args.link o) (datagram_exact c.args.link o) c.read.ensures.exact

pub returns-clause-only : goal.returns-clause-only
returns-clause-only c =
    let o = c.args.octets.now in
    only_by seen_datagram c.read.result (datagram_walk c.args.link o) (IsDatagram c.args.link o)
    (IsNoDatagram c.args.link o) (datagram_exact c.args.link o) c.read.ensures.exact

pub returns-clause-none : goal.returns-clause-none
returns-clause-none c =
    let o = c.args.octets.now in
    none_by seen_datagram c.read.result (datagram_walk c.args.link o) (IsDatagram c.args.link o)
    (IsNoDatagram c.args.link o) (datagram_exact c.args.link o) c.read.ensures.exact

pub returns-clause-refused : goal.returns-clause-refused
returns-clause-refused c =
    let o = c.args.octets.now in
    refused_by seen_datagram c.read.result (datagram_walk c.args.link o) (IsDatagram c.args.link o)
    (IsNoDatagram c.args.link o) (datagram_exact c.args.link o) c.read.ensures.exact
