use Rattle.std.proofs.Common.{ℕ, List}
use Rattle.pcap_file.specs.declared.link.IpVersion.{IpVersion}
use Rattle.pcap_file.specs.Link.{IsLinked}
use Rattle.pcap_file.specs.Reading.{link_at}
use Rattle.pcap_file.specs.Reasons.{IsNoLink}
use Rattle.pcap_file.specs.Views.{seen_link}
use Rattle.pcap_file.proofs.Exact.{found_by, gives_by, refused_by}
use Rattle.pcap_file.proofs.Links.{link_exact}
use Rattle.pcap_file.proofs.link.read_link.Goals as goal

pub returns-clause-found : goal.returns-clause-found
returns-clause-found c =
    let o = c.args.octets.now in
    found_by seen_link c.read.result (link_at c.args.link o)
    (λ (x : IpVersion × List ℕ). IsLinked c.args.link o x.0 x.1) (IsNoLink c.args.link o)
    (link_exact c.args.link o) c.read.ensures.exact

pub returns-clause-only : goal.returns-clause-only
returns-clause-only c =
    let o = c.args.octets.now in
    λ version packet is.
    gives_by seen_link c.read.result (link_at c.args.link o)
    (λ (x : IpVersion × List ℕ). IsLinked c.args.link o x.0 x.1) (IsNoLink c.args.link o)
    (link_exact c.args.link o) c.read.ensures.exact (version, packet) is

pub returns-clause-refused : goal.returns-clause-refused
returns-clause-refused c =
    let o = c.args.octets.now in
    refused_by seen_link c.read.result (link_at c.args.link o)
    (λ (x : IpVersion × List ℕ). IsLinked c.args.link o x.0 x.1) (IsNoLink c.args.link o)
    (link_exact c.args.link o) c.read.ensures.exact
