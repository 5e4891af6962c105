use Rattle.std.proofs.Common.{◌+◌, ◌≤◌, length, sym, ◌∙◌, take, drop}
use Rattle.pcap_file.specs.declared.pcap.PacketHead.{PacketHead}
use Rattle.pcap_file.specs.Blocks.{IsSimple}
use Rattle.pcap_file.proofs.Packets.{simple_again, simple_octets, simple_takes, simple_within}
use Rattle.pcap_file.proofs.Packets.{found_by}
use Rattle.pcap_file.proofs.blocks.read_simple.Goals as goal

pub returns-clause-found : goal.returns-clause-found
returns-clause-found c =
    let is = c.args.interfaces.now in
    let body = c.args.body.now in
    found_by c.simple.result
    (λ (p : PacketHead). IsSimple c.args.order is body p (take p.captured (drop 4 body)))
    (λ p e. simple_takes c.args.order is body p (sym c.simple.ensures.exact ∙ e))

pub returns-clause-only : goal.returns-clause-only
returns-clause-only c =
    let is = c.args.interfaces.now in
    let body = c.args.body.now in
    λ p octets e. (
      c.simple.ensures.exact ∙ simple_again c.args.order is body p octets e,
      simple_octets c.args.order is body p octets e,
    )

pub returns-clause-within : goal.returns-clause-within
returns-clause-within c =
    let is = c.args.interfaces.now in
    let body = c.args.body.now in
    found_by c.simple.result (λ (p : PacketHead). 4 + p.captured ≤ length body)
    (λ p e. simple_within c.args.order is body p (take p.captured (drop 4 body))
    (simple_takes c.args.order is body p (sym c.simple.ensures.exact ∙ e)))
