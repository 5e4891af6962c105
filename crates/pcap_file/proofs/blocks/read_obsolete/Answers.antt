use Rattle.std.proofs.Common.{◌+◌, ◌≤◌, length, sym, ◌∙◌, take, drop}
use Rattle.pcap_file.specs.declared.pcap.PacketHead.{PacketHead}
use Rattle.pcap_file.specs.Blocks.{IsObsolete, short_number}
use Rattle.pcap_file.proofs.Packets.{found_by, stamped_again, stamped_octets, stamped_takes}
use Rattle.pcap_file.proofs.Packets.{stamped_within}
use Rattle.pcap_file.proofs.blocks.read_obsolete.Goals as goal

pub returns-clause-found : goal.returns-clause-found
returns-clause-found c =
    let is = c.args.interfaces.now in
    let body = c.args.body.now in
    found_by c.obsolete.result
    (λ (p : PacketHead). IsObsolete c.args.order is body p (take p.captured (drop 20 body)))
    (λ p e. stamped_takes (short_number c.args.order) c.args.order is body p
    (sym c.obsolete.ensures.exact ∙ e))

pub returns-clause-only : goal.returns-clause-only
returns-clause-only c =
    let is = c.args.interfaces.now in
    let body = c.args.body.now in
    λ p octets e. (
      c.obsolete.ensures.exact ∙ stamped_again (short_number c.args.order) c.args.order is body p
          octets e,
      stamped_octets (short_number c.args.order) c.args.order is body p octets e,
    )

pub returns-clause-within : goal.returns-clause-within
returns-clause-within c =
    let is = c.args.interfaces.now in
    let body = c.args.body.now in
    found_by c.obsolete.result (λ (p : PacketHead). 20 + p.captured ≤ length body)
    (λ p e. stamped_within (short_number c.args.order) c.args.order is body p
    (take p.captured (drop 20 body))
    (stamped_takes (short_number c.args.order) c.args.order is body p
    (sym c.obsolete.ensures.exact ∙ e)))
