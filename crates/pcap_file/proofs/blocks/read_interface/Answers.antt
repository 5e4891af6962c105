use Rattle.std.proofs.Common.{◌∙◌}
use Rattle.pcap_file.proofs.InterfaceRelation.{interface_again, interface_found}
use Rattle.pcap_file.proofs.blocks.read_interface.Goals as goal

pub returns-clause-found : goal.returns-clause-found
returns-clause-found c =
    interface_found c.args.order c.args.body.now c.described.result c.described.ensures.exact

pub returns-clause-only : goal.returns-clause-only
returns-clause-only c i is =
    c.described.ensures.exact ∙ interface_again c.args.order c.args.body.now i is
