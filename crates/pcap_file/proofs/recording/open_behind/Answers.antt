use Rattle.std.proofs.Common.{length}
use Rattle.pcap_file.specs.Openings.{laid_behind}
use Rattle.pcap_file.specs.Runs.{layout_seen}
use Rattle.pcap_file.proofs.Growing.{gave_behind, grew_if, not_opened_behind}
use Rattle.pcap_file.proofs.Growing.{opened_behind, wrong_behind}
use Rattle.pcap_file.proofs.recording.open_behind.Goals as goal

pub returns-clause-read : goal.returns-clause-read
returns-clause-read g c =
    opened_behind (length c.args.buf.now) c.args.four.now _ _ c.lay_behind.result c.requires.four
    c.lay_behind.ensures.left c.lay_behind.ensures.gave

pub returns-clause-fault : goal.returns-clause-fault
returns-clause-fault g c =
    not_opened_behind (length c.args.buf.now) c.args.four.now _ _ _ c.lay_behind.result
    c.requires.four c.lay_behind.ensures.gave_wrong

pub returns-clause-opened : goal.returns-clause-opened
returns-clause-opened g c =
    gave_behind c.args.four.now _ _ c.lay_behind.result c.requires.four c.lay_behind.ensures.gave

pub returns-clause-wrong : goal.returns-clause-wrong
returns-clause-wrong g c =
    wrong_behind c.args.four.now _ _ _ c.lay_behind.result c.requires.four
    c.lay_behind.ensures.gave_wrong

pub returns-clause-grown : goal.returns-clause-grown
returns-clause-grown g c =
    grew_if (laid_behind c.args.four.now) (λ l. (layout_seen l).laid) _ _ _ c.lay_behind.result
    c.lay_behind.ensures.gave c.lay_behind.ensures.gave_wrong
