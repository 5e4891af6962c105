use Rattle.std.proofs.Common.{codes}
use Rattle.std.specs.Fmt.{decimal}
use Rattle.recording_counts.specs.declared.flow_count.FlowCount.{FlowCount}
use Rattle.text_line.proofs.Pieces.{number_then}
use Rattle.recording_counts.proofs.flow_json.add_numbers.Goals as goal

pub returns-clause-text : goal.returns-clause-text
returns-clause-text g c =
    let n : FlowCount = c.args.count.now in
    number_then _ _ _ (codes ",\"datagrams\":") (decimal n.datagrams) _ c.add_number.ensures.text
    (number_then _ _ _ (codes ",\"octets\":") (decimal n.octets) _ c.add_number-2.ensures.text
    (number_then _ _ _ (codes ",\"rtp\":") (decimal n.rtp.datagrams) _ c.add_number-3.ensures.text
    c.add_number-4.ensures.text))
