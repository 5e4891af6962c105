use Rattle.std.proofs.Common.{codes}
use Rattle.std.specs.Fmt.{decimal}
use Rattle.text_line.proofs.Pieces.{number_then}
use Rattle.stream_inspection.proofs.headings.stream_heading.Goals as goal

pub returns-clause-text : goal.returns-clause-text
returns-clause-text c =
    rw c.new-text.ensures at
    (number_then c.new-text.result.bytes _ _ (codes "stream of payload type ")
    (decimal c.args.key.payload_type) _ (rw c.from.ensures at c.add_number.ensures.text)
    (number_then _ _ _ (codes " and source ") (decimal c.args.key.ssrc) _
    (rw c.from-2.ensures at c.add_number-2.ensures.text) c.add.ensures.text))
