use Rattle.std.proofs.Common.{codes}
use Rattle.std.specs.Fmt.{decimal}
use Rattle.text_line.proofs.Pieces.{number_then}
use Rattle.follow_engine.proofs.line.add_left.Goals as goal

pub returns-clause-text : goal.returns-clause-text
returns-clause-text c =
    number_then _ _ _ (codes "frame ") (decimal c.args.timestamp) _
    (rw c.from.ensures at c.add_number.ensures.text)
    (number_then _ _ _ (codes " present ") (decimal c.args.counts.present) _
    c.add_number-2.ensures.text
    (number_then _ _ _ (codes " missing ") (decimal c.args.counts.missing) _
    c.add_number-3.ensures.text
    (number_then _ _ _ (codes " contested ") (decimal c.args.counts.contested) _
    c.add_number-4.ensures.text
    c.add_number-5.ensures.text)))
