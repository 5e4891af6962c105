use Rattle.std.proofs.Common.{codes}
use Rattle.frame_report.specs.Gathers.{numbered_word}
use Rattle.frame_report.proofs.Gathering.{joined4}
use Rattle.frame_report.proofs.missing.add_line.Goals as goal

pub returns : goal.returns
returns c =
    joined4 _ _ _ _ _ (numbered_word (codes "missing row ") c.args.row)
    (numbered_word (codes " columns ") c.args.first)
    (numbered_word (codes " to ") c.args.last)
    (codes "\n") (rw c.from.ensures at c.add_number.ensures.text)
    (rw c.from-2.ensures at c.add_number-2.ensures.text)
    (rw c.from-3.ensures at c.add_number-3.ensures.text) c.add.ensures
