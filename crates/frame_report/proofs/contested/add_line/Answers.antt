use Rattle.std.proofs.Common.{codes}
use Rattle.frame_report.specs.Gathers.{numbered_word}
use Rattle.frame_report.proofs.Gathering.{joined5}
use Rattle.frame_report.proofs.contested.add_line.Goals as goal

pub returns : goal.returns
returns c =
    joined5 _ _ _ _ _ _ (numbered_word (codes "contested row ") c.args.row)
    (numbered_word (codes " column ") c.args.column)
    (codes " ") c.args.name.now (codes "\n") (rw c.from.ensures at c.add_number.ensures.text)
    (rw c.from-2.ensures at c.add_number-2.ensures.text) c.add.ensures c.add-2.ensures
    c.add-3.ensures
