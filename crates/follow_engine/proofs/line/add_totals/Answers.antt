use Rattle.std.proofs.Common.{codes}
use Rattle.std.specs.Fmt.{decimal}
use Rattle.text_line.proofs.Pieces.{number_then}
use Rattle.follow_engine.proofs.line.add_totals.Goals as goal

pub returns-clause-text : goal.returns-clause-text
returns-clause-text c =
    number_then _ _ _ (codes "frames ") (decimal c.args.totals.frames) _ c.add_number.ensures.text
    (number_then _ _ _ (codes " kept ") (decimal c.args.totals.kept) _ c.add_number-2.ensures.text
    (number_then _ _ _ (codes " late ") (decimal c.args.totals.late) _ c.add_number-3.ensures.text
    (number_then _ _ _ (codes " far ") (decimal c.args.totals.far) _ c.add_number-4.ensures.text
    c.add_number-5.ensures.text)))
