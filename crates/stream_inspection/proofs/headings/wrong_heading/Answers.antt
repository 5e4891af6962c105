use Rattle.std.proofs.Common.{codes}
use Rattle.std.proofs.lemmas.Bool.{ne_eqb}
use Rattle.std.specs.Fmt.{decimal}
use Rattle.st_format.specs.Forms.{path_text}
use Rattle.text_line.proofs.Pieces.{number_then, piece_then}
use Rattle.stream_inspection.proofs.headings.wrong_heading.Goals as goal

pub returns-clause-text : goal.returns-clause-text
returns-clause-text c =
    let row = c.args.row.now in
    rw (ne_eqb row.datagrams 0 c.if-row-eq0.false) (rw c.new-text.ensures at
    (piece_then c.new-text.result.bytes _ _ (codes "  by ") _ c.add-2.ensures.text
    (piece_then _ _ _ (path_text row.path) _ (rw c.path_word-2.ensures.text at c.add-3.ensures.text)
    (number_then _ _ _ (codes " ") (decimal row.lost) _ c.add_number.ensures.text
    (number_then _ _ _ (codes " never came, ") (decimal row.repeated) _ c.add_number-2.ensures.text
    (number_then _ _ _ (codes " came more than once, ") (decimal row.late) _
    c.add_number-3.ensures.text c.add-4.ensures.text))))))
