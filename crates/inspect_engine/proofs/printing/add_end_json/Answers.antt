use Rattle.std.proofs.Common.{codes}
use Rattle.std.specs.Fmt.{decimal}
use Rattle.text_line.proofs.Pieces.{number_then, piece_then}
use Rattle.inspect_engine.specs.Inspected.{left_out_json}
use Rattle.inspect_engine.proofs.printing.add_end_json.Goals as goal

pub returns-clause-text : goal.returns-clause-text
returns-clause-text c =
    number_then _ _ _ (codes "{\"flows\":") (decimal c.args.flows) _ c.add_number.ensures.text
    (piece_then _ _ _ (codes ",\"left_out\":") _ c.add.ensures.text
    (piece_then _ _ _ (left_out_json c.args.left_out.now) _ c.add_reasons.ensures.text
    c.add-2.ensures.text))
