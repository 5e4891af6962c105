use Rattle.std.proofs.Common.{codes}
use Rattle.std.specs.Fmt.{decimal}
use Rattle.recording_counts.specs.declared.left_out.LeftOut.{LeftOut}
use Rattle.text_line.proofs.Pieces.{number_then, piece_then}
use Rattle.inspect_engine.specs.Inspected.{first_reasons_json}
use Rattle.inspect_engine.proofs.printing.add_reasons.Goals as goal

pub returns-clause-text : goal.returns-clause-text
returns-clause-text c =
    let l : LeftOut = c.args.left_out.now in
    piece_then _ _ _ (codes "{") _ c.add.ensures.text
    (piece_then _ _ _ (first_reasons_json l) _ c.add_first_reasons.ensures.text
    (number_then _ _ _ (codes ",\"NotUdp\":") (decimal l.not_udp) _ c.add_number.ensures.text
    (number_then _ _ _ (codes ",\"Fragment\":") (decimal l.fragment) _ c.add_number-2.ensures.text
    (number_then _ _ _ (codes ",\"BadUdpLength\":") (decimal l.bad_udp_length) _
    c.add_number-3.ensures.text c.add-2.ensures.text))))
