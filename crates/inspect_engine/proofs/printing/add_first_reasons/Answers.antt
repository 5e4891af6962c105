use Rattle.std.proofs.Common.{codes}
use Rattle.std.specs.Fmt.{decimal}
use Rattle.recording_counts.specs.declared.left_out.LeftOut.{LeftOut}
use Rattle.text_line.proofs.Pieces.{number_then}
use Rattle.inspect_engine.proofs.printing.add_first_reasons.Goals as goal

pub returns-clause-text : goal.returns-clause-text
returns-clause-text c =
    let l : LeftOut = c.args.left_out.now in
    number_then _ _ _ (codes "\"CutShort\":") (decimal l.cut_short) _ c.add_number.ensures.text
    (number_then _ _ _ (codes ",\"NotIp\":") (decimal l.not_ip) _ c.add_number-2.ensures.text
    c.add_number-3.ensures.text)
