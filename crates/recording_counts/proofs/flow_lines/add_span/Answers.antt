use Rattle.std.proofs.Common.{codes}
use Rattle.recording_counts.specs.FlowLines.{moment_text}
use Rattle.text_line.proofs.Pieces.{piece_then}
use Rattle.recording_counts.proofs.flow_lines.add_span.Goals as goal

pub returns-clause-text : goal.returns-clause-text
returns-clause-text g c =
    piece_then _ _ _ (codes "\n  from ") _ c.add.ensures.text
    (piece_then _ _ _ (moment_text c.args.first) _ c.add_moment.ensures.text
    (piece_then _ _ _ (codes " to ") _ c.add-2.ensures.text
    (piece_then _ _ _ (moment_text c.args.last) _ c.add_moment-2.ensures.text
    c.add_rate.ensures.text)))
