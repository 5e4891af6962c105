use Rattle.std.proofs.Common.{codes}
use Rattle.recording_counts.specs.FlowJson.{objects_json}
use Rattle.recording_counts.specs.declared.rtp_streams.Streams.{Streams}
use Rattle.text_line.proofs.Pieces.{piece_then}
use Rattle.recording_counts.proofs.flow_json.add_streams.Goals as goal

pub returns-clause-text : goal.returns-clause-text
returns-clause-text g c =
    let s : Streams = c.args.streams.now in
    piece_then _ _ _ (codes ",\"streams\":[") _ c.add.ensures.text
    (piece_then _ _ _ (objects_json s.kept.items) _
    (rw c.as_slice.ensures.value at c.add_objects.ensures.text)
    (piece_then _ _ _ (codes "],\"other_streams\":") _ c.add-2.ensures.text
    (rw c.truth.ensures.text at c.add-3.ensures.text)))
