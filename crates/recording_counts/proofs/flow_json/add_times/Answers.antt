use Rattle.std.proofs.Common.{codes}
use Rattle.recording_counts.specs.FlowJson.{moment_json}
use Rattle.recording_counts.specs.declared.times.Times.{Times}
use Rattle.text_line.proofs.Pieces.{piece_then}
use Rattle.recording_counts.proofs.flow_json.add_times.Goals as goal

pub returns-clause-text : goal.returns-clause-text
returns-clause-text g c =
    let t : Times = c.args.times in
    piece_then _ _ _ (codes ",\"first\":") _ c.add.ensures.text
    (piece_then _ _ _ (moment_json t.first) _ c.add_time.ensures.text
    (piece_then _ _ _ (codes ",\"last\":") _ c.add-2.ensures.text
    (piece_then _ _ _ (moment_json t.last) _ c.add_time-2.ensures.text
    (piece_then _ _ _ (codes ",\"mbit_per_second\":") _ c.add-3.ensures.text
    c.add_rate.ensures.text))))
