use Rattle.std.proofs.Common.{codes}
use Rattle.std.specs.Net.Text.{socket_text}
use Rattle.recording_counts.specs.FlowJson.{numbers_json, streams_json, times_json}
use Rattle.recording_counts.specs.declared.flow_count.FlowCount.{FlowCount}
use Rattle.text_line.proofs.Pieces.{piece_then}
use Rattle.recording_counts.proofs.flow_json.add_count_json.Goals as goal

pub returns-clause-text : goal.returns-clause-text
returns-clause-text g c =
    let n : FlowCount = c.args.count.now in
    piece_then _ _ _ (codes "{\"flow\":\"") _ c.add.ensures.text
    (piece_then _ _ _ (socket_text n.destination) _ c.add_socket.ensures.text
    (piece_then _ _ _ (codes "\"") _ c.add-2.ensures.text
    (piece_then _ _ _ (numbers_json n) _ c.add_numbers.ensures.text
    (piece_then _ _ _ (streams_json n.rtp.streams) _ c.add_streams.ensures.text
    (piece_then _ _ _ (times_json n.times n.octets) _ c.add_times.ensures.text
    c.add-3.ensures.text)))))
