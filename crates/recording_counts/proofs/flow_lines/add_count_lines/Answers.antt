use Rattle.std.proofs.Common.{codes}
use Rattle.std.specs.Fmt.{decimal}
use Rattle.std.specs.Net.Text.{socket_text}
use Rattle.recording_counts.specs.FlowLines.{rtcp_text, streams_text}
use Rattle.recording_counts.specs.declared.flow_count.FlowCount.{FlowCount}
use Rattle.text_line.proofs.Pieces.{number_then, piece_then}
use Rattle.recording_counts.proofs.flow_lines.add_count_lines.Goals as goal

pub returns-clause-text : goal.returns-clause-text
returns-clause-text g c =
    let n : FlowCount = c.args.count.now in
    piece_then _ _ _ (codes "flow ") _ c.add.ensures.text
    (piece_then _ _ _ (socket_text n.destination) _ c.add_socket.ensures.text
    (number_then _ _ _ (codes "\n  datagrams ") (decimal n.datagrams) _ c.add_number.ensures.text
    (number_then _ _ _ (codes ", octets ") (decimal n.octets) _ c.add_number-2.ensures.text
    (number_then _ _ _ (codes ", RTP ") (decimal n.rtp.datagrams) _ c.add_number-3.ensures.text
    (piece_then _ _ _ (rtcp_text n.rtp.rtcp) _ c.add_rtcp.ensures.text
    (piece_then _ _ _ (streams_text n.rtp.streams) _ c.add_streams.ensures.text
    c.add_times.ensures.text))))))
