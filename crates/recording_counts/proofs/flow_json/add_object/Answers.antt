use Rattle.std.proofs.Common.{codes}
use Rattle.std.specs.Fmt.{decimal}
use Rattle.recording_counts.specs.declared.rtp_stream.RtpStream.{RtpStream}
use Rattle.text_line.proofs.Pieces.{number_then}
use Rattle.recording_counts.proofs.flow_json.add_object.Goals as goal

pub returns-clause-text : goal.returns-clause-text
returns-clause-text g c =
    let s : RtpStream = c.args.stream in
    number_then _ _ _ (codes "{\"payload_type\":") (decimal s.payload_type) _
    (rw c.from.ensures at c.add_number.ensures.text)
    (number_then _ _ _ (codes ",\"source\":") (decimal s.ssrc) _
    (rw c.from-2.ensures at c.add_number-2.ensures.text)
    (number_then _ _ _ (codes ",\"datagrams\":") (decimal s.datagrams) _
    c.add_number-3.ensures.text
    (number_then _ _ _ (codes ",\"first_timestamp\":") (decimal s.first) _
    (rw c.from-3.ensures at c.add_number-4.ensures.text)
    (number_then _ _ _ (codes ",\"last_timestamp\":") (decimal s.last) _
    (rw c.from-4.ensures at c.add_number-5.ensures.text) c.add.ensures.text))))
