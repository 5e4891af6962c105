use Rattle.std.proofs.Common.{drop}
use Rattle.rtp_header.specs.Views.{headed_rtp}
use Rattle.rtp_header.proofs.Written.{plain_written}
use Rattle.rtp_header.proofs.writing.write_rtp.Goals as goal

pub returns-clause-header : goal.returns-clause-header
returns-clause-header c payload =
    let e = c.write_fixed.ensures in
    plain_written (headed_rtp c.args.head.now payload) c.write_fixed.new.buffer
    (drop 12 c.args.buffer.now)
    (record {
      payload_type = c.requires.payload_type;
      sequence = e.sequence;
      timestamp =
          e.timestamp;
      ssrc = e.ssrc;
    }) e.text
