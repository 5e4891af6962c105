use Rattle.std.proofs.Common.{arith}
use Rattle.payload_header.proofs.Written.{is_written}
use Rattle.payload_header.proofs.writing.write_payload_header.Goals as goal

pub returns-clause-payload : goal.returns-clause-payload
returns-clause-payload c =
    is_written c.args.extended c.args.heads.now c.write_payload_front.new.buf _
    (omega (
      arith,
      c.ranges.extended,
    )) c.requires.some c.requires.few c.requires.fields
    c.write_payload_front.ensures.written
