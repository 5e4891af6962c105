use Rattle.payload_header.proofs.Written.{is_written_payload}
use Rattle.payload_header.proofs.laws.written_payload.Goals as goal

pub returns : goal.returns
returns c = is_written_payload
