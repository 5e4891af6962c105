use Rattle.payload_header.proofs.Written.{written_has}
use Rattle.payload_header.proofs.laws.written_fields.Goals as goal

pub returns : goal.returns
returns c = written_has
