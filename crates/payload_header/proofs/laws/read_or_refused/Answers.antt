use Rattle.payload_header.proofs.Both.{is_read_or_refused}
use Rattle.payload_header.proofs.laws.read_or_refused.Goals as goal

pub returns : goal.returns
returns c = is_read_or_refused
