use Rattle.payload_header.proofs.Both.{not_refused}
use Rattle.payload_header.proofs.laws.payload_not_refused.Goals as goal

pub returns : goal.returns
returns c = not_refused
