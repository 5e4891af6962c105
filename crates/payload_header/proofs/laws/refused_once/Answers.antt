use Rattle.payload_header.proofs.Both.{is_refused_once}
use Rattle.payload_header.proofs.laws.refused_once.Goals as goal

pub returns : goal.returns
returns c = is_refused_once
