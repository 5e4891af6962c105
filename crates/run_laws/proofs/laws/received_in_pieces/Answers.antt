use Rattle.run_laws.proofs.Merging.{pieces}
use Rattle.run_laws.proofs.laws.received_in_pieces.Goals as goal

pub returns : goal.returns
returns c = pieces
