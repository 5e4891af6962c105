use Rattle.payload_header.proofs.Both.{reading_is_one}
use Rattle.payload_header.proofs.laws.one_reading.Goals as goal

pub returns : goal.returns
returns c = reading_is_one
