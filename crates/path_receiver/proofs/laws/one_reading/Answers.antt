use Rattle.path_receiver.proofs.Offered.{reading_is_one}
use Rattle.path_receiver.proofs.laws.one_reading.Goals as goal

pub returns : goal.returns
returns c = reading_is_one
