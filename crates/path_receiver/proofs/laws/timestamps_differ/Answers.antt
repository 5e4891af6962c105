use Rattle.path_receiver.proofs.SenderCells.{timestamps-differ}
use Rattle.path_receiver.proofs.laws.timestamps_differ.Goals as goal

pub returns : goal.returns
returns c = timestamps-differ
