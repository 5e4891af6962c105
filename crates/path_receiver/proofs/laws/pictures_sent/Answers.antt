use Rattle.path_receiver.proofs.SenderCells.{sent-among}
use Rattle.path_receiver.proofs.laws.pictures_sent.Goals as goal

pub returns : goal.returns
returns c = sent-among
