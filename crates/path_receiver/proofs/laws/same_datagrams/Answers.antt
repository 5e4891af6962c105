use Rattle.path_receiver.proofs.Frames.{frames_of-same}
use Rattle.path_receiver.proofs.laws.same_datagrams.Goals as goal

pub returns : goal.returns
returns c = frames_of-same
