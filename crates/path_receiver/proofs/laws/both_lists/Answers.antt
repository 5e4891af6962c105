use Rattle.path_receiver.proofs.Frames.{frames_of-append}
use Rattle.path_receiver.proofs.laws.both_lists.Goals as goal

pub returns : goal.returns
returns c = frames_of-append
