use Rattle.path_receiver.proofs.Held.{frames_same, missing_same}
use Rattle.path_receiver.proofs.laws.same_frames.Goals as goal

pub returns-clause-frames : goal.returns-clause-frames
returns-clause-frames c = frames_same

pub returns-clause-missing_map : goal.returns-clause-missing_map
returns-clause-missing_map c = missing_same
