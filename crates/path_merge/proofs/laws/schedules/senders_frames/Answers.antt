use Rattle.path_merge.proofs.SenderStays.{senders_frame}
use Rattle.path_merge.proofs.laws.schedules.senders_frames.Goals as goal

pub returns : goal.returns
returns c = senders_frame
