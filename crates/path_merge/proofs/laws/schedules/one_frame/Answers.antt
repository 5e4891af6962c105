use Rattle.path_merge.proofs.SenderStays.{one_frame}
use Rattle.path_merge.proofs.laws.schedules.one_frame.Goals as goal

pub returns : goal.returns
returns c = one_frame
