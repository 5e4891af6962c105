use Rattle.picture_forms.proofs.FrameAgain.{frame_again}
use Rattle.picture_forms.proofs.laws.frame_again.Goals as goal

pub returns : goal.returns
returns c v behind is whole = frame_again v behind is whole
