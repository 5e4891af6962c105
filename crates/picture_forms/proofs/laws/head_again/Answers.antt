use Rattle.picture_forms.proofs.HeadAgain.{head_again}
use Rattle.picture_forms.proofs.laws.head_again.Goals as goal

pub returns : goal.returns
returns c f behind is = head_again f behind is
