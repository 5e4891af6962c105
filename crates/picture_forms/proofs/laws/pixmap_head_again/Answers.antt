use Rattle.picture_forms.proofs.PixmapAgain.{pixmap_head_again}
use Rattle.picture_forms.proofs.laws.pixmap_head_again.Goals as goal

pub returns : goal.returns
returns c f behind is = pixmap_head_again f behind is
