use Rattle.picture_forms.proofs.FittedPixels.{pixels_again}
use Rattle.picture_forms.proofs.laws.pixels_again.Goals as goal

pub returns : goal.returns
returns c v behind is = pixels_again v behind is
