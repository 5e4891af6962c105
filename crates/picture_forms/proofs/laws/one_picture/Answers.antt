use Rattle.picture_forms.proofs.Once.{one_picture}
use Rattle.picture_forms.proofs.laws.one_picture.Goals as goal

pub returns : goal.returns
returns c f xs ys a b is long_x long_y e = one_picture f xs ys a b is long_x long_y e
