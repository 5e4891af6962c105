use Rattle.picture_forms.proofs.Once.{one_pixmap}
use Rattle.picture_forms.proofs.laws.one_pixmap.Goals as goal

pub returns : goal.returns
returns c f xs ys a b long_x long_y e = one_pixmap f xs ys a b long_x long_y e
