use Rattle.media_file.proofs.Once.{cells_once}
use Rattle.media_file.proofs.laws.one_raster.Goals as goal

pub returns : goal.returns
returns c size n a b p q e = cells_once size n a b p q e
