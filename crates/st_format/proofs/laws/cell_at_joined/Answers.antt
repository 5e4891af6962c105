use Rattle.st_format.proofs.Rasters.{cell_at-joined}
use Rattle.st_format.proofs.laws.cell_at_joined.Goals as goal

pub returns : goal.returns
returns c = cell_at-joined
