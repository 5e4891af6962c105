use Rattle.run_laws.proofs.Looped.{cells_looped, counts_looped}
use Rattle.run_laws.proofs.sent.looped_picture.Goals as goal

pub returns-clause-cells : goal.returns-clause-cells
returns-clause-cells g c = cells_looped g.S.ByteSource.gave g.S.ByteSource.ended

pub returns-clause-counts : goal.returns-clause-counts
returns-clause-counts g c = counts_looped g.S.ByteSource.gave g.S.ByteSource.ended
