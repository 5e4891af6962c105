use Rattle.std.proofs.Common.{length}
use Rattle.side_by_side.proofs.sides.+know_all.Given as goal

abbrev pub decreases-know_all : goal.decreases-know_all
decreases-know_all g l = length l.sides.now
