use Rattle.std.proofs.Common.{length}
use Rattle.side_by_side.proofs.choosing.+first_side.Given as goal

abbrev pub decreases-first_side : goal.decreases-first_side
decreases-first_side g l = length l.sides.now
