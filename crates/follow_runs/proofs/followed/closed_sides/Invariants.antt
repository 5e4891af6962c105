use Rattle.follow_runs.specs.Followed.{AreNewSides}
use Rattle.follow_runs.proofs.followed.closed_sides.Given as goal

abbrev pub invariant-loop-name : goal.invariant-loop-name
invariant-loop-name l = record { new : AreNewSides l.sides.items }
