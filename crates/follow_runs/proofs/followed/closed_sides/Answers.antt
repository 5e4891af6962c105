use Rattle.std.proofs.Common.{List, subst, sym}
use Rattle.side_by_side.specs.declared.side.Side.{Side}
use Rattle.follow_runs.specs.Followed.{AreNewSides}
use Rattle.capture_runs.specs.declared.replayed.Replayed.{Replayed}
use Rattle.follow_runs.proofs.Follows.{new_more}
use Rattle.follow_runs.proofs.followed.closed_sides.Goals as goal

pub loop-name-preserved : goal.loop-name-preserved
loop-name-preserved c = record {
  new =
      subst (λ (l : List (Side _ Replayed)). AreNewSides l) (sym c.in_ok-push.ensures.items)
      (new_more c.loop-name.sides.items c.closed.result c.once.result c.loop-name.invariant.new
      c.once.ensures c.closed.ensures);
}
