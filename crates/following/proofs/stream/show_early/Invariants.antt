use Rattle.std.proofs.Common.{◌≡◌, ◌++◌, length}
use Rattle.following.specs.Follower.{IsFollower}
use Rattle.following.specs.Turned.{handed_early, state_early}
use Rattle.following.proofs.stream.show_early.Given as goal

-- what was shown, and what still goes early
abbrev pub invariant-loop-follower : goal.invariant-loop-follower
invariant-loop-follower g l = record {
  shown : g.K.FrameSink.shown l.sink ++ handed_early l.eager l.follower
      ≡ g.K.FrameSink.shown l.initial.sink ++ handed_early l.eager l.initial.follower;
  state : state_early l.eager l.follower ≡ state_early l.eager l.initial.follower;
  failures : g.K.FrameSink.failures l.sink ≡ g.K.FrameSink.failures l.initial.sink;
  format : l.frame.format ≡ l.follower.opening.format;
  follower : IsFollower l.follower;
}

abbrev pub decreases-loop-follower : goal.decreases-loop-follower
decreases-loop-follower g l = length l.follower.opening.window
