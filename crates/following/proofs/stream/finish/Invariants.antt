use Rattle.std.proofs.Common.{◌≡◌, ◌++◌, length}
use Rattle.following.specs.Follower.{IsFollower}
use Rattle.following.specs.Following.{frames_in}
use Rattle.following.proofs.stream.finish.Given as goal

abbrev pub invariant-loop-follower : goal.invariant-loop-follower
invariant-loop-follower g l = record {
  shown : g.K.FrameSink.shown l.sink ++ frames_in l.follower
      ≡ g.K.FrameSink.shown l.initial.sink ++ frames_in l.initial.follower;
  failures : g.K.FrameSink.failures l.sink ≡ g.K.FrameSink.failures l.initial.sink;
  size : l.follower.size ≡ l.initial.follower.size;
  ahead : l.follower.most_ahead ≡ l.initial.follower.most_ahead;
  format : l.frame.format ≡ l.follower.opening.format;
  follower : IsFollower l.follower;
}

abbrev pub decreases-loop-follower : goal.decreases-loop-follower
decreases-loop-follower g l = length l.follower.opening.window
