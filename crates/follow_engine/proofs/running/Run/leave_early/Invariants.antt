use Rattle.std.proofs.Common.{◌≡◌, length}
use Rattle.following.specs.Follower.{IsFollower}
use Rattle.following.specs.Turned.{handed_early, state_early}
use Rattle.follow_engine.specs.Running.{running_of}
use Rattle.follow_engine.proofs.Leaving.{HasLeft}
use Rattle.follow_engine.proofs.running.Run.leave_early.Given as goal

-- what left so far of those that go early, and what source and sinks counted
abbrev pub invariant-loop-self : goal.invariant-loop-self
invariant-loop-self g l = record {
  format : l.self.frame.format ≡ l.self.follower.opening.format;
  follower : IsFollower l.self.follower;
  restarts : l.self.restarts ≡ l.initial.self.restarts;
  eager : l.self.is_eager ≡ l.initial.self.is_eager;
  steering : l.self.steering ≡ l.initial.self.steering;
  state : state_early l.initial.self.is_eager l.self.follower
      ≡ state_early l.initial.self.is_eager l.initial.self.follower;
  left : HasLeft g.P.PictureSink.takes (handed_early l.initial.self.is_eager)
      (running_of l.initial.self) (running_of l.self) l.initial.pictures l.pictures
      (g.O.ByteSink.took l.initial.output) (g.O.ByteSink.took l.output);
  picture_failures : g.P.PictureSink.failures l.pictures
      ≡ g.P.PictureSink.failures l.initial.pictures;
  output_failures : g.O.ByteSink.failures l.output ≡ g.O.ByteSink.failures l.initial.output;
}

abbrev pub decreases-loop-self : goal.decreases-loop-self
decreases-loop-self g l = length l.self.follower.opening.window
