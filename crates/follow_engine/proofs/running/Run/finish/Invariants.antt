use Rattle.std.proofs.Common.{◌≡◌, [], length}
use Rattle.following.specs.Following.{frames_in}
use Rattle.path_receiver.specs.Sliding.{with_window}
use Rattle.follow_engine.specs.Running.{IsSoundRun, running_of}
use Rattle.follow_engine.proofs.Leaving.{HasLeft}
use Rattle.follow_engine.proofs.running.Run.finish.Given as goal

abbrev pub invariant-loop-self : goal.invariant-loop-self
invariant-loop-self g l = record {
  run : IsSoundRun l.self;
  eager : l.self.is_eager ≡ l.initial.self.is_eager;
  opening : with_window l.self.follower.opening []
      ≡ with_window l.initial.self.follower.opening [];
  size : l.self.follower.size ≡ l.initial.self.follower.size;
  ahead : l.self.follower.most_ahead ≡ l.initial.self.follower.most_ahead;
  left : HasLeft g.P.PictureSink.takes frames_in (running_of l.initial.self) (running_of l.self)
      l.initial.pictures l.pictures (g.O.ByteSink.took l.initial.output)
      (g.O.ByteSink.took l.output);
  picture_failures : g.P.PictureSink.failures l.pictures
      ≡ g.P.PictureSink.failures l.initial.pictures;
  output_failures : g.O.ByteSink.failures l.output ≡ g.O.ByteSink.failures l.initial.output;
}

abbrev pub decreases-loop-self : goal.decreases-loop-self
decreases-loop-self g l = length l.self.follower.opening.window
