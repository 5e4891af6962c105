use Rattle.std.proofs.Common.{◌≡◌, ◌≤◌, [], length}
use Rattle.following.specs.Follower.{IsFollower}
use Rattle.following.proofs.Driving.{SoFar}
use Rattle.following.proofs.stream.take_turns.Given as goal

-- what was made of the turns so far, and what source and sink counted
abbrev pub invariant-loop : goal.invariant-loop
invariant-loop g l = record {
  few : l.delivered ≤ l.counter;
  room : length l.buf ≡ length l.initial.buf;
  format : l.frame.format ≡ l.follower.opening.format;
  follower : IsFollower l.follower;
  so_far : SoFar g.O.FollowObserver.after l.eager l.counter l.delivered
      (g.S.DatagramSource.turns l.initial.source) (g.S.DatagramSource.turns l.source)
      (g.S.DatagramSource.came l.initial.source) (g.S.DatagramSource.came l.source)
      l.initial.follower l.follower (g.K.FrameSink.shown l.initial.sink)
      (g.K.FrameSink.shown l.sink) [] l.initial.observer l.observer;
  last : g.S.DatagramSource.last_fault l.source ≡ g.S.DatagramSource.last_fault l.initial.source;
  before : g.S.DatagramSource.before l.source ≡ g.S.DatagramSource.before l.initial.source;
  names : g.S.DatagramSource.names l.source ≡ g.S.DatagramSource.names l.initial.source;
  failures : g.S.DatagramSource.failures l.source ≡ g.S.DatagramSource.failures l.initial.source;
  sink : g.K.FrameSink.failures l.sink ≡ g.K.FrameSink.failures l.initial.sink;
}
