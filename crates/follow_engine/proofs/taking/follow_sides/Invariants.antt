use Rattle.std.proofs.Common.{◌≡◌, length}
use Rattle.side_by_side.specs.Sides.{AllUnfailed, begun_each, failures_each}
use Rattle.path_receiver.specs.Took.{datagrams_since}
use Rattle.follow_engine.specs.Running.{IsSoundRun, running_of}
use Rattle.follow_engine.proofs.Turns.{FollowedSo}
use Rattle.follow_engine.proofs.taking.follow_sides.Given as goal

-- what came so far went into the stream
abbrev pub invariant-loop : goal.invariant-loop
invariant-loop g l = record {
  run : IsSoundRun l.run;
  eager : l.run.is_eager ≡ l.initial.run.is_eager;
  steering : l.source.steering ≡ l.initial.source.steering;
  begun : begun_each l.source.sides ≡ begun_each l.initial.source.sides;
  unfailed : AllUnfailed l.source.sides;
  so : FollowedSo g.P.PictureSink.takes l.initial.run.is_eager l.initial.source.came
      l.source.came (running_of l.initial.run) (running_of l.run) l.initial.pictures l.pictures
      (g.O.ByteSink.took l.initial.output) (g.O.ByteSink.took l.output);
  count : length (datagrams_since l.initial.source.came l.source.came) ≡ l.counter;
  source_failures : failures_each g.S.ByteSource.failures l.source.sides
      ≡ failures_each g.S.ByteSource.failures l.initial.source.sides;
  picture_failures : g.P.PictureSink.failures l.pictures
      ≡ g.P.PictureSink.failures l.initial.pictures;
  output_failures : g.O.ByteSink.failures l.output ≡ g.O.ByteSink.failures l.initial.output;
}
