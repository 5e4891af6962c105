use Rattle.std.proofs.Common.{◌≡◌, ◌++◌}
use Rattle.std.specs.Io.KnownBytes.{Appends}
use Rattle.receiver_file.proofs.KeptRuns.{texts_before}
use Rattle.receiver_file.proofs.saving.write_frames.Given as goal

pub record Writing (so_far taken count : Type 0) : Type 0 where
  pub written : so_far
  pub took : taken
  pub failures : count

abbrev pub invariant-loop-timestamp : goal.invariant-loop-timestamp
invariant-loop-timestamp g l = Writing
    (Appends (g.K.ByteSink.held l.initial.sink) (g.K.ByteSink.held l.sink)
    (texts_before l.receiver l.timestamp-index))
    (g.K.ByteSink.took l.sink
    ≡ g.K.ByteSink.took l.initial.sink ++ texts_before l.receiver l.timestamp-index)
    (g.K.ByteSink.failures l.sink ≡ g.K.ByteSink.failures l.initial.sink)
