use Rattle.std.proofs.Common.{◌≡◌, ◌+◌, ◌≤◌, length, map}
use Rattle.std.specs.List.{sum_by}
use Rattle.recording_engines.specs.Files.{AllReady, begun_of, failures_by}
use Rattle.recording_engines.specs.Progress.{HasWritten, none_written}
use Rattle.recording_engines.proofs.joining.join.Given as goal

abbrev pub invariant-loop-turn : goal.invariant-loop-turn
invariant-loop-turn g l = record {
  files : length l.files ≡ length l.initial.files;
  begun : map begun_of l.files ≡ map begun_of l.initial.files;
  ready : AllReady l.files;
  few : l.written.a + l.written.b ≤ l.turn;
  writes : HasWritten l.files (g.K.ByteSink.took l.initial.capture) (g.K.ByteSink.took l.capture)
      none_written l.written l.turn;
  source_failures : sum_by (failures_by g.S.ByteSource.failures) l.files
      ≡ sum_by (failures_by g.S.ByteSource.failures) l.initial.files;
  sink_failures : g.K.ByteSink.failures l.capture ≡ g.K.ByteSink.failures l.initial.capture;
}
