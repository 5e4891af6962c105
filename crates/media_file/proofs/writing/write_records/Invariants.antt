use Rattle.std.proofs.Common.{◌≡◌, ◌++◌, map, take}
use Rattle.std.specs.Io.KnownBytes.{Appends}
use Rattle.media_file.specs.Capture.{entry_seen}
use Rattle.media_file.specs.Records.{records_text}
use Rattle.media_file.proofs.writing.write_records.Given as goal

pub record Writing (so_far took count : Type 0) : Type 0 where
  pub written : so_far
  pub taken : took
  pub failures : count

abbrev pub invariant-loop-record : goal.invariant-loop-record
invariant-loop-record g l = Writing
    (Appends (g.K.ByteSink.held l.initial.sink) (g.K.ByteSink.held l.sink)
    (records_text (map entry_seen (take l.record-index l.records))))
    (g.K.ByteSink.took l.sink ≡ g.K.ByteSink.took l.initial.sink
    ++ records_text (map entry_seen (take l.record-index l.records)))
    (g.K.ByteSink.failures l.sink ≡ g.K.ByteSink.failures l.initial.sink)
