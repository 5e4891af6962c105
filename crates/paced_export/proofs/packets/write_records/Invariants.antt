use Rattle.std.proofs.Common.{◌≡◌, ◌≤◌, length}
use Rattle.paced_export.proofs.PacedLoops.{PacedSoFar}
use Rattle.paced_export.specs.Counts.{counted}
use Rattle.paced_export.proofs.packets.write_records.Given as goal

abbrev pub decreases-loop-first : goal.decreases-loop-first
decreases-loop-first g l = l.left

pub record Exporting (so_far count counts size more : Type 0) : Type 0 where
  pub packets : so_far
  pub source_failures : count
  pub sink_failures : counts
  pub room : size
  pub packet : more

abbrev pub invariant-loop-first : goal.invariant-loop-first
invariant-loop-first g l = Exporting
    (PacedSoFar l.left l.written l.envelopes l.frames.pace (counted l.frames.all.now) l.seen
    (g.S.ByteSource.gave l.initial.source) (g.S.ByteSource.gave l.source)
    (g.K.ByteSink.took l.initial.sink) (g.K.ByteSink.took l.sink))
    (g.S.ByteSource.failures l.source ≡ g.S.ByteSource.failures l.initial.source)
    (g.K.ByteSink.failures l.sink ≡ g.K.ByteSink.failures l.initial.sink)
    (65535 ≤ length l.buf)
    (65605 ≤ length l.packet)
