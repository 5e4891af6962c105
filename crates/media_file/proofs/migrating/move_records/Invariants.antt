use Rattle.std.proofs.Common.{◌≡◌, ◌≤◌, length}
use Rattle.media_file.proofs.Moved.{MovesSoFar}
use Rattle.media_file.proofs.MovedGave.{MovesGave}
use Rattle.media_file.proofs.migrating.move_records.Given as goal

abbrev pub decreases-loop-first : goal.decreases-loop-first
decreases-loop-first g l = l.left

pub record Moving (so_far read count counts size : Type 0) : Type 0 where
  pub moves : so_far
  pub gave : read
  pub source_failures : count
  pub sink_failures : counts
  pub room : size

abbrev pub invariant-loop-first : goal.invariant-loop-first
invariant-loop-first g l = Moving
    (MovesSoFar l.limit l.left (g.S.ByteSource.to_give l.initial.source)
    (g.S.ByteSource.to_give l.source) (g.K.ByteSink.held l.initial.sink)
    (g.K.ByteSink.held l.sink))
    (MovesGave l.limit l.left (g.S.ByteSource.gave l.initial.source)
    (g.S.ByteSource.gave l.source) (g.K.ByteSink.took l.initial.sink)
    (g.K.ByteSink.took l.sink))
    (g.S.ByteSource.failures l.source ≡ g.S.ByteSource.failures l.initial.source)
    (g.K.ByteSink.failures l.sink ≡ g.K.ByteSink.failures l.initial.sink)
    (65535 ≤ length l.buf)
