use Rattle.std.proofs.Common.{◌≡◌, ◌≤◌, length, map}
use Rattle.media_file.specs.Capture.{entry_seen}
use Rattle.media_file.proofs.GaveLoops.{GoesGave}
use Rattle.media_file.proofs.Loops.{GoesOn}
use Rattle.media_file.proofs.capture.read_records.Given as goal

abbrev pub decreases-loop-records : goal.decreases-loop-records
decreases-loop-records g l = l.left

pub record Reading (so_far read count size : Type 0) : Type 0 where
  pub goes : so_far
  pub gave : read
  pub failures : count
  pub room : size

abbrev pub invariant-loop-records : goal.invariant-loop-records
invariant-loop-records g l = Reading
    (GoesOn l.limit (g.S.ByteSource.to_give l.initial.source) l.left
    (map entry_seen l.records.items) (g.S.ByteSource.to_give l.source))
    (GoesGave l.limit (g.S.ByteSource.gave l.initial.source) l.left
    (map entry_seen l.records.items) (g.S.ByteSource.gave l.source))
    (g.S.ByteSource.failures l.source ≡ g.S.ByteSource.failures l.initial.source)
    (65535 ≤ length l.buf)
