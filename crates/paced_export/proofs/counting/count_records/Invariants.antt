use Rattle.std.proofs.Common.{◌≡◌, ◌≤◌, length}
use Rattle.paced_export.proofs.PacedRecordings.{CountedSoFar}
use Rattle.paced_export.proofs.counting.count_records.Given as goal

abbrev pub decreases-loop-first : goal.decreases-loop-first
decreases-loop-first g l = l.left

pub record Counting (so_far count size : Type 0) : Type 0 where
  pub records : so_far
  pub failures : count
  pub room : size

abbrev pub invariant-loop-first : goal.invariant-loop-first
invariant-loop-first g l = Counting
    (CountedSoFar l.limit l.left l.counts (g.S.ByteSource.gave l.initial.source)
    (g.S.ByteSource.gave l.source))
    (g.S.ByteSource.failures l.source ≡ g.S.ByteSource.failures l.initial.source)
    (65535 ≤ length l.buf)
