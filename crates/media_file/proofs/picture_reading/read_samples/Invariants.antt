use Rattle.std.proofs.Common.{◌≡◌, ◌≤◌, ◌*◌, ◌%◌, ◌-◌, length}
use Rattle.st_format.specs.Pgroup.{bits_of}
use Rattle.media_file.specs.PictureFile.{GaveSpelled, GivesSpelled}
use Rattle.media_file.proofs.picture_reading.read_samples.Given as goal

pub record Reading (end eighths so_far history count : Type 0) : Type 0 where
  pub within : end
  pub whole : eighths
  pub given : so_far
  pub gave : history
  pub failures : count

abbrev pub invariant-loop-octets : goal.invariant-loop-octets
invariant-loop-octets g l = Reading
    (length l.samples.items ≤ l.count)
    (bits_of l.format.depth * length l.samples.items % 8 ≡ 0)
    (GivesSpelled (bits_of l.format.depth) (g.S.ByteSource.to_give l.initial.source)
    (g.S.ByteSource.to_give l.source) l.samples.items)
    (GaveSpelled (bits_of l.format.depth) (g.S.ByteSource.gave l.initial.source)
    (g.S.ByteSource.gave l.source) l.samples.items)
    (g.S.ByteSource.failures l.source ≡ g.S.ByteSource.failures l.initial.source)

abbrev pub decreases-loop-octets : goal.decreases-loop-octets
decreases-loop-octets g l = l.count - length l.samples.items
