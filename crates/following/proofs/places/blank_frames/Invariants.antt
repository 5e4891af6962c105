use Rattle.std.proofs.Common.{◌≡◌, ◌≤◌, replicate, vec_capacity}
use Rattle.st_format.specs.Raster.{blank}
use Rattle.following.proofs.places.blank_frames.Given as goal

abbrev pub invariant-loop : goal.invariant-loop
invariant-loop g l =
    (l.frames.items ≡ replicate l.counter (blank l.format)) × (l.count ≤ vec_capacity l.frames)
