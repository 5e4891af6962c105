use Rattle.std.proofs.Common.{◌≡◌, replicate}
use Rattle.st_format.specs.Raster.{blank}
use Rattle.path_receiver.proofs.joining.blank_frames.Given as goal

abbrev pub invariant-loop : goal.invariant-loop
invariant-loop g l = l.frames.items ≡ replicate l.counter (blank l.format)
