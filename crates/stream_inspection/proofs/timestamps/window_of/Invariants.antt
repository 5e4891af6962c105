use Rattle.std.proofs.Common.{◌≡◌, take}
use Rattle.stream_inspection.specs.Timestamps.{window_of}
use Rattle.stream_inspection.proofs.timestamps.window_of.Given as goal

abbrev pub invariant-loop-count : goal.invariant-loop-count
invariant-loop-count g l = l.window.items ≡ window_of (take l.count-index l.counts)
