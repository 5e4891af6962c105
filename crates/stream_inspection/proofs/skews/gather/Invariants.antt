use Rattle.std.proofs.Common.{◌≡◌, List, take}
use Rattle.stream_inspection.specs.Arrivals.{Arrival}
use Rattle.stream_inspection.specs.Skews.{AreProbes, skews_in}
use Rattle.stream_inspection.proofs.skews.gather.Given as goal

abbrev pub invariant-loop-count : goal.invariant-loop-count
invariant-loop-count g l =
    (arrivals : List Arrival) → AreProbes l.fn.probes arrivals
    → l.skews.items ≡ skews_in arrivals (take l.count-index l.counts)
