use Rattle.std.proofs.Common.{◌≡◌, List, [], ◌++◌, take}
use Rattle.stream_inspection.specs.Arrivals.{Arrival}
use Rattle.stream_inspection.specs.Skews.{AreProbes}
use Rattle.stream_inspection.specs.Timestamps.{AreLasts, timestamps_behind}
use Rattle.stream_inspection.proofs.timestamps.put_all.Given as goal

abbrev pub invariant-loop-count : goal.invariant-loop-count
invariant-loop-count g l = record {
  lasts : AreLasts l.lasts (take l.count-index l.counts);
  printed : (arrivals : List Arrival) → AreProbes l.fn.probes arrivals
      → l.text.items ≡ l.initial.text.items
      ++ timestamps_behind l.fn.form arrivals [] (take l.count-index l.counts);
}
