use Rattle.std.proofs.Common.{◌≡◌}
use Rattle.std.specs.List.{flat_map, range_with_len}
use Rattle.frame_report.specs.Gathers.{told_of}
use Rattle.frame_report.proofs.Gathering.{IsPut}
use Rattle.frame_report.proofs.Ranges.{texts_from}
use Rattle.frame_report.proofs.rows.put_rows.Given as goal

pub record Putting (so_far count : Type 0) : Type 0 where
  pub put : so_far
  pub failures : count

abbrev pub invariant-loop-row : goal.invariant-loop-row
invariant-loop-row g l = Putting
    (IsPut (told_of g.K.ByteSink.took g.K.ByteSink.held l.initial.sink)
    (told_of g.K.ByteSink.took g.K.ByteSink.held l.sink) l.initial.page l.page
    (texts_from (g.L.RowLines.lines l.frame) l.row l.frame.format.height)
    (flat_map (g.L.RowLines.lines l.frame) (range_with_len 0 l.frame.format.height)))
    (g.K.ByteSink.failures l.sink ≡ g.K.ByteSink.failures l.initial.sink)
