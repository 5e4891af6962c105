use Rattle.std.proofs.Common.{◌≡◌}
use Rattle.std.specs.List.{flat_map}
use Rattle.frame_report.specs.Gathers.{told_of}
use Rattle.frame_report.specs.Contested.{contested_in_row, spot_line}
use Rattle.frame_report.proofs.Gathering.{IsPut}
use Rattle.frame_report.proofs.contested.ContestedSamplesRowLines.put_row.Given as goal

pub record Putting (so_far count : Type 0) : Type 0 where
  pub put : so_far
  pub failures : count

abbrev pub invariant-loop-column : goal.invariant-loop-column
invariant-loop-column g l =
    (goal.iterator-loop-column g).can_next l.column-iterator
    × (goal.iterator-loop-column g).is_finite l.column-iterator
    × Putting
    (IsPut (told_of g.K.ByteSink.took g.K.ByteSink.held l.initial.sink)
    (told_of g.K.ByteSink.took g.K.ByteSink.held l.sink) l.initial.page l.page
    (flat_map (spot_line l.sampling l.row) l.column-iterator) (contested_in_row l.frame l.row))
    (g.K.ByteSink.failures l.sink ≡ g.K.ByteSink.failures l.initial.sink)
