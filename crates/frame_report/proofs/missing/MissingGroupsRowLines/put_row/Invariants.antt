use Rattle.std.proofs.Common.{◌≡◌}
use Rattle.std.specs.List.{flat_map}
use Rattle.frame_report.specs.Gathers.{told_of}
use Rattle.frame_report.specs.Missing.{columns_line, missing_in_row}
use Rattle.frame_report.proofs.Gathering.{IsPut}
use Rattle.frame_report.proofs.missing.MissingGroupsRowLines.put_row.Given as goal

pub record Putting (so_far count : Type 0) : Type 0 where
  pub put : so_far
  pub failures : count

abbrev pub invariant-loop-columns : goal.invariant-loop-columns
invariant-loop-columns g l =
    (goal.iterator-loop-columns g).can_next l.columns-iterator
    × (goal.iterator-loop-columns g).is_finite l.columns-iterator
    × Putting
    (IsPut (told_of g.K.ByteSink.took g.K.ByteSink.held l.initial.sink)
    (told_of g.K.ByteSink.took g.K.ByteSink.held l.sink) l.initial.page l.page
    (flat_map (columns_line l.row) l.columns-iterator) (missing_in_row l.frame l.row))
    (g.K.ByteSink.failures l.sink ≡ g.K.ByteSink.failures l.initial.sink)
