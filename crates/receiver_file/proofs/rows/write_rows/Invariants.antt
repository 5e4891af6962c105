use Rattle.std.proofs.Common.{◌≡◌, ◌++◌}
use Rattle.std.specs.Io.KnownBytes.{Appends}
use Rattle.media_file.specs.Groups.{groups_text}
use Rattle.receiver_file.specs.Known.{rows_cut, shape_in}
use Rattle.receiver_file.proofs.rows.write_rows.Given as goal

pub record Writing (so_far taken count : Type 0) : Type 0 where
  pub written : so_far
  pub took : taken
  pub failures : count

abbrev pub invariant-loop-row : goal.invariant-loop-row
invariant-loop-row g l = Writing
    (Appends (g.K.ByteSink.held l.initial.sink) (g.K.ByteSink.held l.sink)
    (groups_text (shape_in l.frame.format) (rows_cut l.frame l.row)))
    (g.K.ByteSink.took l.sink
    ≡ g.K.ByteSink.took l.initial.sink
    ++ groups_text (shape_in l.frame.format) (rows_cut l.frame l.row))
    (g.K.ByteSink.failures l.sink ≡ g.K.ByteSink.failures l.initial.sink)
