use Rattle.std.proofs.Common.{◌≡◌, ◌≤◌, ◌-◌, ◌*◌}
use Rattle.frame_assembly.specs.Settled.{settled_picture}
use Rattle.picture_forms.specs.Writing.{Writes}
use Rattle.st_format.specs.Position.{row_groups}
use Rattle.settled_forms.specs.Pieces.{group_share, part_text}
use Rattle.settled_forms.proofs.plane_writing.write_plane.Given as goal

abbrev pub invariant-loop-row : goal.invariant-loop-row
invariant-loop-row g l = record {
  within : l.row ≤ l.height;
  written : Writes (g.K.ByteSink.held l.initial.sink) (g.K.ByteSink.held l.sink)
      (g.K.ByteSink.took l.initial.sink) (g.K.ByteSink.took l.sink)
      (part_text l.source.frame.now.format l.component
      (settled_picture l.source.frame.now l.source.base).samples
      (group_share l.source.frame.now.format l.component
      * (row_groups l.source.frame.now.format * l.row)));
  failures : g.K.ByteSink.failures l.sink ≡ g.K.ByteSink.failures l.initial.sink;
  names : g.K.ByteSink.names l.sink ≡ g.K.ByteSink.names l.initial.sink;
}

abbrev pub decreases-loop-row : goal.decreases-loop-row
decreases-loop-row g l = l.height - l.row
