use Rattle.std.proofs.Common.{◌≡◌, ◌*◌, take}
use Rattle.frame_assembly.specs.Settled.{settled_picture}
use Rattle.settled_forms.specs.Pieces.{rows_text}
use Rattle.settled_forms.proofs.plane_source.PlaneSource.spell_rows.Given as goal

abbrev pub invariant-loop-i : goal.invariant-loop-i
invariant-loop-i g l =
    take (l.size * l.i) l.octets
    ≡ rows_text (settled_picture l.self.frame.now l.self.base) l.component l.first l.i
