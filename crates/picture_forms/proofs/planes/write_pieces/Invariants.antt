use Rattle.std.proofs.Common.{◌≡◌, ◌≤◌, ◌-◌, length}
use Rattle.picture_forms.specs.Planes.{every_text}
use Rattle.picture_forms.specs.Writing.{Writes}
use Rattle.picture_forms.proofs.planes.write_pieces.Given as goal

pub record Writing (end so_far count lent space : Type 0) : Type 0 where
  pub within : end
  pub written : so_far
  pub failures : count
  pub names : lent
  pub room : space

abbrev pub invariant-loop-done : goal.invariant-loop-done
invariant-loop-done g l = Writing
    (l.done ≤ l.count)
    (Writes (g.K.ByteSink.held l.initial.sink) (g.K.ByteSink.held l.sink)
    (g.K.ByteSink.took l.initial.sink) (g.K.ByteSink.took l.sink)
    (every_text l.spelling l.samples l.stride.first l.stride.step 0 l.done))
    (g.K.ByteSink.failures l.sink ≡ g.K.ByteSink.failures l.initial.sink)
    (g.K.ByteSink.names l.sink ≡ g.K.ByteSink.names l.initial.sink)
    (length l.piece ≡ 4096)

abbrev pub decreases-loop-done : goal.decreases-loop-done
decreases-loop-done g l = l.count - l.done
