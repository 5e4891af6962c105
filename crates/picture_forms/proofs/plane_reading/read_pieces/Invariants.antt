use Rattle.std.proofs.Common.{◌≡◌, ◌≤◌, ◌-◌, length}
use Rattle.picture_forms.specs.Planes.{KeepsOthers, every_text}
use Rattle.picture_forms.specs.Walks.{Gives}
use Rattle.picture_forms.proofs.plane_reading.read_pieces.Given as goal

pub record Reading (end so_far rest count lent space : Type 0) : Type 0 where
  pub within : end
  pub given : so_far
  pub others : rest
  pub failures : count
  pub names : lent
  pub room : space

abbrev pub invariant-loop-done : goal.invariant-loop-done
invariant-loop-done g l = Reading
    (l.done ≤ l.count)
    (Gives (g.S.ByteSource.to_give l.initial.source) (g.S.ByteSource.to_give l.source)
    (g.S.ByteSource.gave l.initial.source) (g.S.ByteSource.gave l.source)
    (every_text l.spelling l.samples l.stride.first l.stride.step 0 l.done))
    (KeepsOthers l.initial.samples l.samples l.stride.first l.stride.step 0 l.done)
    (g.S.ByteSource.failures l.source ≡ g.S.ByteSource.failures l.initial.source)
    (g.S.ByteSource.names l.source ≡ g.S.ByteSource.names l.initial.source)
    (length l.piece ≡ 4096)

abbrev pub decreases-loop-done : goal.decreases-loop-done
decreases-loop-done g l = l.count - l.done
