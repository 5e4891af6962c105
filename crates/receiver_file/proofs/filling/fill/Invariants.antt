use Rattle.std.proofs.Common.{◌≡◌, ◌-◌, ◌≤◌, length}
use Rattle.receiver_file.specs.Known.{shape_in}
use Rattle.receiver_file.specs.Taking.{Gained}
use Rattle.receiver_file.proofs.filling.fill.Given as goal

pub record Reading (same wide few so_far count : Type 0) : Type 0 where
  pub format : same
  pub room : wide
  pub within : few
  pub gained : so_far
  pub failures : count

abbrev pub invariant-loop-done : goal.invariant-loop-done
invariant-loop-done g l = Reading
    (l.frame.format ≡ l.format)
    (length l.packed ≡ length l.initial.packed)
    (l.done ≤ l.groups)
    (Gained (shape_in l.format) 0 l.done (g.S.ByteSource.gave l.initial.source)
    (g.S.ByteSource.gave l.source) (g.S.ByteSource.to_give l.initial.source)
    (g.S.ByteSource.to_give l.source) l.initial.frame.cells l.frame.cells)
    (g.S.ByteSource.failures l.source ≡ g.S.ByteSource.failures l.initial.source)

abbrev pub decreases-loop-done : goal.decreases-loop-done
decreases-loop-done g l = l.groups - l.done
