use Rattle.std.proofs.Common.{◌≡◌, ◌≤◌, ◌-◌, Some, length, take}
use Rattle.receiver_file.specs.Marked.{Passes, marked_text}
use Rattle.receiver_file.proofs.rows.write_marked.Given as goal

pub record Gathering (so_far taken some inside count : Type 0) : Type 0 where
  pub passed : so_far
  pub took : taken
  pub groups : some
  pub filled : inside
  pub failures : count

abbrev pub invariant-loop-group : goal.invariant-loop-group
invariant-loop-group g l = Gathering
    (Passes (g.K.ByteSink.held l.initial.sink) (g.K.ByteSink.held l.sink)
    (marked_text l.size (take l.group l.marks) l.octets) (take l.filled l.room))
    (Passes (Some (g.K.ByteSink.took l.initial.sink)) (Some (g.K.ByteSink.took l.sink))
    (marked_text l.size (take l.group l.marks) l.octets) (take l.filled l.room))
    (l.group ≤ length l.marks)
    (l.filled ≤ length l.room)
    (g.K.ByteSink.failures l.sink ≡ g.K.ByteSink.failures l.initial.sink)

abbrev pub decreases-loop-group : goal.decreases-loop-group
decreases-loop-group g l = length l.marks - l.group
