use Rattle.std.proofs.Common.{◌-◌, ◌≤◌}
use Rattle.st_format.specs.Position.{group_count}
use Rattle.packet_plan.specs.Greedy.{IsWalk}
use Rattle.packet_plan.proofs.greedy.starts_of.Given as goal

pub record Walked (so_far within : Type 0) : Type 0 where
  pub walk : so_far
  pub end : within

abbrev pub invariant-loop-group : goal.invariant-loop-group
invariant-loop-group g l =
    Walked (IsWalk l.format l.max_octets 0 l.starts.items l.group) (l.group ≤ group_count l.format)

abbrev pub decreases-loop-group : goal.decreases-loop-group
decreases-loop-group g l = l.count - l.group
