use Rattle.std.proofs.Common.{◌-◌, ◌+◌, ◌≡◌, ◌<◌, ◌≤◌, ◌++◌}
use Rattle.arrayvec.specs.ArrayVec.{array_vec_len}
use Rattle.packet_plan.specs.Greedy.{cut, packet_from}
use Rattle.st_format.specs.Position.{row_groups}
use Rattle.packet_plan.proofs.greedy.runs_from.Given as goal

pub record Cuts (so_far inside count low : Type 0) : Type 0 where
  pub cuts : so_far
  pub first : inside
  pub few : count
  pub rows : low

abbrev pub invariant-loop-left : goal.invariant-loop-left
invariant-loop-left l =
    Cuts (l.runs.items ++ cut (row_groups l.format) (3 - array_vec_len l.runs) l.row l.first l.left
    ≡ packet_from l.format l.max_octets l.group)
    (l.first < l.width) (array_vec_len l.runs ≤ 3) (l.row ≤ l.group + array_vec_len l.runs)

abbrev pub decreases-loop-left : goal.decreases-loop-left
decreases-loop-left l = l.left
