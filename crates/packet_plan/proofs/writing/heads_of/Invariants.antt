use Rattle.std.proofs.Common.{◌≡◌, ◌+◌, ◌++◌, length, map, take}
use Rattle.std.specs.List.{AllByRecursion}
use Rattle.packet_plan.specs.Text.{HasHead, head_of}
use Rattle.packet_plan.proofs.writing.heads_of.Given as goal

pub record Made (so_far place size all : Type 0) : Type 0 where
  pub made : so_far
  pub end : place
  pub long : size
  pub heads : all

abbrev pub invariant-loop-rest : goal.invariant-loop-rest
invariant-loop-rest l = Made
    (take l.count l.heads ++ map (head_of l.format) l.rest ≡ map (head_of l.format) l.runs)
    (l.count + length l.rest ≡ length l.runs)
    (length l.heads ≡ 3)
    (AllByRecursion (HasHead l.format) l.rest)

abbrev pub decreases-loop-rest : goal.decreases-loop-rest
decreases-loop-rest l = length l.rest
