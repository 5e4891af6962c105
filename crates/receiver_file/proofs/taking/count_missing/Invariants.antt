use Rattle.std.proofs.Common.{◌≡◌, ◌-◌, ◌≤◌, length, replicate, take}
use Rattle.receiver_file.proofs.taking.count_missing.Given as goal

pub record Counting (fewer part zero : Type 0) : Type 0 where
  pub most : fewer
  pub inside : part
  pub zeros : zero

abbrev pub invariant-loop-count : goal.invariant-loop-count
invariant-loop-count l = Counting
    (l.count ≤ l.most)
    (l.count ≤ length l.octets)
    (take l.count l.octets ≡ replicate l.count 0)

abbrev pub decreases-loop-count : goal.decreases-loop-count
decreases-loop-count l = l.most - l.count
