use Rattle.std.proofs.Common.{◌≡◌, ◌≤◌, ◌-◌, ◌*◌, ◌++◌, length, take}
use Rattle.receiver_file.specs.Marked.{marked_text}
use Rattle.receiver_file.proofs.groups.put_more.Given as goal

pub record Placing (cut some inside so_far : Type 0) : Type 0 where
  pub from : cut
  pub count : some
  pub within : inside
  pub put : so_far

abbrev pub invariant-groups : goal.invariant-groups
invariant-groups l = Placing (l.from ≡ l.size * l.count) (l.count ≤ length l.marks)
    (l.end ≤ length l.room)
    (take l.end l.room
    ≡ take l.at l.initial.room ++ marked_text l.size (take l.count l.marks) l.octets)

abbrev pub decreases-groups : goal.decreases-groups
decreases-groups l = length l.marks - l.count
