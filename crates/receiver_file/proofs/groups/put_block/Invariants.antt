use Rattle.std.proofs.Common.{◌≡◌, ◌+◌, ◌*◌, ◌++◌, length, replicate, take}
use Rattle.receiver_file.specs.Marked.{marked_text}
use Rattle.receiver_file.proofs.groups.put_block.Given as goal

pub record Placing (cut so_far_to long so_far : Type 0) : Type 0 where
  pub from : cut
  pub end : so_far_to
  pub room : long
  pub put : so_far

abbrev pub invariant-loop-group : goal.invariant-loop-group
invariant-loop-group l = Placing (l.from ≡ l.size * l._group)
    (l.end ≡ l.at + l._group * (1 + l.size)) (length l.room ≡ length l.initial.room)
    (take l.end l.room
    ≡ take l.at l.initial.room
    ++ marked_text l.size (take l._group (replicate 8 32768)) l.octets)
