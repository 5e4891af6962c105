use Rattle.std.proofs.Common.{◌≡◌, ◌-◌}
use Rattle.picture_forms.specs.Numbers.{part_at}
use Rattle.picture_forms.proofs.Numbered.{InNumber}
use Rattle.picture_forms.proofs.pixmap_head_reading.read_count.Given as goal

pub record Number (so_far count lent : Type 0) : Type 0 where
  pub part : so_far
  pub failures : count
  pub names : lent

abbrev pub invariant-loop-i : goal.invariant-loop-i
invariant-loop-i g l = Number
    (InNumber (g.S.ByteSource.to_give l.initial.source) (g.S.ByteSource.to_give l.source)
    (g.S.ByteSource.gave l.initial.source) (g.S.ByteSource.gave l.source)
    1024 (part_at l.fn.stage 0) (1024 - l.i) l.part)
    (g.S.ByteSource.failures l.source ≡ g.S.ByteSource.failures l.initial.source)
    (g.S.ByteSource.names l.source ≡ g.S.ByteSource.names l.initial.source)
