use Rattle.std.proofs.Common.{◌≡◌, ◌-◌, length, take}
use Rattle.picture_forms.specs.Walks.{Gives}
use Rattle.picture_forms.proofs.Lined.{Plain}
use Rattle.picture_forms.proofs.lines.read_line.Given as goal

pub record Line (so_far no_end count lent space : Type 0) : Type 0 where
  pub given : so_far
  pub plain : no_end
  pub failures : count
  pub names : lent
  pub room : space

abbrev pub invariant-loop-filled : goal.invariant-loop-filled
invariant-loop-filled g l = Line
    (Gives (g.S.ByteSource.to_give l.initial.source) (g.S.ByteSource.to_give l.source)
    (g.S.ByteSource.gave l.initial.source) (g.S.ByteSource.gave l.source)
    (take l.filled l.line))
    (Plain (take l.filled l.line))
    (g.S.ByteSource.failures l.source ≡ g.S.ByteSource.failures l.initial.source)
    (g.S.ByteSource.names l.source ≡ g.S.ByteSource.names l.initial.source)
    (length l.line ≡ length l.initial.line)

abbrev pub decreases-loop-filled : goal.decreases-loop-filled
decreases-loop-filled g l = length l.line - l.filled
