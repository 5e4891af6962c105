use Rattle.std.proofs.Common.{◌≡◌, take}
use Rattle.picture_forms.specs.Planes.{KeepsOthers, every_text}
use Rattle.picture_forms.specs.declared.planes.Spelling.TheVariants.{One}
use Rattle.picture_forms.proofs.filling.put_ones.Given as goal

pub record Putting (so_far rest : Type 0) : Type 0 where
  pub put : so_far
  pub others : rest

abbrev pub invariant-loop-i : goal.invariant-loop-i
invariant-loop-i l = Putting
    (every_text One l.samples l.stride.first l.stride.step l.start l.i ≡ take l.i l.octets)
    (KeepsOthers l.initial.samples l.samples l.stride.first l.stride.step l.start l.i)
