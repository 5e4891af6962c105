use Rattle.std.proofs.Common.{◌≡◌, take}
use Rattle.picture_forms.specs.Planes.{every_text}
use Rattle.picture_forms.specs.declared.planes.Spelling.TheVariants.{One}
use Rattle.picture_forms.proofs.planes.spell_one_by.Given as goal

abbrev pub invariant-loop-i : goal.invariant-loop-i
invariant-loop-i l =
    take l.i l.octets ≡ every_text One l.samples l.stride.first l.stride.step l.start l.i
