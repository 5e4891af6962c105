use Rattle.std.proofs.Common.{◌≡◌, ◌*◌, take}
use Rattle.picture_forms.specs.Planes.{every_text}
use Rattle.picture_forms.specs.declared.planes.Spelling.TheVariants.{Little}
use Rattle.picture_forms.proofs.planes.spell_little_by.Given as goal

abbrev pub invariant-loop-i : goal.invariant-loop-i
invariant-loop-i l =
    take (2 * l.i) l.octets ≡ every_text Little l.samples l.stride.first l.stride.step l.start l.i
