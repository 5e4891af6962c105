use Rattle.std.proofs.Common.{◌≡◌, ◌*◌, take}
use Rattle.settled_forms.specs.Packed.{ten_bit_text}
use Rattle.settled_forms.proofs.packed.spell_lanes.Given as goal

abbrev pub invariant-loop-i : goal.invariant-loop-i
invariant-loop-i l = take (16 * l.i) l.octets ≡ ten_bit_text l.component l.packed (8 * l.i)
