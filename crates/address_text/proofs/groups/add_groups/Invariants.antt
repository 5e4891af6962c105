use Rattle.std.proofs.Common.{◌≡◌, ◌≤◌, ◌+◌, ◌*◌, ◌++◌, ◌∷◌, get_or, take}
use Rattle.std.specs.Net.Text.{groups_text}
use Rattle.arrayvec.specs.ArrayString.{array_string_len}
use Rattle.address_text.proofs.groups.add_groups.Given as goal

-- the first segment and those of the rest so far were added
abbrev pub invariant-loop-segment : goal.invariant-loop-segment
invariant-loop-segment g l = record {
  text : l.text.bytes ≡ l.fn.text.bytes
      ++ groups_text (get_or l.segments 0 0 ∷ take l.segment-index l.rest);
  room : array_string_len l.text ≤ array_string_len l.fn.text + (4 + 5 * l.segment-index);
}
