use Rattle.std.proofs.Common.{◌≡◌, ◌≤◌, ◌+◌, ◌*◌, ◌++◌, codes, take}
use Rattle.std.specs.Fmt.{decimal}
use Rattle.std.specs.List.{flat_map}
use Rattle.arrayvec.specs.ArrayString.{array_string_len}
use Rattle.stream_inspection.proofs.values.add_behind.Given as goal

abbrev pub invariant-loop-number : goal.invariant-loop-number
invariant-loop-number l = record {
  text : l.text.bytes ≡ l.fn.text.bytes
      ++ flat_map (λ y. codes "," ++ decimal y) (take l.number-index l.numbers);
  room : array_string_len l.text ≤ array_string_len l.fn.text + 21 * l.number-index;
}
