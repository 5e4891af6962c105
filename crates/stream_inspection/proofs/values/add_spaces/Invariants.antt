use Rattle.std.proofs.Common.{◌≡◌, ◌+◌, ◌++◌, replicate}
use Rattle.arrayvec.specs.ArrayString.{array_string_len}
use Rattle.stream_inspection.proofs.values.add_spaces.Given as goal

abbrev pub invariant-loop : goal.invariant-loop
invariant-loop l = record {
  text : l.text.bytes ≡ l.fn.text.bytes ++ replicate l.counter 32;
  len : array_string_len l.text ≡ array_string_len l.fn.text + l.counter;
}
