use Rattle.std.proofs.Common.{◌≡◌, ◌+◌, ◌++◌, replicate}
use Rattle.arrayvec.specs.ArrayString.{array_string_len}
use Rattle.recording_counts.proofs.number_text.add_zeros.Given as goal

abbrev pub invariant-loop : goal.invariant-loop
invariant-loop g l = record {
  text : l.text.bytes ≡ l.initial.text.bytes ++ replicate l.counter 48;
  room : array_string_len l.text ≡ array_string_len l.initial.text + l.counter;
}
