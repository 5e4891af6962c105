use Rattle.std.proofs.Common.{◌≡◌, ◌≤◌, ◌+◌, ◌*◌, ◌++◌, take}
use Rattle.std.specs.List.{flat_map}
use Rattle.arrayvec.specs.ArrayString.{array_string_len}
use Rattle.recording_counts.specs.FlowLines.{stream_text}
use Rattle.recording_counts.proofs.flow_lines.add_each.Given as goal

abbrev pub invariant-loop-stream : goal.invariant-loop-stream
invariant-loop-stream g l = record {
  text : l.text.bytes
      ≡ l.initial.text.bytes ++ flat_map stream_text (take l.stream-index l.streams);
  room : array_string_len l.text ≤ array_string_len l.initial.text + 154 * l.stream-index;
}
