use Rattle.std.proofs.Common.{◌≡◌, List, ◌++◌}
use Rattle.run_outcome.proofs.Printed.{texts_before}
use Rattle.recording_counts.specs.declared.packet.Packet.{Packet}
use Rattle.stream_inspection.specs.Numbers.{AreStreams, told_streams}
use Rattle.stream_inspection.specs.Streams.{stream_lines}
use Rattle.stream_inspection.proofs.streams.put_streams.Given as goal

abbrev pub invariant-loop-place : goal.invariant-loop-place
invariant-loop-place g l =
    (packets : List Packet) → AreStreams l.fn.tables packets
    → l.text.items ≡ l.initial.text.items
    ++ texts_before (stream_lines {A = g.row.B.Denot} l.fn.form) (told_streams packets) l.place
