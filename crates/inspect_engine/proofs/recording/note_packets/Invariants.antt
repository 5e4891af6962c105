use Rattle.std.proofs.Common.{◌≡◌, length}
use Rattle.pcap_file.specs.Runs.{layout_seen}
use Rattle.inspect_engine.proofs.Noting.{Going}
use Rattle.inspect_engine.proofs.recording.note_packets.Given as goal

pub record Noting (so_far count size : Type 0) : Type 0 where
  pub room : size
  pub going : so_far
  pub failures : count

abbrev pub invariant-packets : goal.invariant-packets
invariant-packets g l = Noting
    (Going (length l.initial.buf) (layout_seen l.initial.layout) (layout_seen l.layout)
    (g.S.ByteSource.gave l.initial.source) (g.S.ByteSource.gave l.source) l.initial.inspection
    l.inspection)
    (g.S.ByteSource.failures l.source ≡ g.S.ByteSource.failures l.initial.source)
    (length l.buf ≡ length l.initial.buf)

abbrev pub decreases-packets : goal.decreases-packets
decreases-packets g l = (layout_seen l.layout).left
