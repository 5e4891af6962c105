use Rattle.std.proofs.Common.{◌≡◌, ◌≤◌, length}
use Rattle.st_format.specs.History.{GrewFrom}
use Rattle.pcap_file.specs.Runs.{ReadsOn, layout_seen}
use Rattle.pcap_file.proofs.recording.next_packet.Given as goal

abbrev pub decreases-loop-head : goal.decreases-loop-head
decreases-loop-head g l = (layout_seen l.layout).left

abbrev pub invariant-loop-head : goal.invariant-loop-head
invariant-loop-head g l =
    ReadsOn (length l.initial.buf) (g.S.ByteSource.gave l.initial.source)
    (g.S.ByteSource.gave l.source) (layout_seen l.initial.layout) (layout_seen l.layout)
    × (length l.buf ≡ length l.initial.buf)
    × ((layout_seen l.layout).left ≤ (layout_seen l.initial.layout).left)
    × (g.S.ByteSource.failures l.source ≡ g.S.ByteSource.failures l.initial.source)
    × (g.S.ByteSource.names l.source ≡ g.S.ByteSource.names l.initial.source)
    × GrewFrom (g.S.ByteSource.gave l.initial.source) (g.S.ByteSource.gave l.source)
