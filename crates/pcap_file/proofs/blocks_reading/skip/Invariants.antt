use Rattle.std.proofs.Common.{◌≡◌, ◌≤◌, ◌-◌}
use Rattle.st_format.specs.Given.{GaveValue, Takes}
use Rattle.pcap_file.specs.NgReading.{skip_at}
use Rattle.pcap_file.proofs.blocks_reading.skip.Given as goal

abbrev pub decreases-loop-done : goal.decreases-loop-done
decreases-loop-done g l = l.count - l.done

abbrev pub invariant-loop-done : goal.invariant-loop-done
invariant-loop-done g l =
    (l.done ≤ l.count)
    × Takes (skip_at l.done) (g.S.ByteSource.to_give l.initial.source)
    (g.S.ByteSource.to_give l.source) tt
    × GaveValue (skip_at l.done) (g.S.ByteSource.gave l.initial.source)
    (g.S.ByteSource.gave l.source) tt
    × (g.S.ByteSource.failures l.source ≡ g.S.ByteSource.failures l.initial.source)
    × (g.S.ByteSource.names l.source ≡ g.S.ByteSource.names l.initial.source)
