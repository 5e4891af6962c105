use Rattle.std.proofs.Common.{◌≡◌, ◌*◌, ◌≤◌, take, map}
use Rattle.payload_header.specs.Reading.{fields, counted_octets}
use Rattle.payload_header.proofs.reading.total.Given as goal

abbrev pub invariant-loop-header : goal.invariant-loop-header
invariant-loop-header l =
    (l.sum ≤ 65535 * l.header-index)
    × (l.sum ≡ counted_octets (map fields (take l.header-index l.headers)))
