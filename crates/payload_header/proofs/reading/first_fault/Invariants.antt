use Rattle.std.proofs.Common.{◌≡◌, drop, map}
use Rattle.payload_header.specs.Reading.{fields, headers_fault}
use Rattle.payload_header.proofs.reading.first_fault.Given as goal

abbrev pub invariant-loop-header : goal.invariant-loop-header
invariant-loop-header l =
    headers_fault l.format (map fields (drop l.header-index l.headers))
    ≡ headers_fault l.format (map fields l.headers)
