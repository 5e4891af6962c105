use Rattle.std.proofs.Common.{sym, map, arith}
use Rattle.payload_header.specs.Reading.{fields}
use Rattle.payload_header.proofs.Grammar.{view_inside}
use Rattle.payload_header.proofs.reading.read.Goals as goal

pub invariant_of-result : goal.invariant_of-result
invariant_of-result c = record {
  inside =
      view_inside c.args.format.now
      (map fields c.as_slice-list.result.now) c.in_ok-headers.data.now
      c.segments_in-segments.result.items c.segments_in-segments.ensures (sym c.in_default.ensures)
      (omega (arith, c.total.ensures));
}
