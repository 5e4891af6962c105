use Rattle.std.proofs.Common.{◌≡◌, ◌≤◌, ◌++◌, drop, map, length}
use Rattle.arrayvec.specs.ArrayVec.{array_vec_len}
use Rattle.payload_header.specs.Payload.{seen_segment}
use Rattle.payload_header.specs.Reading.{fields, counted_octets, segments_at}
use Rattle.payload_header.proofs.reading.segments_in.Given as goal

pub record Front (so_far whole count : Type 0) : Type 0 where
  pub cuts : so_far
  pub enough : whole
  pub as_many : count

abbrev pub invariant-loop-header : goal.invariant-loop-header
invariant-loop-header l =
    Front (map seen_segment l.segments.items ++ segments_at
    (map fields (drop l.header-index l.headers)) l.rest
    ≡ segments_at (map fields l.headers) l.rest_of)
    (counted_octets (map fields (drop l.header-index l.headers)) ≤ length l.rest)
    (array_vec_len l.segments ≡ l.header-index)
