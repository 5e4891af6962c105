use Rattle.std.proofs.Common.{◌≡◌, ◌-◌, map}
use Rattle.arrayvec.specs.ArrayVec.{array_vec_len}
use Rattle.payload_header.specs.Reading.{fields, headers_at}
use Rattle.payload_header.proofs.HeaderLists.{with_front}
use Rattle.payload_header.proofs.reading.headers_of.Given as goal

pub record Front (so_far count : Type 0) : Type 0 where
  pub reads : so_far
  pub as_many : count

abbrev pub invariant-loop : goal.invariant-loop
invariant-loop l =
    Front (with_front (map fields l.headers.items) (headers_at (3 - l.counter) l.rest)
    ≡ headers_at 3 l.octets) (array_vec_len l.headers ≡ l.counter)
