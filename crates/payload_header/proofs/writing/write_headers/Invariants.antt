use Rattle.std.proofs.Common.{◌≡◌, ◌+◌, ◌*◌, ◌++◌, length, take}
use Rattle.std.specs.List.{AllByRecursion, flat_map}
use Rattle.payload_header.specs.Payload.{header_text}
use Rattle.payload_header.specs.Writing.{HeadFits, headers_of_heads}
use Rattle.payload_header.proofs.writing.write_headers.Given as goal

pub record Front (so_far place size all : Type 0) : Type 0 where
  pub written : so_far
  pub end : place
  pub long : size
  pub fields : all

abbrev pub invariant-loop-rest : goal.invariant-loop-rest
invariant-loop-rest l =
    Front (take l.at l.buf ++ flat_map header_text (headers_of_heads l.rest)
    ≡ flat_map header_text (headers_of_heads l.heads))
    (l.at + 6 * length l.rest ≡ 6 * length l.heads)
    (length l.buf ≡ length l.initial.buf)
    (AllByRecursion HeadFits l.rest)

abbrev pub decreases-loop-rest : goal.decreases-loop-rest
decreases-loop-rest l = length l.rest
