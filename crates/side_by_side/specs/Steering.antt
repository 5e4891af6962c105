-- What steers files that are read side by side (own).
use Rattle.std.specs.Prelude.{ℕ, List, Option, None, Some, Result, Ok, Err}
use Rattle.path_receiver.specs.Admission.{by_header, header_for}
use Rattle.path_receiver.specs.declared.answer.Refusal.{Refusal}
use Rattle.rtp_header.specs.Grammar.{Rtp}
use Rattle.rtp_header.specs.Reading.{rtp_walk}
use Rattle.st_format.specs.Reading.{◌>>=◌}
use Rattle.side_by_side.specs.declared.steering.Steering.{Steering}

-- the timestamp of a header that was read, and none of what is refused
abbrev pub stamp_by : Result Rtp Refusal → Option ℕ
stamp_by (Ok rtp) = Some rtp.timestamp
stamp_by (Err refusal) = None

-- The timestamp by which a datagram goes: one that has a header (RFC 3550, 5.1) with the payload
-- type of the stream, and its source, where one is pinned. None of any other.
unfoldable pub stamp_of : Steering → List ℕ → Option ℕ
stamp_of s octets = stamp_by (by_header (rtp_walk octets) >>= header_for s.payload_type s.ssrc)
