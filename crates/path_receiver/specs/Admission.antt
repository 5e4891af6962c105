-- A walk over a datagram from the left, as the code walks, which tells the first refusal: the order
-- of refusals is the order of the steps. What a datagram is says Grammar, and which octets are
-- refused says Refused; laws join the three, so nobody has to believe the walk.
use Rattle.std.specs.Prelude.{ℕ, ◌+◌, ◌*◌, Bool, false, not, ◌==◌, if◌then◌else◌, List, Option}
use Rattle.std.specs.Prelude.{Some, None, Result, Ok, Err}
use Rattle.st_format.specs.declared.format.Format.{Format}
use Rattle.st_format.specs.Raster.{Segment}
use Rattle.st_format.specs.Reading.{◌>>=◌}
use Rattle.payload_header.specs.declared.payload.PayloadFault.{PayloadFault}
use Rattle.payload_header.specs.Reading.{payload_walk}
use Rattle.payload_header.specs.View.{segments_of}
use Rattle.rtp_header.specs.declared.header.RtpFault.{RtpFault}
use Rattle.rtp_header.specs.Grammar.{Rtp}
use Rattle.rtp_header.specs.Reading.{rtp_walk}
use Rattle.path_receiver.specs.declared.answer.Refusal.{Refusal}
use Rattle.path_receiver.specs.declared.answer.Refusal.TheVariants.{Header, WrongPayloadType}
use Rattle.path_receiver.specs.declared.answer.Refusal.TheVariants.{WrongSource, Payload}
use Rattle.path_receiver.specs.declared.admitting.Admitted.{Admitted}
use Rattle.path_receiver.specs.Grammar.{Datagram}

-- a fault of the header is refusal 1 to 4
abbrev pub by_header : {A : Type 0} → Result A RtpFault → Result A Refusal
by_header (Ok x) = Ok x
by_header (Err e) = Err (Header e)

-- a fault of the payload is refusal 7 to 14
abbrev pub by_payload : {A : Type 0} → Result A PayloadFault → Result A Refusal
by_payload (Ok x) = Ok x
by_payload (Err e) = Err (Payload e)

-- whether a source is pinned, and another than this
abbrev pub is_other : Option ℕ → ℕ → Bool
is_other None ssrc = false
is_other (Some pinned) ssrc = not (pinned == ssrc)

-- the header where it has the payload type, and then the source
abbrev pub header_for : ℕ → Option ℕ → Rtp → Result Rtp Refusal
header_for payload_type ssrc rtp =
    if not (rtp.payload_type == payload_type) then Err WrongPayloadType else
    (if is_other ssrc rtp.ssrc then Err WrongSource else Ok rtp)

-- a header and a payload's extended number and segments as one datagram. RFC 4175, 4.1
abbrev pub datagram_with : Rtp → ℕ × List Segment → Datagram
datagram_with rtp payload = record {
  payload_type = rtp.payload_type;
  number = 65536 * payload.0 + rtp.sequence;
  timestamp = rtp.timestamp;
  ssrc = rtp.ssrc;
  marker = rtp.marker;
  segments = payload.1;
}

-- The walk: what octets say to a receiver of this format, payload type and pinned source, or the
-- first refusal.
unfoldable pub datagram_walk : Format → ℕ → Option ℕ → List ℕ → Result Datagram Refusal
datagram_walk format payload_type ssrc octets = do
  read ← by_header (rtp_walk octets)
  rtp ← header_for payload_type ssrc read
  payload ← by_payload (payload_walk format rtp.payload)
  Ok (datagram_with rtp payload)

-- what the code keeps of a datagram that it admits
abbrev pub datagram_of : Admitted → Datagram
datagram_of a = record {
  payload_type = a.header.payload_type;
  number = 65536 * a.payload.extended + a.header.sequence;
  timestamp = a.header.timestamp;
  ssrc = a.header.ssrc;
  marker = a.header.marker;
  segments = segments_of a.payload;
}
