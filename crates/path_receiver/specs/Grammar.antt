-- The grammar of whole datagrams. RFC 3550, 5.1; RFC 4175, 4
use Rattle.std.specs.Prelude.{◌≡◌, ℕ, ◌+◌, ◌*◌, Bool, List}
use Rattle.st_format.specs.declared.format.Format.{Format}
use Rattle.st_format.specs.Member.{IsMember}
use Rattle.st_format.specs.Raster.{Segment}
use Rattle.payload_header.specs.Payload.{IsPayload}
use Rattle.rtp_header.specs.Grammar.{Rtp, IsRtp}
use Rattle.path_receiver.specs.Opening.{Opening, IsSource}

-- What a datagram says: the fields of its RTP header, its packet number, and its segments of rows
pub record Datagram : Type 0 where
  pub payload_type : ℕ
  pub number : ℕ
  pub timestamp : ℕ
  pub ssrc : ℕ
  pub marker : Bool
  pub segments : List Segment

-- its RTP header, with a sequence number and a payload. RFC 3550, 5.1
abbrev pub header_with : Datagram → ℕ → List ℕ → Rtp
header_with d sequence payload = record {
  marker = d.marker;
  payload_type = d.payload_type;
  sequence = sequence;
  timestamp = d.timestamp;
  ssrc = d.ssrc;
  payload = payload;
}

-- Grammar: octets are a datagram of this format that says d. They are an RTP header of d's fields,
-- and behind all headers a payload of d's segments; the packet number is 65536 times the payload's
-- extended number plus the header's sequence number. RFC 3550, 5.1; RFC 4175, 4.1 and 4.2
pub record IsDatagram (octets : List ℕ) (f : Format) (d : Datagram) : Type 0 where
  pub sequence : ℕ
  pub extended : ℕ
  pub payload : List ℕ
  pub is_header : IsRtp octets (header_with d sequence payload)
  pub is_payload : IsPayload payload f extended d.segments
  pub number_is : 65536 * extended + sequence ≡ d.number

-- Such a datagram is for a receiver where it has the receiver's payload type, and its source where
-- one is pinned. RFC 3550, 5.1
pub record IsFor (octets : List ℕ) (o : Opening) (d : Datagram) : Type 0 where
  pub is : IsDatagram octets o.format d
  pub type_is : d.payload_type ≡ o.payload_type
  pub source : IsSource o.ssrc d.ssrc

-- Octets that a receiver keeps: a datagram for it, of a timestamp of its window and of this number
-- (own)
pub record IsKept (octets : List ℕ) (o : Opening) (number : ℕ) : Type 0 where
  pub datagram : Datagram
  pub is_for : IsFor octets o datagram
  pub inside : IsMember datagram.timestamp o.window
  pub number_is : datagram.number ≡ number

-- Octets that only the window keeps out: a datagram for the receiver, of another timestamp (own)
pub record IsOutside (octets : List ℕ) (o : Opening) : Type 0 where
  pub datagram : Datagram
  pub is_for : IsFor octets o datagram
  pub outside : IsMember datagram.timestamp o.window → ⊥
