-- Why octets are refused: one condition for each refusal, over the whole octets.
use Rattle.std.specs.Prelude.{◌≡◌, ◌≢◌, List, ℕ}
use Rattle.payload_header.specs.declared.payload.PayloadFault.{PayloadFault}
use Rattle.payload_header.specs.Faults.{IsRefusedPayload}
use Rattle.rtp_header.specs.Faults.{HasRtpFault}
use Rattle.rtp_header.specs.Grammar.{Rtp, IsRtp}
use Rattle.path_receiver.specs.declared.answer.Refusal.{Refusal}
use Rattle.path_receiver.specs.declared.answer.Refusal.TheVariants.{Header, WrongPayloadType}
use Rattle.path_receiver.specs.declared.answer.Refusal.TheVariants.{WrongSource, Payload}
use Rattle.path_receiver.specs.Opening.{Opening, IsSource}

-- The octets are an RTP datagram of another payload type. RFC 3550, 5.1
pub record HasOtherType (octets : List ℕ) (o : Opening) : Type 0 where
  pub header : Rtp
  pub is_header : IsRtp octets header
  pub other : header.payload_type ≢ o.payload_type

-- They are one of the receiver's payload type, but not of the source that is pinned. RFC 3550, 5.1
pub record HasOtherSource (octets : List ℕ) (o : Opening) : Type 0 where
  pub header : Rtp
  pub is_header : IsRtp octets header
  pub type_is : header.payload_type ≡ o.payload_type
  pub other : IsSource o.ssrc header.ssrc → ⊥

-- They are one of the receiver's payload type and source, whose payload has this fault. RFC 4175, 4
pub record HasBadPayload (octets : List ℕ) (o : Opening) (fault : PayloadFault) : Type 0 where
  pub header : Rtp
  pub is_header : IsRtp octets header
  pub type_is : header.payload_type ≡ o.payload_type
  pub source : IsSource o.ssrc header.ssrc
  pub is_refused : IsRefusedPayload header.payload o.format fault

-- Why octets are refused. Each condition says that no earlier one holds.
abbrev pub IsRefusedDatagram : List ℕ → Opening → Refusal → Type 0
IsRefusedDatagram octets o (Header fault) = HasRtpFault octets fault
IsRefusedDatagram octets o WrongPayloadType = HasOtherType octets o
IsRefusedDatagram octets o WrongSource = HasOtherSource octets o
IsRefusedDatagram octets o (Payload fault) = HasBadPayload octets o fault
