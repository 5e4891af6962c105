-- Where a refusal stands among all.
use Rattle.std.proofs.Common.{◌≡◌, ℕ, ◌+◌, get_or, refl, arith}
use Rattle.payload_header.specs.declared.payload.PayloadFault.{PayloadFault}
use Rattle.payload_header.specs.declared.payload.PayloadFault.TheVariants as payload
use Rattle.rtp_header.specs.declared.header.RtpFault.{RtpFault}
use Rattle.rtp_header.specs.declared.header.RtpFault.TheVariants as rtp
use Rattle.path_receiver.specs.Answers.{all_refusals, refusal_number}
use Rattle.path_receiver.specs.Tallied.{slot_of}
use Rattle.path_receiver.specs.declared.answer.Refusal.{Refusal}
use Rattle.path_receiver.specs.declared.answer.Refusal.TheVariants.{Header, WrongPayloadType}
use Rattle.path_receiver.specs.declared.answer.Refusal.TheVariants.{WrongSource, Payload}

at_header : (e : RtpFault) → Header e ≡ get_or all_refusals (slot_of (Header e)) (Header e)
at_header rtp.ShortHeader = refl
at_header rtp.BadVersion = refl
at_header rtp.ShortExtension = refl
at_header rtp.BadPadding = refl

at_payload : (e : PayloadFault) → Payload e ≡ get_or all_refusals (slot_of (Payload e)) (Payload e)
at_payload payload.ShortPayloadHeader = refl
at_payload payload.TooManySegments = refl
at_payload payload.SecondField = refl
at_payload payload.BadLength = refl
at_payload payload.BadOffset = refl
at_payload payload.RowOutside = refl
at_payload payload.ColumnsOutside = refl
at_payload payload.ShortData = refl

pub at_place : (e : Refusal) → e ≡ get_or all_refusals (slot_of e) e
at_place (Header f) = at_header f
at_place WrongPayloadType = refl
at_place WrongSource = refl
at_place (Payload f) = at_payload f

pub place_is : (e : Refusal) (i : ℕ) → refusal_number e ≡ i + 1 → slot_of e ≡ i
place_is e i is = omega (arith, is)
