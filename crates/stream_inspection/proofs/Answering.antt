-- What a datagram is, by its header.
use Rattle.std.proofs.Common.{◌≡◌, ◌∙◌, ℕ, List, Result, Ok, Err, None, Some, refl, ap, sym}
use Rattle.st_format.specs.declared.path.Path.{Path}
use Rattle.st_format.specs.Reading.{◌>>=◌}
use Rattle.rtp_header.specs.Grammar.{Rtp}
use Rattle.rtp_header.specs.Reading.{rtp_walk}
use Rattle.rtp_header.specs.declared.header.RtpFault.{RtpFault}
use Rattle.path_receiver.specs.Admission.{by_header, by_payload, datagram_walk, datagram_with}
use Rattle.path_receiver.specs.Admission.{header_for}
use Rattle.path_receiver.specs.declared.answer.Refusal.{Refusal}
use Rattle.path_receiver.specs.declared.answer.Refusal.TheVariants.{Header}
use Rattle.path_receiver.specs.declared.answer.Taken.{Taken}
use Rattle.path_receiver.specs.declared.answer.Taken.TheVariants.{Kept}
use Rattle.payload_header.specs.Reading.{payload_walk}
use Rattle.stream_inspection.specs.Arrivals.{Looks, answer_at, answer_by, packet_by, packet_of}
use Rattle.stream_inspection.specs.declared.looking.Look.{Look}
use Rattle.stream_inspection.specs.declared.target.Target.{Target}

-- the answer by what reading the header gave
abbrev answer_from : Target → Result Rtp RtpFault → Result Taken Refusal
answer_from t read =
    (by_header read
    >>= λ header. header_for t.payload_type None header
    >>= λ own. by_payload (payload_walk t.format own.payload)
    >>= λ payload. Ok (datagram_with own payload))
    >>= λ d. Ok (Kept d.number)

answered : (t : Target) (octets : List ℕ) → answer_at t octets ≡ answer_from t (rtp_walk octets)
unfolding datagram_walk rtp_walk
answered t octets = refl

from_ok : (t : Target) (rtp : Rtp) → answer_from t (Ok rtp) ≡ answer_by t rtp
from_ok t rtp = refl

-- a header that is at fault
pub looks_wrong : (t : Target) (path : Path) (octets : List ℕ) (f : RtpFault) (look : Look)
    → rtp_walk octets ≡ Err f → look.answer ≡ Err (Header f) → look.packet ≡ None
    → Looks t path octets look
looks_wrong t path octets f look e answer packet = record {
  answer = answer ∙ sym (answered t octets ∙ ap (answer_from t) e);
  packet = packet ∙ sym (ap (packet_by t path) e);
}

-- a header that was read
pub looks_right : (t : Target) (path : Path) (octets : List ℕ) (rtp : Rtp) (look : Look)
    → rtp_walk octets ≡ Ok rtp → look.answer ≡ answer_by t rtp
    → look.packet ≡ Some (packet_of t path rtp) → Looks t path octets look
looks_right t path octets rtp look e answer packet = record {
  answer = answer ∙ sym (answered t octets ∙ ap (answer_from t) e ∙ from_ok t rtp);
  packet = packet ∙ sym (ap (packet_by t path) e);
}
