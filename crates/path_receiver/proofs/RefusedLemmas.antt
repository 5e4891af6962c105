-- Which refusal is told: exactly the one whose condition holds.
use Rattle.std.proofs.Common.{◌≡◌, ℕ, ◌↔◌, ◌⊎◌, inl, inr, Bool, true, false, cond, not, eqb, List}
use Rattle.std.proofs.Common.{Option, Some, None, Result, Ok, Err, refl, sym, ap, ◌∙◌, subst}
use Rattle.std.proofs.lemmas.Bool.{eqb-true, eqb-false, eq-eqb, ne_eqb, false≢true}
use Rattle.st_format.specs.Raster.{Segment}
use Rattle.payload_header.specs.declared.payload.PayloadFault.{PayloadFault}
use Rattle.payload_header.specs.Reading.{payload_walk}
use Rattle.payload_header.proofs.Both.{is_fault_exactly}
use Rattle.rtp_header.specs.declared.header.RtpFault.{RtpFault}
use Rattle.rtp_header.specs.Grammar.{Rtp, IsRtp}
use Rattle.st_format.specs.Device.{AreOctets}
use Rattle.rtp_header.specs.Reading.{rtp_walk}
use Rattle.rtp_header.proofs.Again.{rtp_again}
use Rattle.rtp_header.proofs.Faulted.{rtp_faulted}
use Rattle.rtp_header.proofs.Taken.{rtp_takes}
use Rattle.path_receiver.specs.declared.answer.Refusal.{Refusal}
use Rattle.path_receiver.specs.declared.answer.Refusal.TheVariants.{Header, WrongPayloadType}
use Rattle.path_receiver.specs.declared.answer.Refusal.TheVariants.{WrongSource, Payload}
use Rattle.path_receiver.specs.declared.answer.Taken.{Taken}
use Rattle.path_receiver.specs.Opening.{Opening, IsSource}
use Rattle.path_receiver.specs.Grammar.{Datagram, IsFor}
use Rattle.path_receiver.specs.Refused.{IsRefusedDatagram, HasOtherType, HasOtherSource, HasBadPayload}
use Rattle.path_receiver.specs.Admission.{by_header, by_payload, header_for, is_other}
use Rattle.st_format.specs.Reading.{◌>>=◌}
use Rattle.path_receiver.specs.Admission.{datagram_walk}
use Rattle.path_receiver.specs.Answers.{kept_or_outside, taken_at}
use Rattle.path_receiver.proofs.Offered.{admitted_for, admitted_takes, by_rtp, payload_octets}
use Rattle.path_receiver.proofs.Offered.{source_again, source_from}

abbrev refused : Refusal → Result Datagram Refusal
refused e = Err e

abbrev read_rest : Opening → Rtp → Result Datagram Refusal
read_rest o r = by_payload (payload_walk o.format r.payload) >>= by_rtp r

same_err : (d e : Refusal) → refused d ≡ refused e → d ≡ e
same_err d e h = cc

-- another source than the one that is pinned
other_from : (pinned : Option ℕ) (ssrc : ℕ) → (IsSource pinned ssrc → ⊥)
    → is_other pinned ssrc ≡ true
other_from None ssrc ne = absurd (ne tt)
other_from (Some p) ssrc ne = ap not (ne_eqb p ssrc ne)

-- ---- a refusal that is told holds

from_payload : (o : Opening) (octets : List ℕ) (r : Rtp)
    (p : Result (ℕ × List Segment) PayloadFault) (e : Refusal) → AreOctets octets → IsRtp octets r
    → r.payload_type ≡ o.payload_type → is_other o.ssrc r.ssrc ≡ false
    → payload_walk o.format r.payload ≡ p → (by_payload p >>= by_rtp r) ≡ Err e
    → IsRefusedDatagram octets o e
from_payload o octets r (Ok p) e fit is pt source read h = absurd cc
from_payload o octets r (Err d) e fit is pt source read h =
    let has : HasBadPayload octets o d = record {
      header = r;
      is_header = is;
      type_is = pt;
      source = source_from o.ssrc r.ssrc source;
      is_refused = (is_fault_exactly o.format r.payload d (payload_octets r octets fit is)).0 read;
    } in
    subst (λ (x : Refusal). IsRefusedDatagram octets o x) (same_err (Payload d) e h) has

from_checked : (o : Opening) (octets : List ℕ) (r : Rtp) (t s : Bool) (e : Refusal)
    → AreOctets octets → IsRtp octets r → eqb r.payload_type o.payload_type ≡ t
    → is_other o.ssrc r.ssrc ≡ s
    → (cond (not t) (Err WrongPayloadType) (cond s (Err WrongSource) (Ok r)) >>= read_rest o)
    ≡ Err e → IsRefusedDatagram octets o e
from_checked o octets r false s e fit is type other h =
    let has : HasOtherType octets o =
    record {
      header = r;
      is_header = is;
      other =
          eqb-false r.payload_type o.payload_type type;
    } in
    subst (λ (x : Refusal). IsRefusedDatagram octets o x) (same_err WrongPayloadType e h) has
from_checked o octets r true true e fit is type other h =
    let has : HasOtherSource octets o = record {
      header = r;
      is_header = is;
      type_is = eqb-true r.payload_type o.payload_type type;
      other = λ same. false≢true (sym (source_again o.ssrc r.ssrc same) ∙ other);
    } in
    subst (λ (x : Refusal). IsRefusedDatagram octets o x) (same_err WrongSource e h) has
from_checked o octets r true false e fit is type other h =
    from_payload o octets r (payload_walk o.format r.payload) e fit is
    (eqb-true r.payload_type o.payload_type type) other refl h

from_header : (o : Opening) (octets : List ℕ) (x : Result Rtp RtpFault) (e : Refusal)
    → AreOctets octets → rtp_walk octets ≡ x
    → (by_header x >>= λ q. header_for o.payload_type o.ssrc q >>= read_rest o) ≡ Err e
    → IsRefusedDatagram octets o e
from_header o octets (Err d) e fit read h =
    subst (λ (x : Refusal). IsRefusedDatagram octets o x) (same_err (Header d) e h)
    ((rtp_faulted d octets).0 read)
from_header o octets (Ok r) e fit read h =
    from_checked o octets r (eqb r.payload_type o.payload_type) (is_other o.ssrc r.ssrc) e fit
    (rtp_takes octets r fit read) refl refl h

pub refused_from : (o : Opening) (octets : List ℕ) (e : Refusal) → AreOctets octets
    → datagram_walk o.format o.payload_type o.ssrc octets ≡ Err e → IsRefusedDatagram octets o e
unfolding datagram_walk
refused_from o octets e fit h = from_header o octets (rtp_walk octets) e fit refl h

-- ---- a refusal that holds is told

header_read : (o : Opening) (octets : List ℕ) (x : Result Rtp RtpFault) → rtp_walk octets ≡ x
    → datagram_walk o.format o.payload_type o.ssrc octets
    ≡ (by_header x >>= λ q. header_for o.payload_type o.ssrc q >>= read_rest o)
unfolding datagram_walk
header_read o octets x read =
    ap (λ (y : Result Rtp RtpFault). by_header y >>=
    λ q. header_for o.payload_type o.ssrc q >>= read_rest o) read

pub refused_back : (o : Opening) (octets : List ℕ) (e : Refusal) → AreOctets octets
    → IsRefusedDatagram octets o e → datagram_walk o.format o.payload_type o.ssrc octets ≡ Err e
refused_back o octets (Header d) fit has =
    header_read o octets (Err d) ((rtp_faulted d octets).1 has)
refused_back o octets WrongPayloadType fit has =
    let r : Rtp = has.header in
    header_read o octets (Ok r) (rtp_again r octets has.is_header)
    ∙ ap
    (λ (b : Bool). cond (not b) (Err WrongPayloadType)
    (cond (is_other o.ssrc r.ssrc) (Err WrongSource) (Ok r)) >>= read_rest o)
    (ne_eqb r.payload_type o.payload_type has.other)
refused_back o octets WrongSource fit has =
    let r : Rtp = has.header in
    header_read o octets (Ok r) (rtp_again r octets has.is_header)
    ∙ ap
    (λ (b : Bool). cond (not b) (Err WrongPayloadType)
    (cond (is_other o.ssrc r.ssrc) (Err WrongSource) (Ok r)) >>= read_rest o)
    (eq-eqb r.payload_type o.payload_type has.type_is)
    ∙ ap (λ (b : Bool). cond b (Err WrongSource) (Ok r) >>= read_rest o)
    (other_from o.ssrc r.ssrc has.other)
refused_back o octets (Payload d) fit has =
    let r : Rtp = has.header in
    header_read o octets (Ok r) (rtp_again r octets has.is_header)
    ∙ ap
    (λ (b : Bool). cond (not b) (Err WrongPayloadType)
    (cond (is_other o.ssrc r.ssrc) (Err WrongSource) (Ok r)) >>= read_rest o)
    (eq-eqb r.payload_type o.payload_type has.type_is)
    ∙ ap (λ (b : Bool). cond b (Err WrongSource) (Ok r) >>= read_rest o)
    (source_again o.ssrc r.ssrc has.source)
    ∙ ap (λ (p : Result (ℕ × List Segment) PayloadFault). by_payload p >>= by_rtp r)
    ((is_fault_exactly o.format r.payload d
    (payload_octets r octets fit has.is_header)).1 has.is_refused)

-- ---- and so the answer of take

answer_err : (o : Opening) (x : Result Datagram Refusal) (e : Refusal)
    → (x >>= λ d. Ok (kept_or_outside o.window d)) ≡ Err e → x ≡ Err e
answer_err o (Ok d) e h = absurd cc
answer_err o (Err d) e h = ap refused (err_is d e h)
  where
    err_is : (d e : Refusal) → (let r : Result Taken Refusal = Err d in r ≡ Err e) → d ≡ e
    err_is d e h = cc

pub refusal_iff : (o : Opening) (octets : List ℕ) (r : Result Taken Refusal) → AreOctets octets
    → r ≡ taken_at o octets → (e : Refusal) → (r ≡ Err e) ↔ IsRefusedDatagram octets o e
refusal_iff o octets r fit is e = (
  λ h. refused_from o octets e fit
      (answer_err o (datagram_walk o.format o.payload_type o.ssrc octets) e (sym is ∙ h)),
  λ has. is
      ∙ ap (λ (x : Result Datagram Refusal). x >>= λ d. Ok (kept_or_outside o.window d))
      (refused_back o octets e fit has),
)

-- ---- one or the other

some_at : (o : Opening) (octets : List ℕ) (x : Result Datagram Refusal) → AreOctets octets
    → datagram_walk o.format o.payload_type o.ssrc octets ≡ x
    → ((d : Datagram) × IsFor octets o d) ⊎ ((e : Refusal) × IsRefusedDatagram octets o e)
some_at o octets (Ok d) fit read = inl (d, admitted_takes o octets d fit read)
some_at o octets (Err e) fit read = inr (e, refused_from o octets e fit read)

pub datagram_or_refused : (o : Opening) (octets : List ℕ) → AreOctets octets
    → ((d : Datagram) × IsFor octets o d) ⊎ ((e : Refusal) × IsRefusedDatagram octets o e)
datagram_or_refused o octets fit =
    some_at o octets (datagram_walk o.format o.payload_type o.ssrc octets) fit refl

abbrev read_as : Datagram → Result Datagram Refusal
read_as d = Ok d

apart_at : (d : Datagram) (e : Refusal) → read_as d ≡ refused e → ⊥
apart_at d e h = cc

pub datagram_not_refused : (o : Opening) (octets : List ℕ) (d : Datagram) (e : Refusal)
    → AreOctets octets → IsFor octets o d → IsRefusedDatagram octets o e → ⊥
datagram_not_refused o octets d e fit f has =
    apart_at d e (sym (admitted_for o octets d f) ∙ refused_back o octets e fit has)

pub refusal_is_one : (o : Opening) (octets : List ℕ) (d e : Refusal) → AreOctets octets
    → IsRefusedDatagram octets o d → IsRefusedDatagram octets o e → d ≡ e
refusal_is_one o octets d e fit a b =
    same_err d e (sym (refused_back o octets d fit a) ∙ refused_back o octets e fit b)
