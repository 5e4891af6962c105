-- What is admitted and offered, by the grammar.
use Rattle.std.proofs.Common.{◌≡◌, ◌↔◌, ℕ, zero, suc, ◌<◌, Bool, true, false, cond, not, eqb, List}
use Rattle.std.proofs.Common.{[], ◌∷◌, ◌++◌, Option, Some, None, Result, Ok, Err, refl, sym, ap}
use Rattle.std.proofs.Common.{◌∙◌, subst, arith}
use Rattle.std.specs.List.{AllByRecursion}
use Rattle.std.proofs.lemmas.Bool.{eqb-true, eq-eqb}
use Rattle.st_format.specs.Offer.{Offer}
use Rattle.st_format.specs.Raster.{Segment, offers_in_all}
use Rattle.payload_header.specs.declared.payload.PayloadFault.{PayloadFault}
use Rattle.payload_header.specs.Reading.{payload_walk}
use Rattle.payload_header.proofs.Taken.{payload_takes}
use Rattle.st_format.specs.Device.{AreOctets}
use Rattle.st_format.proofs.Octets.{all_octets}
use Rattle.payload_header.proofs.Again.{payload_again}
use Rattle.rtp_header.specs.declared.header.RtpFault.{RtpFault}
use Rattle.rtp_header.specs.Grammar.{Rtp, fixed_text, IsRtp}
use Rattle.rtp_header.specs.Reading.{rtp_walk}
use Rattle.rtp_header.proofs.Taken.{rtp_takes}
use Rattle.rtp_header.proofs.Again.{rtp_again}
use Rattle.path_receiver.specs.declared.answer.Refusal.{Refusal}
use Rattle.path_receiver.specs.declared.answer.Refusal.TheVariants.{WrongPayloadType, WrongSource}
use Rattle.path_receiver.specs.Opening.{Opening, IsSource}
use Rattle.path_receiver.specs.Grammar.{Datagram, IsDatagram, IsFor, header_with}
use Rattle.path_receiver.specs.Admission.{by_header, by_payload, header_for, is_other}
use Rattle.st_format.specs.Reading.{◌>>=◌}
use Rattle.path_receiver.specs.Admission.{datagram_with, datagram_walk}
use Rattle.path_receiver.specs.Offers.{AreOffersOf, offers, offers_of}

-- ---- the test of the source says what its words say

pub source_from : (pinned : Option ℕ) (ssrc : ℕ) → is_other pinned ssrc ≡ false
    → IsSource pinned ssrc
source_from None ssrc h = tt
source_from (Some p) ssrc h = pinned_from p ssrc (eqb p ssrc) refl h
  where
    pinned_from : (p ssrc : ℕ) (b : Bool) → eqb p ssrc ≡ b → not b ≡ false → p ≡ ssrc
    pinned_from p ssrc true e h = eqb-true p ssrc e
    pinned_from p ssrc false e h = absurd cc

pub source_again : (pinned : Option ℕ) (ssrc : ℕ) → IsSource pinned ssrc
    → is_other pinned ssrc ≡ false
source_again None ssrc h = refl
source_again (Some p) ssrc h = ap not (eq-eqb p ssrc h)

-- ---- what is in the grammar is admitted

abbrev pub by_rtp : Rtp → ℕ × List Segment → Result Datagram Refusal
by_rtp r p = Ok (datagram_with r p)

abbrev numbered : Datagram → ℕ → Datagram
numbered d n =
    record {
      payload_type = d.payload_type;
      number = n;
      timestamp = d.timestamp;
      ssrc =
          d.ssrc;
      marker = d.marker;
      segments = d.segments;
    }

-- A datagram for a receiver is admitted, and says what the grammar reads.
pub admitted_for : (o : Opening) (octets : List ℕ) (d : Datagram) → IsFor octets o d
    → datagram_walk o.format o.payload_type o.ssrc octets ≡ Ok d
unfolding datagram_walk
admitted_for o octets d f =
    let is = f.is in
    let r : Rtp = header_with d is.sequence is.payload in
    let pass : header_for o.payload_type o.ssrc r ≡ Ok r =
    ap (λ (b : Bool). cond (not b) (Err WrongPayloadType)
    (cond (is_other o.ssrc r.ssrc) (Err WrongSource) (Ok r)))
    (eq-eqb d.payload_type o.payload_type f.type_is)
    ∙ ap (λ (b : Bool). cond b (Err WrongSource) (Ok r)) (source_again o.ssrc d.ssrc f.source) in
    ap (λ (x : Result Rtp RtpFault). by_header x >>= λ q. header_for o.payload_type o.ssrc q >>=
    λ w. by_payload (payload_walk o.format w.payload) >>= by_rtp w)
    (rtp_again r octets is.is_header)
    ∙ ap
    (λ (x : Result Rtp Refusal). x >>=
    λ w. by_payload (payload_walk o.format w.payload) >>= by_rtp w) pass
    ∙ ap (λ (x : Result (ℕ × List Segment) PayloadFault). by_payload x >>= by_rtp r)
    (payload_again o.format is.extended d.segments is.payload is.is_payload)
    ∙ ap (λ (n : ℕ). Ok (numbered d n)) is.number_is

abbrev admitted : Datagram → Result Datagram Refusal
admitted d = Ok d

same_admitted : (d e : Datagram) → admitted d ≡ admitted e → d ≡ e
same_admitted d e h = cc

-- Octets say one thing at most to a receiver.
pub reading_is_one : (o : Opening) (octets : List ℕ) (d e : Datagram) → IsFor octets o d
    → IsFor octets o e → d ≡ e
reading_is_one o octets d e f g =
    same_admitted d e (sym (admitted_for o octets d f) ∙ admitted_for o octets e g)

-- ---- what is admitted is in the grammar

bytes_of : (bs : List ℕ) → AllByRecursion (λ v. v < 256) bs → AreOctets bs
bytes_of [] h i = omega arith
bytes_of (b ∷ bs) h zero = h.0
bytes_of (b ∷ bs) h (suc i) = bytes_of bs h.1 i

abbrev Fits : ℕ → Type 0
Fits v = v < 256

all_left : (xs ys : List ℕ) → AllByRecursion Fits (xs ++ ys) → AllByRecursion Fits xs
all_left [] ys h = tt
all_left (x ∷ xs) ys h = (h.0, all_left xs ys h.1)

all_right : (xs ys : List ℕ) → AllByRecursion Fits (xs ++ ys) → AllByRecursion Fits ys
all_right [] ys h = h
all_right (x ∷ xs) ys h = all_right xs ys h.1

-- the payload's are octets too
pub payload_octets : (r : Rtp) (octets : List ℕ) → AreOctets octets → IsRtp octets r
    → AreOctets r.payload
payload_octets r octets fit is =
    let whole = subst (λ (x : List ℕ). AllByRecursion Fits x) is.whole (all_octets octets fit) in
    let a =
    all_right (fixed_text is.flags r)
    (is.source_list ++ (is.extension ++ (r.payload ++ is.padding))) whole in
    let b = all_right is.source_list (is.extension ++ (r.payload ++ is.padding)) a in
    let c = all_right is.extension (r.payload ++ is.padding) b in
    bytes_of r.payload (all_left r.payload is.padding c)

same_ok : {X : Type 0} (x y : X) → (let r : Result X Refusal = Ok x in r ≡ Ok y) → x ≡ y
same_ok x y h = cc

takes_payload : (o : Opening) (octets : List ℕ) (r : Rtp)
    (p : Result (ℕ × List Segment) PayloadFault) (d : Datagram) → IsRtp octets r
    → AreOctets r.payload → r.payload_type ≡ o.payload_type → is_other o.ssrc r.ssrc ≡ false
    → payload_walk o.format r.payload ≡ p → (by_payload p >>= by_rtp r) ≡ Ok d → IsFor octets o d
takes_payload o octets r (Err e) d is bytes pt source read h = absurd cc
takes_payload o octets r (Ok p) d is bytes pt source read h =
    let one : IsDatagram octets o.format (datagram_with r p) = record {
      sequence = r.sequence;
      extended = p.0;
      payload = r.payload;
      is_header = is;
      is_payload = payload_takes o.format r.payload p bytes read;
      number_is = refl;
    } in
    subst (λ (x : Datagram). IsFor octets o x) (same_ok (datagram_with r p) d h)
    (record { is = one; type_is = pt; source = source_from o.ssrc r.ssrc source })

takes_checked : (o : Opening) (octets : List ℕ) (r : Rtp) (t s : Bool) (d : Datagram)
    → IsRtp octets r → AreOctets r.payload → eqb r.payload_type o.payload_type ≡ t
    → is_other o.ssrc r.ssrc ≡ s
    → (cond (not t) (Err WrongPayloadType) (cond s (Err WrongSource) (Ok r)) >>=
    λ w. by_payload (payload_walk o.format w.payload) >>= by_rtp w) ≡ Ok d → IsFor octets o d
takes_checked o octets r false s d is bytes e f h = absurd cc
takes_checked o octets r true true d is bytes e f h = absurd cc
takes_checked o octets r true false d is bytes e f h =
    takes_payload o octets r (payload_walk o.format r.payload) d is bytes
    (eqb-true r.payload_type o.payload_type e) f refl h

takes_read : (o : Opening) (octets : List ℕ) (x : Result Rtp RtpFault) (d : Datagram)
    → AreOctets octets → rtp_walk octets ≡ x
    → (by_header x >>= λ q. header_for o.payload_type o.ssrc q >>=
    λ w. by_payload (payload_walk o.format w.payload) >>= by_rtp w) ≡ Ok d → IsFor octets o d
takes_read o octets (Err e) d fit read h = absurd cc
takes_read o octets (Ok r) d fit read h =
    let is : IsRtp octets r = rtp_takes octets r fit read in
    takes_checked o octets r (eqb r.payload_type o.payload_type) (is_other o.ssrc r.ssrc) d is
    (payload_octets r octets fit is) refl refl h

-- What is admitted is a datagram for the receiver.
pub admitted_takes : (o : Opening) (octets : List ℕ) (d : Datagram) → AreOctets octets
    → datagram_walk o.format o.payload_type o.ssrc octets ≡ Ok d → IsFor octets o d
unfolding datagram_walk
admitted_takes o octets d fit h = takes_read o octets (rtp_walk octets) d fit refl h

-- ---- offers

pub offers-for : (o : Opening) (octets : List ℕ) (d : Datagram) → IsFor octets o d
    → offers o octets ≡ offers_in_all o.format d.timestamp d.segments
offers-for o octets d f = ap (offers_of o.format) (admitted_for o octets d f)

nothing_at : (o : Opening) (octets : List ℕ) (x : Result Datagram Refusal) → AreOctets octets
    → datagram_walk o.format o.payload_type o.ssrc octets ≡ x
    → ((d : Datagram) → IsFor octets o d → ⊥) → offers_of o.format x ≡ []
nothing_at o octets (Err e) fit read none = refl
nothing_at o octets (Ok d) fit read none = absurd (none d (admitted_takes o octets d fit read))

pub offers-none : (o : Opening) (octets : List ℕ) → AreOctets octets
    → ((d : Datagram) → IsFor octets o d → ⊥) → offers o octets ≡ []
offers-none o octets fit none =
    nothing_at o octets (datagram_walk o.format o.payload_type o.ssrc octets) fit refl none

-- ---- the relation

ok_not_err : (d : Datagram) (e : Refusal) → admitted d ≡ Err e → ⊥
ok_not_err d e h = cc

exact_at : (o : Opening) (octets : List ℕ) (x : Result Datagram Refusal) (offered : List Offer)
    → AreOctets octets → datagram_walk o.format o.payload_type o.ssrc octets ≡ x
    → AreOffersOf offered octets o → offered ≡ offers_of o.format x
exact_at o octets (Ok d) offered fit read are = are.datagram d (admitted_takes o octets d fit read)
exact_at o octets (Err e) offered fit read are =
    are.nothing (λ d f. ok_not_err d e (sym (admitted_for o octets d f) ∙ read))

-- What octets offer is the one list that the grammar says.
pub offers-exact : (o : Opening) (octets : List ℕ) (offered : List Offer) → AreOctets octets
    → (offered ≡ offers o octets) ↔ AreOffersOf offered octets o
offers-exact o octets offered fit = (
  λ same. record {
    datagram = λ d f. same ∙ offers-for o octets d f;
    nothing = λ none. same ∙ offers-none o octets fit none;
  },
  λ are. exact_at o octets
      (datagram_walk o.format o.payload_type o.ssrc octets) offered fit refl are,
)
