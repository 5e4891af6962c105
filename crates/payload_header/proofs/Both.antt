-- What the two directions of reading give together.
use Rattle.std.proofs.Common.{◌≡◌, ℕ, ◌⊎◌, ◌↔◌, inl, inr, List, Result, Ok, Err, refl, sym, ap, ◌∙◌}
use Rattle.st_format.specs.declared.format.Format.{Format}
use Rattle.st_format.specs.Raster.{Segment}
use Rattle.payload_header.specs.declared.payload.PayloadFault.{PayloadFault}
use Rattle.payload_header.specs.Payload.{IsPayload}
use Rattle.payload_header.specs.Reading.{payload_walk}
use Rattle.st_format.specs.Device.{AreOctets}
use Rattle.payload_header.specs.Faults.{IsRefusedPayload}
use Rattle.payload_header.proofs.Taken.{payload_takes}
use Rattle.payload_header.proofs.Again.{payload_again}
use Rattle.payload_header.proofs.Refused.{payload_refused, refused_payload}

abbrev Whole : Type 0
Whole = Result (ℕ × List Segment) PayloadFault

abbrev whole : ℕ → List Segment → Whole
whole e ss = Ok (e, ss)

abbrev failed : PayloadFault → Whole
failed fault = Err fault

abbrev read_of : ℕ × List Segment → Whole
read_of x = Ok x

same_read : (x y : ℕ × List Segment) → read_of x ≡ read_of y → x ≡ y
same_read x y h = cc

same_whole : (d e : ℕ) (ss ts : List Segment) → whole d ss ≡ whole e ts → (d ≡ e) × (ss ≡ ts)
same_whole d e ss ts h =
    let pair : (d, ss) ≡ (e, ts) = same_read (d, ss) (e, ts) h in
    (ap (λ (x : ℕ × List Segment). x.0) pair, ap (λ (x : ℕ × List Segment). x.1) pair)

pub reading_is_one : (f : Format) (octets : List ℕ) (d e : ℕ) (ss ts : List Segment)
    → IsPayload octets f d ss → IsPayload octets f e ts → (d ≡ e) × (ss ≡ ts)
reading_is_one f octets d e ss ts p q =
    same_whole d e ss ts (sym (payload_again f d ss octets p) ∙ payload_again f e ts octets q)

read_or_failed : (f : Format) (octets : List ℕ) (r : Whole) → AreOctets octets
    → payload_walk f octets ≡ r
    → ((extended : ℕ) × (segments : List Segment) × IsPayload octets f extended segments)
    ⊎ ((fault : PayloadFault) × IsRefusedPayload octets f fault)
read_or_failed f octets (Ok y) bytes e = inl (y.0, y.1, payload_takes f octets y bytes e)
read_or_failed f octets (Err d) bytes e = inr (d, payload_refused f octets d bytes e)

pub is_read_or_refused : (f : Format) (octets : List ℕ) → AreOctets octets
    → ((extended : ℕ) × (segments : List Segment) × IsPayload octets f extended segments)
    ⊎ ((fault : PayloadFault) × IsRefusedPayload octets f fault)
is_read_or_refused f octets bytes = read_or_failed f octets (payload_walk f octets) bytes refl

no_payload : (x : ℕ × List Segment) (fault : PayloadFault) → whole x.0 x.1 ≡ failed fault → ⊥
no_payload x fault e = absurd cc

pub not_refused : (f : Format) (octets : List ℕ) (extended : ℕ) (segments : List Segment)
    (fault : PayloadFault) → IsPayload octets f extended segments
    → IsRefusedPayload octets f fault → ⊥
not_refused f octets extended segments fault is refused =
    no_payload (extended, segments) fault
    (sym (payload_again f extended segments octets is) ∙ refused_payload f octets fault refused)

same_fault : (a b : PayloadFault) → failed a ≡ failed b → a ≡ b
same_fault a b e = cc

pub is_refused_once : (f : Format) (octets : List ℕ) (a b : PayloadFault)
    → IsRefusedPayload octets f a
    → IsRefusedPayload octets f b → a ≡ b
is_refused_once f octets a b p q =
    same_fault a b (sym (refused_payload f octets a p) ∙ refused_payload f octets b q)

pub is_fault_exactly : (f : Format) (octets : List ℕ) (fault : PayloadFault) → AreOctets octets
    → (payload_walk f octets ≡ Err fault) ↔ IsRefusedPayload octets f fault
is_fault_exactly f octets fault bytes =
    (λ e. payload_refused f octets fault bytes e, λ is. refused_payload f octets fault is)
