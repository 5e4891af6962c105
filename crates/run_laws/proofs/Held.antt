-- What datagrams offer has whole groups and values that fit: so the frames of datagrams can be
-- written as a receiver's file.
use Rattle.std.proofs.Common.{◌≡◌, ℕ, ◌<◌, List, [], ◌∷◌, length, Option, Some, None, Result}
use Rattle.std.proofs.Common.{Ok, Err, ltb, refl, ap, subst}
use Rattle.std.specs.List.{AllByRecursion, flat_map}
use Rattle.std.proofs.lemmas.Bool.{ltb-false}
use Rattle.st_format.specs.declared.format.Format.{Format}
use Rattle.st_format.specs.Raster.{Segment, raster_of}
use Rattle.st_format.specs.Reading.{◌>>=◌}
use Rattle.st_format.proofs.Readings.{bind_ok, guard_ok}
use Rattle.payload_header.specs.declared.payload.PayloadFault.{PayloadFault}
use Rattle.payload_header.specs.declared.payload.PayloadFault.TheVariants.{ShortData}
use Rattle.payload_header.specs.Payload.{Header, IsInside, most_segments}
use Rattle.payload_header.specs.Reading.{counted_octets, data_at, fault_or, headers_at}
use Rattle.payload_header.specs.Reading.{headers_fault, number_at, payload_walk, segments_at}
use Rattle.payload_header.proofs.Grammar.{all_described, all_inside}
use Rattle.rtp_header.specs.Reading.{rtp_walk}
use Rattle.path_receiver.specs.declared.answer.Refusal.{Refusal}
use Rattle.path_receiver.specs.Admission.{by_header, by_payload, datagram_walk, datagram_with}
use Rattle.path_receiver.specs.Admission.{header_for}
use Rattle.path_receiver.specs.Grammar.{Datagram}
use Rattle.path_receiver.specs.Offers.{offers, offers_of}
use Rattle.path_receiver.specs.Opening.{Opening}
use Rattle.receiver_file.specs.Saved.{IsFilled}
use Rattle.run_laws.proofs.Filled.{ValuesOf, filled, fit-append, segments-fit}
use Rattle.run_laws.proofs.WholeGroups.{WholeAt, segments_whole, whole-append, whole_none}

-- ---- segments that are read lie at groups of the raster

abbrev AreInside : Format → List Segment → Type 0
AreInside f ss = AllByRecursion (λ s. 0 < length s.octets → IsInside s f) ss

fault_none : (o : Option PayloadFault) (later : Result (List Segment) PayloadFault)
    (ss : List Segment) → fault_or o later ≡ Ok ss → (o ≡ None) × (later ≡ Ok ss)
fault_none None later ss e = (refl, e)
fault_none (Some d) later ss e = absurd cc

same_ok : {X : Type 0} (x y : X) → (let r : Result X Refusal = Ok x in r ≡ Ok y) → x ≡ y
same_ok x y h = cc

same_read : {X : Type 0} (x y : X) → (let r : Result X PayloadFault = Ok x in r ≡ Ok y) → x ≡ y
same_read x y h = cc

data-inside : (f : Format) (hs : List Header) (octets : List ℕ) (ss : List Segment)
    → fault_or (headers_fault f hs) (data_at hs octets) ≡ Ok ss → AreInside f ss
data-inside f hs octets ss e =
    let none = fault_none (headers_fault f hs) (data_at hs octets) ss e in
    let long =
    guard_ok (ltb (length octets) (counted_octets hs)) ShortData (segments_at hs octets) ss
    none.1 in
    subst (AreInside f) long.1
    (all_inside f hs (segments_at hs octets)
    (all_described f hs octets none.0 (ltb-false (length octets) (counted_octets hs) long.0)))

payload-inside : (f : Format) (octets : List ℕ) (y : ℕ × List Segment)
    → payload_walk f octets ≡ Ok y → AreInside f y.1
unfolding payload_walk
payload-inside f octets y e =
    let a =
    bind_ok (number_at octets)
    (λ x. headers_at most_segments x.1 >>=
    λ hs. fault_or (headers_fault f hs.0) (data_at hs.0 hs.1) >>= λ ss. Ok (x.0, ss)) y e in
    let b =
    bind_ok (headers_at most_segments a.0.1)
    (λ hs. fault_or (headers_fault f hs.0) (data_at hs.0 hs.1) >>=
    λ ss. Ok (a.0.0, ss)) y a.2 in
    let c =
    bind_ok (fault_or (headers_fault f b.0.0) (data_at b.0.0 b.0.1))
    (λ ss. Ok (a.0.0, ss)) y b.2 in
    let pair : ℕ × List Segment = (a.0.0, c.0) in
    subst (λ (z : ℕ × List Segment). AreInside f z.1) (same_read pair y c.2)
    (data-inside f b.0.0 b.0.1 c.0 c.1)

abbrev read_ok : {A : Type 0} → A → Result A PayloadFault
read_ok x = Ok x

by_payload-ok : {A : Type 0} (r : Result A PayloadFault) (y : A) → by_payload r ≡ Ok y → r ≡ Ok y
by_payload-ok (Ok x) y e = ap read_ok (same_ok x y e)
by_payload-ok (Err d) y e = absurd cc

datagram-inside : (f : Format) (type : ℕ) (ssrc : Option ℕ) (octets : List ℕ) (d : Datagram)
    → datagram_walk f type ssrc octets ≡ Ok d → AreInside f d.segments
unfolding datagram_walk
datagram-inside f type ssrc octets d e =
    let a =
    bind_ok (by_header (rtp_walk octets))
    (λ q. header_for type ssrc q >>=
    λ w. by_payload (payload_walk f w.payload) >>= λ p. Ok (datagram_with w p)) d e in
    let b =
    bind_ok (header_for type ssrc a.0)
    (λ w. by_payload (payload_walk f w.payload) >>= λ p. Ok (datagram_with w p)) d a.2 in
    let c =
    bind_ok (by_payload (payload_walk f b.0.payload)) (λ p. Ok (datagram_with b.0 p)) d b.2 in
    subst (λ (x : Datagram). AreInside f x.segments) (same_ok (datagram_with b.0 c.0) d c.2)
    (payload-inside f b.0.payload c.0 (by_payload-ok (payload_walk f b.0.payload) c.0 c.1))

-- ---- what datagrams offer

offered-whole : (o : Opening) (ts : ℕ) (octets : List ℕ) (x : Result Datagram Refusal)
    → datagram_walk o.format o.payload_type o.ssrc octets ≡ x
    → WholeAt o.format ts (offers_of o.format x)
offered-whole o ts octets (Ok d) e =
    segments_whole o.format ts d.timestamp d.segments
    (datagram-inside o.format o.payload_type o.ssrc octets d e)
offered-whole o ts octets (Err r) e = whole_none o.format ts

offered-fit : (f : Format) (x : Result Datagram Refusal) → ValuesOf f (offers_of f x)
offered-fit f (Ok d) = segments-fit f d.timestamp d.segments
offered-fit f (Err r) = λ o m. absurd m

all-whole : (o : Opening) (ts : ℕ) (datagrams : List (List ℕ))
    → WholeAt o.format ts (flat_map (offers o) datagrams)
all-whole o ts [] = whole_none o.format ts
all-whole o ts (d ∷ ds) =
    whole-append o.format ts (offers o d) (flat_map (offers o) ds)
    (offered-whole o ts d (datagram_walk o.format o.payload_type o.ssrc d) refl)
    (all-whole o ts ds)

all-fit : (o : Opening) (datagrams : List (List ℕ))
    → ValuesOf o.format (flat_map (offers o) datagrams)
all-fit o [] = λ x m. absurd m
all-fit o (d ∷ ds) =
    fit-append o.format (offers o d) (flat_map (offers o) ds)
    (offered-fit o.format (datagram_walk o.format o.payload_type o.ssrc d)) (all-fit o ds)

-- The frame of any datagrams at a timestamp can be written.
pub frame-filled : (o : Opening) (datagrams : List (List ℕ)) (ts : ℕ)
    → IsFilled (raster_of o.format (flat_map (offers o) datagrams) ts)
frame-filled o datagrams ts =
    filled o.format (flat_map (offers o) datagrams) ts (all-whole o ts datagrams)
    (all-fit o datagrams)
