-- The frame of a picture whose datagrams are all there.
use Rattle.std.proofs.Common.{◌≡◌, ℕ, zero, suc, ◌+◌, ◌<◌, ◌≤◌, inl, inr, Bool, true, false, eqb}
use Rattle.std.proofs.Common.{cond, List, [], ◌∷◌, length, map, get_or, Some, Result, Ok, Err, refl}
use Rattle.std.proofs.Common.{sym, ap, ◌∙◌, subst, arith}
use Rattle.std.specs.List.{flat_map, range_with_len, filter}
use Rattle.std.proofs.lemmas.Bool.{eqb-true, eqb-false, eq-eqb, cases_order}
use Rattle.std.proofs.lemmas.List.{ext_get_or}
use Rattle.st_format.specs.declared.cell.Cell.{Cell}
use Rattle.st_format.specs.declared.cell.Cell.TheVariants.{Missing, Value}
use Rattle.st_format.specs.declared.format.Format.{Format}
use Rattle.st_format.specs.Cell.{IsCellOf}
use Rattle.st_format.specs.Member.{IsMember}
use Rattle.st_format.specs.Pgroup.{bits_of}
use Rattle.st_format.specs.Picture.{Values, value_at}
use Rattle.st_format.specs.Position.{Position, place, places, sample_count}
use Rattle.st_format.specs.Samples.{values_in}
use Rattle.st_format.specs.Offer.{Offer, is_for, values_for, cell_of}
use Rattle.st_format.specs.Raster.{Raster, Segment, raster_of, cells_of, first_number, offers_from}
use Rattle.st_format.specs.Raster.{offers_in, offers_in_all}
use Rattle.st_format.proofs.Members.{member-map, member_of_map, member_of_filter, member-flat_map}
use Rattle.st_format.proofs.Members.{member_of_flat_map, member_cases}
use Rattle.st_format.proofs.Cells.{cell_of-sender, is_cell}
use Rattle.st_format.proofs.Numbering.{number_of-place}
use Rattle.st_format.proofs.Rasters.{length-cells_of, get_or-cells_of}
use Rattle.packet_plan.specs.declared.run.PacketRun.{PacketRun}
use Rattle.packet_plan.specs.declared.stamp.Stamp.{Stamp}
use Rattle.packet_plan.specs.Sent.{sample, IsSentPicture}
use Rattle.st_format.specs.Device.{AreOctets}
use Rattle.path_receiver.specs.declared.answer.Refusal.{Refusal}
use Rattle.path_receiver.specs.Opening.{Opening}
use Rattle.path_receiver.specs.Grammar.{Datagram, IsFor}
use Rattle.path_receiver.specs.Admission.{datagram_walk}
use Rattle.path_receiver.specs.Offers.{offers, offers_of}
use Rattle.path_receiver.specs.Frames.{frames_of, frame_at}
use Rattle.path_receiver.specs.Sender.{IsOpenFor, AreAmong, AreAmongAt, offer_at, picture_raster}
use Rattle.path_receiver.proofs.Offered.{admitted_takes}
use Rattle.path_receiver.proofs.SentOffers.{offers-picture}

-- ---- a cell for which something is offered

is_for_yes : (ts : ℕ) (p : Position) (o : Offer) → o.timestamp ≡ ts → o.position ≡ p
    → is_for ts p o ≡ true
is_for_yes ts p o e h =
    rw (
      eq-eqb o.timestamp ts e,
      eq-eqb o.position.row p.row (ap (λ (q : Position). q.row) h),
      eq-eqb o.position.column p.column (ap (λ (q : Position). q.column) h),
      eq-eqb o.position.component p.component (ap (λ (q : Position). q.component) h),
    ) refl

not_missing : (xs : List Offer) (ts : ℕ) (p : Position) (o : Offer) → IsMember o xs
    → o.timestamp ≡ ts → o.position ≡ p → cell_of xs ts p ≡ Missing → ⊥
not_missing xs ts p o m e h missing =
    let none : IsCellOf (values_for xs ts p) Missing =
    subst (λ (c : Cell). IsCellOf (values_for xs ts p) c) missing
    (is_cell (values_for xs ts p)) in
    none o.value
    (member_of_map (λ (q : Offer). q.value) o (filter (is_for ts p) xs)
    (member_of_filter (is_for ts p) o xs (is_for_yes ts p o e h) m))

-- Where one offer is for a place and all that are say one value, the cell is that value.
cell_of-value : (xs : List Offer) (ts : ℕ) (p : Position) (v : ℕ) (o : Offer) → IsMember o xs
    → o.timestamp ≡ ts → o.position ≡ p
    → ((x : Offer) → IsMember x xs → x.timestamp ≡ ts → x.position ≡ p → x.value ≡ v)
    → cell_of xs ts p ≡ Value v
cell_of-value xs ts p v o m e h all = elim (cell_of-sender xs ts p v all) [
  | inl missing ↦ absurd (not_missing xs ts p o m e h missing)
  | inr is ↦ is
]

-- ---- the cells of a picture

member-range : (k a n : ℕ) → a ≤ k → k < a + n → IsMember k (range_with_len a n)
member-range k a zero le lt = absurd (omega arith)
member-range k a (suc n) le lt = elim (cases_order k a) [
  | inl e ↦ inl e
  | inr h ↦ inr
      (member-range k (a + 1) n (elim h [ inl g ↦ absurd (omega arith) | inr g ↦ omega arith ])
      (omega arith))
]

member-places : (f : Format) (i : ℕ) → i < sample_count f → IsMember (place f i) (places f)
member-places f i lt =
    member_of_map (place f) i (range_with_len 0 (sample_count f))
    (member-range i 0 (sample_count f) (omega arith) (omega arith))

get_or-values : (vs : List ℕ) (i : ℕ) → i < length vs
    → get_or (map (λ v. Value v) vs) i Missing ≡ Value (get_or vs i 0)
get_or-values [] i lt = absurd (omega arith)
get_or-values (v ∷ vs) zero lt = refl
get_or-values (v ∷ vs) (suc i) lt = get_or-values vs i (omega arith)

length-values : (vs : List ℕ) → length (map (λ v. Value v) vs) ≡ length vs
length-values [] = refl
length-values (v ∷ vs) = ap suc (length-values vs)

-- What a picture's datagrams offer is at its timestamp, and the picture's value.
pub sent_offers : (o : Opening) (p : Values) (stamp : Stamp) (size : ℕ)
    (qs : List (List PacketRun)) (ds : List (List ℕ))
    → IsOpenFor o p.format stamp.payload_type stamp.ssrc → IsSentPicture ds p stamp size qs
    → (x : Offer) → IsMember x (flat_map (offers o) ds)
    → (x.timestamp ≡ stamp.timestamp) × (x.value ≡ value_at p x.position)
sent_offers o p stamp size qs ds opened is x m =
    let r =
    member-map (offer_at p stamp.timestamp) x (places p.format)
    (subst (λ (os : List Offer). IsMember x os)
    (offers-picture o p stamp size qs ds opened is) m) in
    let same : x ≡ offer_at p stamp.timestamp r.0 = r.2 in (
      ap (λ (q : Offer). q.timestamp) same,
      ap (λ (q : Offer). q.value) same
          ∙ ap (λ (q : Offer). value_at p q.position) (sym same),
    )

whole_cells : (o : Opening) (p : Values) (stamp : Stamp) (size : ℕ) (qs : List (List PacketRun))
    (ds xs : List (List ℕ)) → IsOpenFor o p.format stamp.payload_type stamp.ssrc
    → IsSentPicture ds p stamp size qs
    → length p.samples ≡ sample_count p.format → AreAmong ds xs
    → ((x : Offer) → IsMember x (flat_map (offers o) xs) → x.timestamp ≡ stamp.timestamp
    → x.value ≡ value_at p x.position)
    → cells_of p.format (flat_map (offers o) xs) stamp.timestamp ≡ map (λ v. Value v) p.samples
whole_cells o p stamp size qs ds xs opened is whole all only =
    let f : Format = p.format in
    let ts : ℕ = stamp.timestamp in
    let os : List Offer = flat_map (offers o) xs in
    let count : length (cells_of f os ts) ≡ sample_count f = length-cells_of f os ts in
    ext_get_or Missing (cells_of f os ts) (map (λ v. Value v) p.samples)
    (count ∙ sym whole ∙ sym (length-values p.samples))
    (λ i lt.
    let inside : i < sample_count f = subst (λ (n : ℕ). i < n) count lt in
    let offer : Offer = offer_at p ts (place f i) in
    let mine : IsMember offer (flat_map (offers o) ds) =
    subst (λ (ys : List Offer). IsMember offer ys)
    (sym (offers-picture o p stamp size qs ds opened is))
    (member_of_map (offer_at p ts) (place f i) (places f) (member-places f i inside)) in
    let at = member-flat_map (offers o) offer ds mine in
    let there : IsMember offer os =
    member_of_flat_map (offers o) at.0 offer xs (all at.0 at.1) at.2 in
    get_or-cells_of f os ts i inside
    ∙ cell_of-value os ts (place f i) (value_at p (place f i)) offer there refl refl
    (λ x m e h. only x m e ∙ ap (value_at p) h)
    ∙ ap (λ (k : ℕ). Value (sample p k)) (number_of-place f i)
    ∙ sym (get_or-values p.samples i (subst (λ (n : ℕ). i < n) (sym whole) inside)))

abbrev with_cells : Format → List Cell → Raster
with_cells f cells = record { format = f; cells = cells }

-- Where all of a picture's datagrams are there and all that is offered at its timestamp is the
-- picture's, the raster is the picture.
pub whole_raster : (o : Opening) (p : Values) (stamp : Stamp) (size : ℕ)
    (qs : List (List PacketRun)) (ds xs : List (List ℕ))
    → IsOpenFor o p.format stamp.payload_type stamp.ssrc → IsSentPicture ds p stamp size qs
    → length p.samples ≡ sample_count p.format → AreAmong ds xs
    → ((x : Offer) → IsMember x (flat_map (offers o) xs) → x.timestamp ≡ stamp.timestamp
    → x.value ≡ value_at p x.position)
    → raster_of o.format (flat_map (offers o) xs) stamp.timestamp ≡ picture_raster p
whole_raster o p stamp size qs ds xs opened is whole all only =
    ap (λ (f : Format). raster_of f (flat_map (offers o) xs) stamp.timestamp) (sym opened.format)
    ∙ ap (with_cells p.format) (whole_cells o p stamp size qs ds xs opened is whole all only)

-- ---- the frame of a timestamp

first_frame : (f : Format) (os : List Offer) (ts t : ℕ) (w : List ℕ) (b : Bool) → eqb ts t ≡ b
    → IsMember ts (t ∷ w)
    → (IsMember ts w → frame_at w (map (raster_of f os) w) ts ≡ Some (raster_of f os ts))
    → cond b (Some (raster_of f os t)) (frame_at w (map (raster_of f os) w) ts)
    ≡ Some (raster_of f os ts)
first_frame f os ts t w true e m rest =
    ap (λ (x : ℕ). Some (raster_of f os x)) (sym (eqb-true ts t e))
first_frame f os ts t w false e (inl same) rest = absurd (eqb-false ts t e same)
first_frame f os ts t w false e (inr m) rest = rest m

frame_there : (f : Format) (os : List Offer) (ts : ℕ) (w : List ℕ) → IsMember ts w
    → frame_at w (map (raster_of f os) w) ts ≡ Some (raster_of f os ts)
frame_there f os ts [] m = absurd m
frame_there f os ts (t ∷ w) m = first_frame f os ts t w (eqb ts t) refl m (frame_there f os ts w)

-- The frame of a timestamp of the window is the raster of what is offered.
pub frame-raster : (o : Opening) (xs : List (List ℕ)) (ts : ℕ) → IsMember ts o.window
    → frame_at o.window (frames_of o xs) ts ≡ Some (raster_of o.format (flat_map (offers o) xs) ts)
frame-raster o xs ts m = frame_there o.format (flat_map (offers o) xs) ts o.window m

-- Where all of a picture's datagrams are there, and every other one offers nothing at its
-- timestamp, the frame is the picture.
pub frame-whole : (o : Opening) (p : Values) (stamp : Stamp) (size : ℕ)
    (qs : List (List PacketRun)) (ds xs : List (List ℕ))
    → IsOpenFor o p.format stamp.payload_type stamp.ssrc → IsMember stamp.timestamp o.window
    → length p.samples ≡ sample_count p.format → IsSentPicture ds p stamp size qs → AreAmong ds xs
    → AreAmongAt xs ds o stamp.timestamp
    → frame_at o.window (frames_of o xs) stamp.timestamp ≡ Some (picture_raster p)
frame-whole o p stamp size qs ds xs opened inside whole is all others =
    let only : (x : Offer) → IsMember x (flat_map (offers o) xs) → x.timestamp ≡ stamp.timestamp
    → x.value ≡ value_at p x.position = λ x m e.
    let at = member-flat_map (offers o) x xs m in
    elim (others at.0 at.1) [
      | inl mine ↦
          (sent_offers o p stamp size qs ds opened is x
          (member_of_flat_map (offers o) at.0 x ds mine at.2)).1
      | inr none ↦ absurd (none x at.2 e)
    ] in
    frame-raster o xs stamp.timestamp inside
    ∙ ap Some (whole_raster o p stamp size qs ds xs opened is whole all only)

-- ---- in words of the grammar

from_time : (f : Format) (ts k : ℕ) (vs : List ℕ) (x : Offer) → IsMember x (offers_from f ts k vs)
    → x.timestamp ≡ ts
from_time f ts k [] x m = absurd m
from_time f ts k (v ∷ vs) x (inl e) = ap (λ (q : Offer). q.timestamp) e
from_time f ts k (v ∷ vs) x (inr m) = from_time f ts (k + 1) vs x m

in_all_time : (f : Format) (ts : ℕ) (ss : List Segment) (x : Offer)
    → IsMember x (offers_in_all f ts ss) → x.timestamp ≡ ts
in_all_time f ts [] x m = absurd m
in_all_time f ts (s ∷ ss) x m = elim (member_cases x (offers_in f ts s) (offers_in_all f ts ss) m) [
  | inl a ↦ from_time f ts (first_number f s) (values_in (bits_of f.depth) s.octets) x a
  | inr b ↦ in_all_time f ts ss x b
]

-- What offers something at a timestamp is a datagram of it.
among_offers : (o : Opening) (ts : ℕ) (d : List ℕ) (ds : List (List ℕ))
    (r : Result Datagram Refusal) → AreOctets d → datagram_walk o.format o.payload_type o.ssrc d ≡ r
    → ((g : Datagram) → IsFor d o g → g.timestamp ≡ ts → IsMember d ds) → (x : Offer)
    → IsMember x (offers_of o.format r) → x.timestamp ≡ ts → IsMember d ds
among_offers o ts d ds (Err e) fit read at x m h = absurd m
among_offers o ts d ds (Ok g) fit read at x m h =
    at g (admitted_takes o d g fit read) (sym (in_all_time o.format g.timestamp g.segments x m) ∙ h)

-- Where every datagram of its timestamp is one of the picture's, the frame is the picture.
pub frame-grammar : (o : Opening) (p : Values) (stamp : Stamp) (size : ℕ)
    (qs : List (List PacketRun)) (ds xs : List (List ℕ))
    → IsOpenFor o p.format stamp.payload_type stamp.ssrc → IsMember stamp.timestamp o.window
    → length p.samples ≡ sample_count p.format → IsSentPicture ds p stamp size qs → AreAmong ds xs
    → ((d : List ℕ) → IsMember d xs → AreOctets d)
    → ((d : List ℕ) (g : Datagram) → IsMember d xs → IsFor d o g → g.timestamp ≡ stamp.timestamp
    → IsMember d ds)
    → frame_at o.window (frames_of o xs) stamp.timestamp ≡ Some (picture_raster p)
frame-grammar o p stamp size qs ds xs opened inside whole is all fit others =
    let only : (x : Offer) → IsMember x (flat_map (offers o) xs) → x.timestamp ≡ stamp.timestamp
    → x.value ≡ value_at p x.position = λ x m e.
    let at = member-flat_map (offers o) x xs m in
    let mine : IsMember at.0 ds =
    among_offers o stamp.timestamp at.0 ds (datagram_walk o.format o.payload_type o.ssrc at.0)
    (fit at.0 at.1) refl (λ g f h. others at.0 g at.1 f h) x at.2 e in
    (sent_offers o p stamp size qs ds opened is x
    (member_of_flat_map (offers o) at.0 x ds mine at.2)).1 in
    frame-raster o xs stamp.timestamp inside
    ∙ ap Some (whole_raster o p stamp size qs ds xs opened is whole all only)
