-- The frames of the datagrams of a time.
use Rattle.std.proofs.Common.{◌≡◌, ℕ, ◌⊎◌, inl, inr, Bool, true, false, cond, eqb, List, [], ◌∷◌, ◌++◌}
use Rattle.std.proofs.Common.{Result, Ok, Err, refl, sym, ap, ◌∙◌, append-nil}
use Rattle.std.specs.List.{filter, flat_map}
use Rattle.std.proofs.lemmas.Bool.{eqb-true, eq-eqb}
use Rattle.std.proofs.lemmas.List.{map-append}
use Rattle.std.proofs.lemmas.List.Concat.{flat_map-append}
use Rattle.std.proofs.lemmas.List.Elements.{filter-append}
use Rattle.st_format.specs.declared.cell.Cell.{Cell}
use Rattle.st_format.specs.declared.format.Format.{Format}
use Rattle.st_format.specs.Member.{IsMember}
use Rattle.st_format.specs.Offer.{Offer}
use Rattle.st_format.specs.Raster.{Raster, blank, cells_of, joined_cells, joined_rasters, raster_of}
use Rattle.st_format.proofs.Rasters.{cells_of-append, length-cells_of, joined_none}
use Rattle.path_receiver.specs.declared.answer.Refusal.{Refusal}
use Rattle.path_receiver.specs.Grammar.{Datagram}
use Rattle.path_receiver.specs.Offers.{offers, offers_of}
use Rattle.path_receiver.specs.Opening.{Opening}
use Rattle.path_receiver.proofs.Frames.{cells_kept, holds_blank}
use Rattle.following.specs.Serial.{wrapped}
use Rattle.following.specs.Follower.{reading_of}
use Rattle.following.specs.Times.{Timed, datagrams_at, frame_of, octets_of, time_if, times_of}

-- the datagrams of a time, among which the first may be
abbrev at_time : ℕ → Timed → List Timed → Bool → List (List ℕ)
at_time v z zs b =
    octets_of (cond b (z ∷ filter (λ x. eqb x.time v) zs) (filter (λ x. eqb x.time v) zs))

none_at : (o : Opening) (v : ℕ) (z : Timed) (zs : List Timed) (b : Bool)
    (r : Result Datagram Refusal) → eqb z.time v ≡ b → reading_of o z.octets ≡ r
    → (IsMember v (time_if z.time r ++ times_of o zs) → ⊥)
    → flat_map (offers o) (datagrams_at v zs) ≡ [] → flat_map (offers o) (at_time v z zs b) ≡ []
none_at o v z zs true (Ok d) e read out rest = absurd (out (inl (sym (eqb-true z.time v e))))
none_at o v z zs true (Err f) e read out rest =
    ap (λ (os : List Offer). os ++ flat_map (offers o) (datagrams_at v zs))
    (ap (offers_of o.format) read)
    ∙ rest
none_at o v z zs false r e read out rest = rest

later_out : (t v : ℕ) (r : Result Datagram Refusal) (vs : List ℕ)
    → (IsMember v (time_if t r ++ vs) → ⊥) → IsMember v vs → ⊥
later_out t v (Ok d) vs out m = out (inr m)
later_out t v (Err e) vs out m = out m

-- Where no datagram for the receiver is of a time, nothing is offered at it.
pub none_heard : (o : Opening) (v : ℕ) (zs : List Timed) → (IsMember v (times_of o zs) → ⊥)
    → flat_map (offers o) (datagrams_at v zs) ≡ []
none_heard o v [] out = refl
none_heard o v (z ∷ zs) out =
    none_at o v z zs (eqb z.time v) (reading_of o z.octets) refl refl out
    (none_heard o v zs (later_out z.time v (reading_of o z.octets) (times_of o zs) out))

pub datagrams_at-append : (v : ℕ) (xs ys : List Timed)
    → datagrams_at v (xs ++ ys) ≡ datagrams_at v xs ++ datagrams_at v ys
datagrams_at-append v xs ys =
    ap octets_of (filter-append (λ (x : Timed). eqb x.time v) xs ys)
    ∙ map-append (λ (x : Timed). x.octets) (filter (λ x. eqb x.time v) xs)
    (filter (λ x. eqb x.time v) ys)

offers-append : (o : Opening) (v : ℕ) (xs ys : List Timed)
    → flat_map (offers o) (datagrams_at v (xs ++ ys))
    ≡ flat_map (offers o) (datagrams_at v xs) ++ flat_map (offers o) (datagrams_at v ys)
offers-append o v xs ys =
    ap (λ (ds : List (List ℕ)). flat_map (offers o) ds) (datagrams_at-append v xs ys)
    ∙ flat_map-append (offers o) (datagrams_at v xs) (datagrams_at v ys)

-- What comes of other times leaves a frame.
pub frame_kept : (o : Opening) (v ts : ℕ) (xs zs : List Timed) → (IsMember v (times_of o zs) → ⊥)
    → frame_of o (datagrams_at v xs) ts ≡ frame_of o (datagrams_at v (xs ++ zs)) ts
frame_kept o v ts xs zs out =
    sym
    (ap (λ (os : List Offer). raster_of o.format os ts)
    (offers-append o v xs zs
    ∙ ap
    (λ (os : List Offer). flat_map (offers o) (datagrams_at v xs) ++ os) (none_heard o v zs out)
    ∙ append-nil (flat_map (offers o) (datagrams_at v xs))))

pub blank_is : (f : Format) (ts : ℕ) → raster_of f [] ts ≡ blank f
blank_is f ts = let h = holds_blank f (ts ∷ []) in cc

-- Where none is of a time, its frame is blank.
pub frame_blank : (o : Opening) (v ts : ℕ) (xs : List Timed) → (IsMember v (times_of o xs) → ⊥)
    → frame_of o (datagrams_at v xs) ts ≡ blank o.format
frame_blank o v ts xs out =
    ap (λ (os : List Offer). raster_of o.format os ts) (none_heard o v xs out)
    ∙ blank_is o.format ts

-- ---- one datagram more

abbrev with_cells : Format → List Cell → Raster
with_cells f cells = record { format = f; cells = cells }

-- the frames of two lists are the joins
pub frame_both : (o : Opening) (ds es : List (List ℕ)) (ts : ℕ)
    → frame_of o (ds ++ es) ts ≡ joined_rasters (frame_of o ds ts) (frame_of o es ts)
frame_both o ds es ts =
    ap (λ (os : List Offer). raster_of o.format os ts) (flat_map-append (offers o) ds es)
    ∙ ap (with_cells o.format)
    (cells_of-append o.format (flat_map (offers o) ds) (flat_map (offers o) es) ts)

one_time : (v t : ℕ) (r : Result Datagram Refusal) → IsMember v (time_if t r ++ []) → v ≡ t
one_time v t (Ok d) (inl e) = e
one_time v t (Ok d) (inr m) = absurd m
one_time v t (Err f) m = absurd m

-- a datagram's offers at another timestamp join nothing
pub joins_none : (o : Opening) (ds : List (List ℕ)) (octets : List ℕ) (d : Datagram) (ts : ℕ)
    → reading_of o octets ≡ Ok d → (d.timestamp ≡ ts → ⊥)
    → joined_rasters (frame_of o ds ts) (frame_of o (octets ∷ []) ts) ≡ frame_of o ds ts
joins_none o ds octets d ts read other =
    let os : List Offer = flat_map (offers o) ds in
    ap (λ (xs : List Offer). with_cells o.format
    (joined_cells (cells_of o.format os ts) (cells_of o.format xs ts)))
    (append-nil (offers o octets) ∙ ap (offers_of o.format) read)
    ∙ ap (λ (cs : List Cell). with_cells o.format (joined_cells (cells_of o.format os ts) cs))
    (cells_kept o.format [] ts d.timestamp d.segments other)
    ∙ ap (with_cells o.format)
    (joined_none o.format ts (cells_of o.format os ts) (length-cells_of o.format os ts))

-- A datagram is joined to the frame of its time, and to no other.
pub frame_more : (o : Opening) (v : ℕ) (xs : List Timed) (y : Timed) (d : Datagram)
    → reading_of o y.octets ≡ Ok d → d.timestamp ≡ wrapped y.time
    → (v ≡ y.time) ⊎ (wrapped v ≡ wrapped y.time → ⊥)
    → joined_rasters (frame_of o (datagrams_at v xs) (wrapped v))
    (frame_of o (y.octets ∷ []) (wrapped v))
    ≡ frame_of o (datagrams_at v (xs ++ y ∷ [])) (wrapped v)
frame_more o v xs y d read stamp (inl same) =
    sym
    (ap (λ (ds : List (List ℕ)). frame_of o ds (wrapped v))
    (datagrams_at-append v xs (y ∷ [])
    ∙ ap (λ (b : Bool). datagrams_at v xs ++ at_time v y [] b) (eq-eqb y.time v (sym same)))
    ∙ frame_both o (datagrams_at v xs) (y.octets ∷ []) (wrapped v))
frame_more o v xs y d read stamp (inr other) =
    joins_none o (datagrams_at v xs) y.octets d (wrapped v) read
    (λ e. other (sym e ∙ stamp))
    ∙ frame_kept o v (wrapped v) xs (y ∷ [])
    (λ m. other (ap wrapped (one_time v y.time (reading_of o y.octets) m)))
