-- The frames of lists of datagrams.
use Rattle.std.proofs.Common.{◌≡◌, ℕ, zero, suc, ◌+◌, List, [], ◌∷◌, ◌++◌, length, map, replicate}
use Rattle.std.proofs.Common.{refl, ap, ◌∙◌}
use Rattle.std.specs.List.{flat_map, filter, range_with_len}
use Rattle.std.proofs.lemmas.Bool.{ne_eqb}
use Rattle.std.proofs.lemmas.List.{append-nil}
use Rattle.std.proofs.lemmas.List.Concat.{flat_map-append}
use Rattle.std.proofs.lemmas.List.Elements.{filter-append}
use Rattle.st_format.specs.declared.cell.Cell.{Cell}
use Rattle.st_format.specs.declared.cell.Cell.TheVariants.{Missing}
use Rattle.st_format.specs.declared.format.Format.{Format}
use Rattle.st_format.specs.Cell.{cell_of_values}
use Rattle.st_format.specs.Member.{SameMembers}
use Rattle.st_format.specs.Position.{Position, place, places, sample_count}
use Rattle.st_format.specs.Pgroup.{bits_of}
use Rattle.st_format.specs.Samples.{values_in}
use Rattle.st_format.specs.Offer.{Offer, is_for, cell_of}
use Rattle.st_format.specs.Raster.{Raster, Segment, raster_of, cells_of, offers_from, offers_in}
use Rattle.st_format.specs.Raster.{offers_in_all, first_number, blank}
use Rattle.st_format.proofs.Members.{SameMembers-flat_map}
use Rattle.st_format.proofs.Rasters.{cells_of-append, cells_of-same, map_same}
use Rattle.path_receiver.specs.Opening.{Opening}
use Rattle.path_receiver.specs.Offers.{offers}
use Rattle.path_receiver.specs.Frames.{frames_of, joined_frames}

-- ---- offers at another timestamp

none_from : (f : Format) (ts other k : ℕ) (p : Position) (vs : List ℕ) → (other ≡ ts → ⊥)
    → filter (is_for ts p) (offers_from f other k vs) ≡ []
none_from f ts other k p [] ne = refl
none_from f ts other k p (v ∷ vs) ne =
    rw (ne_eqb other ts ne) (none_from f ts other (k + 1) p vs ne)

none_in_all : (f : Format) (ts other : ℕ) (p : Position) (ss : List Segment) → (other ≡ ts → ⊥)
    → filter (is_for ts p) (offers_in_all f other ss) ≡ []
none_in_all f ts other p [] ne = refl
none_in_all f ts other p (s ∷ ss) ne =
    filter-append (is_for ts p) (offers_in f other s) (offers_in_all f other ss)
    ∙ ap (λ (xs : List Offer). xs ++ filter (is_for ts p) (offers_in_all f other ss))
    (none_from f ts other (first_number f s) p (values_in (bits_of f.depth) s.octets) ne)
    ∙ none_in_all f ts other p ss ne

cell_kept : (xs ys : List Offer) (ts : ℕ) (p : Position) → filter (is_for ts p) ys ≡ []
    → cell_of (xs ++ ys) ts p ≡ cell_of xs ts p
cell_kept xs ys ts p none =
    ap (λ (os : List Offer). cell_of_values (map (λ o. o.value) os))
    (filter-append (is_for ts p) xs ys
    ∙ ap (λ (zs : List Offer). filter (is_for ts p) xs ++ zs) none
    ∙ append-nil (filter (is_for ts p) xs))

-- Offers at another timestamp leave the cells.
pub cells_kept : (f : Format) (xs : List Offer) (ts other : ℕ) (ss : List Segment)
    → (other ≡ ts → ⊥) → cells_of f (xs ++ offers_in_all f other ss) ts ≡ cells_of f xs ts
cells_kept f xs ts other ss ne =
    map_same (cell_of (xs ++ offers_in_all f other ss) ts) (cell_of xs ts) (places f)
    (λ p. cell_kept xs (offers_in_all f other ss) ts p (none_in_all f ts other p ss ne))

-- ---- a blank frame

abbrev raster_with : Format → List Cell → Raster
raster_with f cells = record { format = f; cells = cells }

blank_cells : (f : Format) (ts n k : ℕ)
    → replicate n Missing ≡ map (cell_of [] ts) (map (place f) (range_with_len k n))
blank_cells f ts zero k = refl
blank_cells f ts (suc n) k = ap (λ (cs : List Cell). Missing ∷ cs) (blank_cells f ts n (k + 1))

-- A receiver that has taken nothing holds the frames of nothing.
pub holds_blank : (f : Format) (w : List ℕ)
    → replicate (length w) (blank f) ≡ map (raster_of f []) w
holds_blank f [] = refl
holds_blank f (ts ∷ w) =
    ap (λ (cs : List Cell). raster_with f cs ∷ replicate (length w) (blank f))
    (blank_cells f ts (sample_count f) 0)
    ∙ ap (λ (rs : List Raster). raster_of f [] ts ∷ rs) (holds_blank f w)

-- ---- lists of datagrams

raster_same : (f : Format) (xs ys : List Offer) (w : List ℕ) → SameMembers xs ys
    → map (raster_of f xs) w ≡ map (raster_of f ys) w
raster_same f xs ys w h =
    map_same (raster_of f xs) (raster_of f ys) w
    (λ ts. ap (raster_with f) (cells_of-same f xs ys ts h))

-- Lists with the same members give the same frames.
pub frames_of-same : (o : Opening) (xs ys : List (List ℕ)) → SameMembers xs ys
    → frames_of o xs ≡ frames_of o ys
frames_of-same o xs ys h =
    raster_same o.format (flat_map (offers o) xs) (flat_map (offers o) ys) o.window
    (SameMembers-flat_map (offers o) xs ys h)

both_at : (f : Format) (xs ys : List Offer) (w : List ℕ)
    → map (raster_of f (xs ++ ys)) w
    ≡ joined_frames (map (raster_of f xs) w) (map (raster_of f ys) w)
both_at f xs ys [] = refl
both_at f xs ys (ts ∷ w) = rw (cells_of-append f xs ys ts, both_at f xs ys w) refl

-- The frames of two lists are the joins of their frames.
pub frames_of-append : (o : Opening) (xs ys : List (List ℕ))
    → frames_of o (xs ++ ys) ≡ joined_frames (frames_of o xs) (frames_of o ys)
frames_of-append o xs ys =
    ap (λ (os : List Offer). map (raster_of o.format os) o.window)
    (flat_map-append (offers o) xs ys)
    ∙ both_at o.format (flat_map (offers o) xs) (flat_map (offers o) ys) o.window
