-- Rasters of offers of whole groups, whose values fit, are what a receiver's file can say.
use Rattle.std.proofs.Common.{◌≡◌, ℕ, ◌+◌, ◌*◌, ◌<◌, Bool, true, false, List, [], ◌∷◌}
use Rattle.std.proofs.Common.{◌++◌, inl, inr, length, get_or, drop, map, sym, ap, ◌∙◌}
use Rattle.std.proofs.Common.{subst, arith}
use Rattle.std.specs.List.{AllByRecursion, filter}
use Rattle.std.proofs.lemmas.List.{get_or-drop, get_or-take, length-drop, length-take}
use Rattle.st_format.specs.declared.cell.Cell.{Cell}
use Rattle.st_format.specs.declared.cell.Cell.TheVariants.{Missing, Value, Contested}
use Rattle.st_format.specs.declared.format.Format.{Format}
use Rattle.st_format.specs.Cell.{IsCellOf, is_missing}
use Rattle.st_format.specs.Fit.{CellFits}
use Rattle.st_format.specs.Member.{IsMember}
use Rattle.st_format.specs.Offer.{Offer, cell_of, is_for, values_for}
use Rattle.st_format.specs.Pgroup.{bits_of}
use Rattle.st_format.specs.Picture.{FitsDepth}
use Rattle.st_format.specs.Position.{Position, group_start, place, places, row_groups}
use Rattle.st_format.specs.Raster.{Segment, cells_of, first_number, offers_from, offers_in}
use Rattle.st_format.specs.Raster.{offers_in_all, raster_of}
use Rattle.st_format.specs.Samples.{values_in}
use Rattle.st_format.proofs.Cells.{is_cell}
use Rattle.st_format.proofs.Members.{member-filter, member-map, member_cases}
use Rattle.st_format.proofs.Rasters.{get_or-cells_of, length-cells_of}
use Rattle.st_format.proofs.WholeOctets.{values_in-fit}
use Rattle.frame_assembly.specs.Rows.{IsAllOrNone, group_cells}
use Rattle.frame_assembly.proofs.PackedLemmas.{sizes}
use Rattle.receiver_file.specs.Saved.{IsFilled}
use Rattle.run_laws.proofs.WholeGroups.{WholeAt, samples}

-- ---- values

-- the value of each offer fits the depth
abbrev pub ValuesOf : Format → List Offer → Type 0
ValuesOf f os = (o : Offer) → IsMember o os → FitsDepth f o.value

offers-fit : (f : Format) (ts k : ℕ) (vs : List ℕ) → AllByRecursion (FitsDepth f) vs
    → ValuesOf f (offers_from f ts k vs)
offers-fit f ts k [] all o m = absurd m
offers-fit f ts k (v ∷ vs) all o (inl e) =
    subst (λ (x : Offer). FitsDepth f x.value) (sym e) all.0
offers-fit f ts k (v ∷ vs) all o (inr m) = offers-fit f ts (k + 1) vs all.1 o m

pub fit-append : (f : Format) (xs ys : List Offer) → ValuesOf f xs → ValuesOf f ys
    → ValuesOf f (xs ++ ys)
fit-append f xs ys p q o m = elim (member_cases o xs ys m) [ inl a ↦ p o a | inr b ↦ q o b ]

pub segments-fit : (f : Format) (ts : ℕ) (ss : List Segment) → ValuesOf f (offers_in_all f ts ss)
segments-fit f ts [] o m = absurd m
segments-fit f ts (s ∷ ss) o m =
    fit-append f (offers_in f ts s) (offers_in_all f ts ss)
    (offers-fit f ts (first_number f s) (values_in (bits_of f.depth) s.octets)
    (values_in-fit (bits_of f.depth) s.octets))
    (segments-fit f ts ss) o m

cell-fits : (f : Format) (os : List Offer) (ts : ℕ) (p : Position) (c : Cell) → ValuesOf f os
    → IsCellOf (values_for os ts p) c → CellFits f c
cell-fits f os ts p Missing fit is = tt
cell-fits f os ts p (Value v) fit is =
    let made = member-map (λ (o : Offer). o.value) v (filter (is_for ts p) os) is.0 in
    subst (FitsDepth f) (sym made.2)
    (fit made.0 (member-filter (is_for ts p) made.0 os made.1).0)
cell-fits f os ts p Contested fit is = tt

cells-fit : (f : Format) (os : List Offer) (ts : ℕ) (ps : List Position) → ValuesOf f os
    → AllByRecursion (CellFits f) (map (cell_of os ts) ps)
cells-fit f os ts [] fit = tt
cells-fit f os ts (p ∷ ps) fit = (
  cell-fits f os ts p (cell_of os ts p) fit (is_cell (values_for os ts p)),
  cells-fit f os ts ps fit,
)

-- ---- groups

alike : (b : Bool) (cells : List Cell)
    → ((i : ℕ) → i < length cells → is_missing (get_or cells i Missing) ≡ b) → IsAllOrNone cells
alike true cells same = inl same
alike false cells same = inr same

group-cell : (f : Format) (os : List Offer) (ts row group i : ℕ)
    → i < length (group_cells (raster_of f os ts) row group)
    → get_or (group_cells (raster_of f os ts) row group) i Missing
    ≡ cell_of os ts (place f (group_start f row group + i))
group-cell f os ts row group i lt =
    let cells : List Cell = cells_of f os ts in
    let start : ℕ = group_start f row group in
    get_or-take (samples f) (drop start cells) i Missing
    (omega (arith, lt, length-take (samples f) (drop start cells)))
    ∙ get_or-drop start cells i Missing
    ∙ get_or-cells_of f os ts (start + i)
    (omega (
      arith,
      lt,
      length-take (samples f) (drop start cells),
      length-drop start cells,
      length-cells_of f os ts,
    ))

group-alike : (f : Format) (os : List Offer) (ts row group : ℕ) → WholeAt f ts os
    → IsAllOrNone (group_cells (raster_of f os ts) row group)
group-alike f os ts row group whole =
    let cells : List Cell = cells_of f os ts in
    let start : ℕ = group_start f row group in
    let some : 0 < samples f = (sizes f.sampling f.depth).some in
    alike (is_missing (cell_of os ts (place f (start + 0))))
    (group_cells (raster_of f os ts) row group)
    (λ i lt. ap is_missing (group-cell f os ts row group i lt)
    ∙ whole (row * row_groups f + group) i 0
    (omega (arith, lt, length-take (samples f) (drop start cells))) some)

-- The raster of such offers
pub filled : (f : Format) (os : List Offer) (ts : ℕ) → WholeAt f ts os → ValuesOf f os
    → IsFilled (raster_of f os ts)
filled f os ts whole fit = record {
  whole = length-cells_of f os ts;
  fit = cells-fit f os ts (places f) fit;
  groups = λ row group lt below. group-alike f os ts row group whole;
}
