-- Counts of cells as counts of positions.
use Rattle.std.proofs.Common.{◌≡◌, ℕ, ◌+◌, ◌<◌, Bool, cond, List, [], ◌∷◌, length, get_or, map}
use Rattle.std.proofs.Common.{count_by, refl, sym, ap, ◌∙◌, subst, arith}
use Rattle.std.specs.List.{range_with_len}
use Rattle.std.proofs.lemmas.List.{ext_get_or, length-map}
use Rattle.std.proofs.lemmas.List.FromFn.{get_or-map-range_with_len}
use Rattle.std.proofs.lemmas.List.Sums.{sum_by-cons}
use Rattle.st_format.specs.declared.cell.Cell.{Cell}
use Rattle.st_format.specs.declared.cell.Cell.TheVariants.{Missing}
use Rattle.st_format.specs.Cell.{is_contested, is_missing, is_present}
use Rattle.st_format.specs.Position.{Position, place, places, sample_count}
use Rattle.st_format.specs.Raster.{IsWhole, Raster, cell_at}
use Rattle.st_format.proofs.Numbering.{number_of-place}
use Rattle.st_format.proofs.Rasters.{length-places, map-map}
use Rattle.frame_assembly.specs.declared.counts.Counts.{Counts}
use Rattle.frame_assembly.specs.Kinds.{AreCounts, positions_of}

count_by-map : (kind : Cell → Bool) (g : Position → Cell) (ps : List Position)
    → count_by kind (map g ps) ≡ count_by (λ p. kind (g p)) ps
count_by-map kind g [] = refl
count_by-map kind g (p ∷ ps) =
    sum_by-cons (λ c. cond (kind c) 1 0) (g p) (map g ps)
    ∙ ap (λ (k : ℕ). cond (kind (g p)) 1 0 + k) (count_by-map kind g ps)
    ∙ sym (sum_by-cons (λ q. cond (kind (g q)) 1 0) p ps)

at_number : (r : Raster) (i : ℕ) → i < sample_count r.format
    → get_or (map (cell_at r) (places r.format)) i Missing ≡ get_or r.cells i Missing
at_number r i lt =
    ap (λ (cs : List Cell). get_or cs i Missing)
    (map-map (cell_at r) (place r.format) (range_with_len 0 (sample_count r.format)))
    ∙ get_or-map-range_with_len (λ (k : ℕ). cell_at r (place r.format k)) 0
    (sample_count r.format) i i Missing lt (omega arith)
    ∙ ap (λ (k : ℕ). get_or r.cells k Missing) (number_of-place r.format i)

cells_by_place : (r : Raster) → IsWhole r → r.cells ≡ map (cell_at r) (places r.format)
cells_by_place r whole =
    let long : length (map (cell_at r) (places r.format)) ≡ length r.cells =
    length-map (places r.format) (cell_at r) ∙ length-places r.format ∙ sym whole in
    sym (ext_get_or Missing (map (cell_at r) (places r.format)) r.cells long
    (λ i lt. at_number r i (subst (λ (n : ℕ). i < n) (long ∙ whole) lt)))

by_position : (kind : Cell → Bool) (r : Raster) → IsWhole r
    → count_by kind r.cells ≡ positions_of kind r
by_position kind r whole =
    ap (count_by kind) (cells_by_place r whole) ∙ count_by-map kind (cell_at r) (places r.format)

pub counts_of_positions : (r : Raster) (counts : Counts) → IsWhole r
    → counts.present ≡ count_by is_present r.cells → counts.missing ≡ count_by is_missing r.cells
    → counts.contested ≡ count_by is_contested r.cells → AreCounts r counts
counts_of_positions r counts whole present missing contested = record {
  present = present ∙ by_position is_present r whole;
  missing = missing ∙ by_position is_missing r whole;
  contested = contested ∙ by_position is_contested r whole;
}
