-- What joining the cells of another raster, or of offers, does.
use Rattle.std.proofs.Common.{◌≡◌, ℕ, List, get_or, refl, sym, ap, ◌∙◌}
use Rattle.st_format.specs.declared.cell.Cell.{Cell}
use Rattle.st_format.specs.declared.cell.Cell.TheVariants.{Missing}
use Rattle.st_format.specs.declared.format.Format.{Format}
use Rattle.st_format.specs.Cell.{join}
use Rattle.st_format.specs.Fit.{IsFrame}
use Rattle.st_format.specs.Offer.{Offer, cell_of}
use Rattle.st_format.specs.Position.{Position, IsPosition, number_of}
use Rattle.st_format.specs.Raster.{Raster, cell_at, cells_of, joined_cells, joined_rasters}
use Rattle.st_format.specs.Raster.{raster_of}
use Rattle.st_format.proofs.Rasters.{cell_at-joined, cell_at-raster_of, length-cells_of}

-- At each position stands the join.
pub each_absorbed : (r q new : Raster) → IsFrame r → IsFrame q → q.format ≡ r.format
    → new ≡ joined_rasters r q
    → (p : Position) → IsPosition p r.format → cell_at new p ≡ join (cell_at r p) (cell_at q p)
each_absorbed r q new is other same joins p at =
    ap (λ (x : Raster). cell_at x p) joins ∙ cell_at-joined r q p is.whole other.whole (sym same) at

pub each_offered : (r new : Raster) (offers : List Offer) (ts : ℕ) → IsFrame r
    → new.format ≡ r.format → new.cells ≡ joined_cells r.cells (cells_of r.format offers ts)
    → (p : Position) → IsPosition p r.format
    → cell_at new p ≡ join (cell_at r p) (cell_of offers ts p)
each_offered r new offers ts is same cells p at =
    ap (λ (f : Format). get_or new.cells (number_of f p) Missing) same
    ∙ ap (λ (cs : List Cell). get_or cs (number_of r.format p) Missing) cells
    ∙ cell_at-joined r (raster_of r.format offers ts) p is.whole
    (length-cells_of r.format offers ts) refl at
    ∙ ap (join (cell_at r p)) (cell_at-raster_of r.format offers ts p at)
