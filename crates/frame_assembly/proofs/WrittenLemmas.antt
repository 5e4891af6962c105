-- Writing values one after the other joins the cells of their offers.
use Rattle.std.proofs.Common.{◌≡◌, ℕ, ◌+◌, ◌≤◌, List, [], ◌∷◌, length, get_or, set, sym, ap, ◌∙◌}
use Rattle.std.proofs.Common.{arith}
use Rattle.std.proofs.Math.ListN.{length-set}
use Rattle.st_format.specs.declared.cell.Cell.{Cell}
use Rattle.st_format.specs.declared.cell.Cell.TheVariants.{Missing, Value}
use Rattle.st_format.specs.declared.format.Format.{Format}
use Rattle.st_format.specs.Cell.{join}
use Rattle.st_format.specs.Position.{place, sample_count}
use Rattle.st_format.specs.Offer.{Offer}
use Rattle.st_format.specs.Raster.{cells_of, joined_cells, offers_from}
use Rattle.st_format.proofs.Rasters.{cells_of-append, joined-assoc, joined_none, joined_one}
use Rattle.frame_assembly.specs.Written.{written_from}

pub written_from-joined : (f : Format) (ts k : ℕ) (vs : List ℕ) (cells : List Cell)
    → length cells ≡ sample_count f → k + length vs ≤ sample_count f
    → written_from k vs cells ≡ joined_cells cells (cells_of f (offers_from f ts k vs) ts)
unfolding written_from
written_from-joined f ts k [] cells h le = sym (joined_none f ts cells h)
written_from-joined f ts k (v ∷ vs) cells h le =
    let c : Cell = join (get_or cells k Missing) (Value v) in
    let o : List Offer = record { timestamp = ts; position = place f k; value = v } ∷ [] in
    written_from-joined f ts (k + 1) vs (set cells k c) (length-set cells k c ∙ h) (omega arith)
    ∙ ap (λ (ds : List Cell). joined_cells ds (cells_of f (offers_from f ts (k + 1) vs) ts))
    (joined_one f ts k v cells h (omega arith))
    ∙ joined-assoc cells (cells_of f o ts) (cells_of f (offers_from f ts (k + 1) vs) ts)
    ∙ ap (joined_cells cells) (sym (cells_of-append f o (offers_from f ts (k + 1) vs) ts))
