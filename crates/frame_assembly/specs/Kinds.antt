-- How many samples of a raster are of each kind (own).
use Rattle.std.specs.Prelude.{◌≡◌, ℕ, Bool, count_by}
use Rattle.st_format.specs.declared.cell.Cell.{Cell}
use Rattle.st_format.specs.Cell.{is_contested, is_missing, is_present}
use Rattle.st_format.specs.Position.{places}
use Rattle.st_format.specs.Raster.{Raster, cell_at}
use Rattle.frame_assembly.specs.declared.counts.Counts.{Counts}

-- how many positions have a cell of a kind
abbrev pub positions_of : (Cell → Bool) → Raster → ℕ
positions_of kind r = count_by (λ p. kind (cell_at r p)) (places r.format)

-- The three numbers of positions
pub record AreCounts (r : Raster) (counts : Counts) : Type 0 where
  pub present : counts.present ≡ positions_of is_present r
  pub missing : counts.missing ≡ positions_of is_missing r
  pub contested : counts.contested ≡ positions_of is_contested r

-- how many cells of a frame are of each kind
abbrev pub counts_of : Raster → Counts
counts_of r = record {
  present = count_by is_present r.cells;
  missing = count_by is_missing r.cells;
  contested = count_by is_contested r.cells;
}
