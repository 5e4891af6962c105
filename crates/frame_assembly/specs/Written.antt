-- Cells that are written one after the other.
use Rattle.std.specs.Prelude.{ℕ, ◌+◌, List, [], ◌∷◌, slice_index_or, slice_set}
use Rattle.st_format.specs.declared.cell.Cell.{Cell}
use Rattle.st_format.specs.declared.cell.Cell.TheVariants.{Missing, Value}
use Rattle.st_format.specs.Cell.{join}

-- Values written from number k on, one after the other, each joined to what stands there (own): the
-- writes of the code. Clauses of public calls say Join of rasters in its place.
unfoldable pub written_from : ℕ → List ℕ → List Cell → List Cell
written_from k [] cells = cells
written_from k (v ∷ vs) cells =
    written_from (k + 1) vs (slice_set cells k (join (slice_index_or cells k Missing) (Value v)))
