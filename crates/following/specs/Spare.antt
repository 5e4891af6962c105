-- The frames that are not in, which the next ones will take.
use Rattle.std.specs.Prelude.{◌≡◌, ℕ, ◌+◌, ◌≤◌, All, List, length}
use Rattle.st_format.specs.declared.format.Format.{Format}
use Rattle.st_format.specs.Raster.{Raster}

-- those that are in and those that are spare are as many as there may be, of one format, and there
-- is room for all of them on either side
pub record HasSpare (f : Format) (size : ℕ) (frames spare : List Raster)
    (frames_most spare_most : ℕ) : Type 0 where
  pub count : length frames + length spare ≡ size
  pub of_format : All (λ r. r.format ≡ f) spare
  pub room : size ≤ frames_most
  pub spare_room : size ≤ spare_most
