-- Cells whose values fit the depth (SMPTE ST 2110-20, depth).
use Rattle.std.specs.Prelude.{⊤}
use Rattle.std.specs.List.{AllByRecursion}
use Rattle.st_format.specs.declared.cell.Cell.{Cell}
use Rattle.st_format.specs.declared.cell.Cell.TheVariants.{Missing, Value, Contested}
use Rattle.st_format.specs.declared.format.Format.{Format}
use Rattle.st_format.specs.Picture.{FitsDepth}
use Rattle.st_format.specs.Raster.{Raster, IsWhole}

-- the value of a cell fits the depth, where it has one
abbrev pub CellFits : Format → Cell → Type 0
CellFits f Missing = ⊤
CellFits f (Value v) = FitsDepth f v
CellFits f Contested = ⊤

-- each value that a raster's cells have fits its depth
abbrev pub ValuesFit : Raster → Type 0
ValuesFit r = AllByRecursion (CellFits r.format) r.cells

-- What the raster of a frame always is: each position has its cell, and each value fits the depth
-- (own)
pub record IsFrame (r : Raster) : Type 0 where
  pub whole : IsWhole r
  pub fit : ValuesFit r
