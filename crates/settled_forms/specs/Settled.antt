-- A picture in the form of its sampling (own).
use Rattle.std.specs.Prelude.{◌≡◌, ℕ, ◌<◌, List, slice_index_or, true}
use Rattle.st_format.specs.declared.sampling.Depth.TheVariants.{D10}
use Rattle.st_format.specs.declared.cell.Cell.TheVariants.{Missing}
use Rattle.st_format.specs.declared.sampling.Sampling.{Sampling}
use Rattle.st_format.specs.declared.sampling.Sampling.TheVariants.{Ycc422, Ycc444, Rgb}
use Rattle.st_format.specs.Cell.{is_present}
use Rattle.st_format.specs.Picture.{Values}
use Rattle.st_format.specs.Position.{row_samples}
use Rattle.st_format.specs.Raster.{Raster}
use Rattle.frame_assembly.specs.Rows.{row_cells}
use Rattle.picture_forms.specs.Layouts.{frame_text, pixmap_text}

-- a frame of a YUV4MPEG2 stream, and of RGB a portable pixmap
abbrev pub form_by : Sampling → Values → List ℕ
form_by Ycc422 v = frame_text v
form_by Ycc444 v = frame_text v
form_by Rgb v = pixmap_text v

-- a picture in the form of its sampling
unfoldable pub form_text : Values → List ℕ
form_text v = form_by v.format.sampling v

-- each sample of a row has a value: none is missing, and none contested
abbrev pub RowHasValues : Raster → ℕ → Type 0
RowHasValues r row = (k : ℕ) → k < row_samples r.format
    → is_present (slice_index_or (row_cells r row) k Missing) ≡ true

-- each sample of a frame has a value
abbrev pub HasAllValues : Raster → Type 0
HasAllValues r = (row : ℕ) → row < r.format.height → RowHasValues r row

-- a frame of 4:2:2 at 10 bits of which each sample has a value
abbrev pub IsWholeAsTen : Raster → Type 0
IsWholeAsTen r = (r.format.sampling ≡ Ycc422) × (r.format.depth ≡ D10) × HasAllValues r
