-- A frame to look at (own): a picture of R, G and B of 8 bits. A pixel is magenta where a sample of
-- it is missing, red where one is contested and none is missing, and else its luma as grey, or its
-- R, G and B. The samples of a pixel are those that stand at its column.
use Rattle.std.specs.Prelude.{ℕ, ◌-◌, ◌/◌, ◌%◌, ◌^◌, ◌==◌, ◌||◌, Bool, true, if◌then◌else◌}
use Rattle.std.specs.Prelude.{List, [], ◌∷◌}
use Rattle.std.specs.List.{flat_map, range_with_len}
use Rattle.st_format.specs.declared.cell.Cell.{Cell}
use Rattle.st_format.specs.declared.format.Format.{Format}
use Rattle.st_format.specs.declared.sampling.Sampling.{Sampling}
use Rattle.st_format.specs.declared.sampling.Sampling.TheVariants.{Ycc422, Ycc444, Rgb}
use Rattle.st_format.specs.declared.sampling.Depth.{Depth}
use Rattle.st_format.specs.declared.sampling.Depth.TheVariants.{D8}
use Rattle.st_format.specs.Cell.{is_contested, is_missing, known_value}
use Rattle.st_format.specs.Fields.{Fields}
use Rattle.st_format.specs.Pgroup.{bits_of}
use Rattle.st_format.specs.Raster.{Raster, cell_at}

-- R, G and B of what is missing, and of what is contested
abbrev pub magenta : List ℕ
magenta = 255 ∷ 0 ∷ 255 ∷ []

-- R, G and B of a pixel of which a sample is contested and none is missing
abbrev pub red : List ℕ
red = 255 ∷ 0 ∷ 0 ∷ []

-- the eight greatest bits of a value
abbrev pub eight_bits : Depth → ℕ → ℕ
eight_bits depth value = value / 2 ^ (bits_of depth - 8)

-- R, G and B of a pixel's values: of YCbCr its luma alone
abbrev pub shown : Sampling → Depth → ℕ → ℕ → ℕ → List ℕ
shown Ycc422 depth x y z =
    eight_bits depth x ∷ eight_bits depth x ∷ eight_bits depth x ∷ []
shown Ycc444 depth x y z =
    eight_bits depth x ∷ eight_bits depth x ∷ eight_bits depth x ∷ []
shown Rgb depth x y z = eight_bits depth x ∷ eight_bits depth y ∷ eight_bits depth z ∷ []

-- the same of its cells
abbrev pub seen_cells : Sampling → Depth → Cell → Cell → Cell → List ℕ
seen_cells s depth a b c =
    if is_missing a || is_missing b || is_missing c then magenta else
    (if is_contested a || is_contested b || is_contested c then red else
    shown s depth (known_value a) (known_value b) (known_value c))

-- whether all three components stand at a column: in 4:2:2 at the even ones alone
abbrev pub has_all : Sampling → ℕ → Bool
has_all Ycc422 column = column % 2 == 0
has_all Ycc444 column = true
has_all Rgb column = true

-- the cell of a component at a column, and that of the first where there is none
abbrev pub cell_there : Raster → ℕ → ℕ → ℕ → Cell
cell_there r row column component =
    cell_at r (record {
      row = row;
      column = column;
      component = if has_all r.format.sampling column then component else 0;
    })

-- R, G and B of a pixel
unfoldable pub pixel_seen : Raster → ℕ → ℕ → List ℕ
pixel_seen r row column =
    seen_cells r.format.sampling r.format.depth (cell_there r row column 0)
    (cell_there r row column 1) (cell_there r row column 2)

-- those of all pixels: rows from the top, columns from the left
abbrev pub pixels_seen : Raster → ℕ → List ℕ
pixels_seen r count =
    flat_map (λ k. pixel_seen r (k / r.format.width) (k % r.format.width))
    (range_with_len 0 count)

-- the format of the view: 8 bits of R, G and B, of the frame's size and rate
abbrev pub view_fields : Format → Fields
view_fields f = record {
  sampling = Rgb;
  depth = D8;
  width = f.width;
  height = f.height;
  n = f.n;
  d = f.d;
}
