-- What wipe and key take for each sample of a row, and make of each sample number (own).
use Rattle.std.specs.Prelude.{ℕ, ◌-◌, ◌*◌, List, min, slice_index}
use Rattle.st_format.specs.declared.format.Format.{Format}
use Rattle.st_format.specs.declared.sampling.Sampling.{Sampling}
use Rattle.st_format.specs.Pgroup.{bits_of}
use Rattle.st_format.specs.Position.{
  Position,
  number_in_row,
  number_of,
  place,
  place_in_row,
}
use Rattle.lane_kernels.specs.Formulas.{full_key, key, key_of, weight, wipe}
use Rattle.key_mix.specs.Jobs.{along}
use Rattle.key_mix.specs.declared.Axis.{Axis}
use Rattle.key_mix.specs.declared.Axis.TheVariants.{Columns, Rows}
use Rattle.key_mix.specs.declared.WipeShape.{WipeShape}

-- the position of the j-th sample of a row
abbrev pub in_row : Sampling → ℕ → ℕ → Position
in_row s row j =
    record { row = row; column = (place_in_row s j).0; component = (place_in_row s j).1 }

-- the weight of that sample in a wipe, by its column or its row
abbrev pub row_weight : WipeShape → Sampling → ℕ → ℕ → ℕ
row_weight w s row j = weight (along w.axis (in_row s row j)) w.position w.soft

-- the weight in the next row, where that row's own is fresh
abbrev pub next_weight : Axis → ℕ → ℕ → ℕ
next_weight Columns fresh old = old
next_weight Rows fresh old = fresh

-- sample number k of a wipe
abbrev pub wiped_at : WipeShape → Format → List ℕ → List ℕ → ℕ → ℕ
wiped_at w f a b k =
    wipe (slice_index a k) (slice_index b k) (weight (along w.axis (place f k)) w.position w.soft)

-- the number of the luma at the row and column of a position
abbrev pub luma_number : Format → Position → ℕ
luma_number f at = number_of f (record { row = at.row; column = at.column; component = 0 })

-- the key at a column of a row of the sampling s: its luma above black, up to white
abbrev pub column_key : Sampling → ℕ → List ℕ → ℕ → ℕ
column_key s scale row column =
    min (219 * scale) (slice_index row (number_in_row s column 0) - 16 * scale)

-- sample number k of two pictures of the format f, keyed by the lumas of one of the format g
abbrev pub keyed_at : Format → Format → List ℕ → List ℕ → List ℕ → ℕ → ℕ
keyed_at f g a b lumas k =
    key (full_key (bits_of f.depth)) (slice_index a k) (slice_index b k)
    (key_of (bits_of f.depth) (slice_index lumas (luma_number g (place f k))))
