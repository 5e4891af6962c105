-- Settled: a frame as a picture (own).
use Rattle.std.specs.Prelude.{◌≡◌, ℕ, ◌+◌, ◌*◌, ◌<◌, ◌≤◌, List, length, map, slice_index}
use Rattle.std.specs.Prelude.{slice_index_or}
use Rattle.std.specs.List.{AllByRecursion, range_with_len}
use Rattle.st_format.specs.declared.cell.Cell.{Cell}
use Rattle.st_format.specs.declared.cell.Cell.TheVariants.{Missing, Value, Contested}
use Rattle.st_format.specs.declared.format.Format.{Format}
use Rattle.st_format.specs.declared.sampling.Sampling.{Sampling}
use Rattle.st_format.specs.Picture.{FitsDepth, IsPicture, Values, value_at}
use Rattle.st_format.specs.Position.{Position, component_in_row, places}
use Rattle.st_format.specs.Raster.{Raster, cell_at}
use Rattle.frame_assembly.specs.declared.base.Base.{Base}
use Rattle.frame_assembly.specs.declared.base.Base.TheVariants.{Fill, Hold}
use Rattle.frame_assembly.specs.Packed.{marked}

-- the value of a cell where it has one, else the value that fills it
abbrev pub settled_cell : Cell → ℕ → ℕ
settled_cell Missing fill = fill
settled_cell (Value v) fill = v
settled_cell Contested fill = fill

-- the value that a base has for a position: the fill's of its component, or the held picture's
-- there
abbrev pub base_value : {A : Type 0} → Base A → Position → ℕ
base_value (Fill fill) p = slice_index fill p.component
base_value (Hold picture) p = value_at picture.now p

-- a base for a format: a fill that fits the depth, or a held picture of the format
abbrev pub IsBaseOf : {A : Type 0} → Base A → Format → Type 0
IsBaseOf (Fill fill) f = AllByRecursion (FitsDepth f) fill
IsBaseOf (Hold picture) f = picture.now.format ≡ f

-- Settled, of cells and a base: at each position the value where the cell has one, else the base's
abbrev pub settled_picture : {A : Type 0} → Raster → Base A → Values
settled_picture r base =
    record {
      format = r.format;
      samples =
          map (λ p. settled_cell (cell_at r p) (base_value base p)) (places r.format);
    }

-- The same by sample number, for the code's own clauses. Clauses of public calls say `settled`.
abbrev pub base_number : {A : Type 0} → Sampling → Base A → ℕ → ℕ
base_number s (Fill fill) k = slice_index fill (component_in_row s k)
base_number s (Hold picture) k = slice_index picture.now.samples k

-- the value of each cell, or the base's of its number where it has none
abbrev pub settled_numbers : List Cell → (ℕ → ℕ) → List ℕ
settled_numbers cells base =
    map (λ k. settled_cell (slice_index_or cells k Missing) (base k))
    (range_with_len 0 (length cells))

-- what is held is a picture
abbrev pub HoldsPicture : {A : Type 0} → Base A → Type 0
HoldsPicture (Fill fill) = Unit {0}
HoldsPicture (Hold picture) = IsPicture picture.now

-- Samples of groups, so many of each: those of the first groups are settled by the groups' marks,
-- each over the base's value of its number, and the others are as they were.
pub record IsSettledTo (samples at : ℕ) (marks : List ℕ) (base : ℕ → ℕ)
    (old new : List ℕ) : Type 0 where
  pub long : length new ≡ length old
  pub settled : (g i : ℕ) → g < at → i < samples
      → slice_index new (samples * g + i)
      ≡ settled_cell (marked (slice_index marks g) i (slice_index old (samples * g + i)))
      (base (samples * g + i))
  pub others : (k : ℕ) → samples * at ≤ k → slice_index new k ≡ slice_index old k
