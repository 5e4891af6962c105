-- What stands for a sample that a frame has no value for (own).
use Rattle.std.specs.Prelude.{ℕ, ◌-◌, ◌^◌, min, slice_index, List, [], ◌∷◌, Option, None, Some}
use Rattle.picture_engine.specs.Views.{black}
use Rattle.st_format.specs.declared.format.Format.{Format}
use Rattle.st_format.specs.Pgroup.{bits_of}

-- the values of three components, each at most so much
abbrev pub limited_fill : ℕ → List ℕ → List ℕ
limited_fill most fill =
    min (slice_index fill 0) most ∷ min (slice_index fill 1) most
    ∷ min (slice_index fill 2) most ∷ []

-- The fill of a format: the values that are given, each at most the greatest of a sample; else
-- black.
abbrev pub fill_of : Option (List ℕ) → Format → List ℕ
fill_of None f = black f
fill_of (Some fill) f = limited_fill (2 ^ bits_of f.depth - 1) fill
