-- Values and cells that fit their format, by number.
use Rattle.std.proofs.Common.{ℕ, zero, suc, List, [], ◌∷◌, get_or, map}
use Rattle.std.specs.List.{AllByRecursion}
use Rattle.std.proofs.lemmas.Nat.{pow_pos}
use Rattle.st_format.specs.declared.cell.Cell.{Cell}
use Rattle.st_format.specs.declared.cell.Cell.TheVariants.{Missing}
use Rattle.st_format.specs.declared.format.Format.{Format}
use Rattle.st_format.specs.Fit.{CellFits}
use Rattle.st_format.specs.Pgroup.{bits_of}
use Rattle.st_format.specs.Picture.{FitsDepth}

pub each_fits : {X Y : Type 0} (P : Y → Type 0) (g : X → Y) (xs : List X) → ((x : X) → P (g x))
    → AllByRecursion P (map g xs)
each_fits P g [] h = tt
each_fits P g (x ∷ xs) h = (h x, each_fits P g xs h)

pub cell_number-fits : (f : Format) (cells : List Cell) (k : ℕ) → AllByRecursion (CellFits f) cells
    → CellFits f (get_or cells k Missing)
cell_number-fits f [] k fit = tt
cell_number-fits f (c ∷ cs) zero fit = fit.0
cell_number-fits f (c ∷ cs) (suc k) fit = cell_number-fits f cs k fit.1

pub value_number-fits : (f : Format) (vs : List ℕ) (k : ℕ) → AllByRecursion (FitsDepth f) vs
    → FitsDepth f (get_or vs k 0)
value_number-fits f [] k fit = pow_pos (bits_of f.depth)
value_number-fits f (v ∷ vs) zero fit = fit.0
value_number-fits f (v ∷ vs) (suc k) fit = value_number-fits f vs k fit.1
