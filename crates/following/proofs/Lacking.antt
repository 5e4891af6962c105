-- A frame that lacks a sample is not complete.
use Rattle.std.proofs.Common.{◌≡◌, ℕ, zero, suc, ◌<◌, Bool, true, false, List, [], ◌∷◌, length}
use Rattle.std.proofs.Common.{get_or, refl, sym, ◌∙◌, subst, arith}
use Rattle.std.specs.Prelude.{count_by}
use Rattle.std.specs.List.{filter}
use Rattle.std.proofs.lemmas.Bool.{eqb-true, false≢true}
use Rattle.std.proofs.lemmas.List.Sums.{length-filter}
use Rattle.st_format.specs.declared.cell.Cell.{Cell}
use Rattle.st_format.specs.declared.cell.Cell.TheVariants.{Missing, Value, Contested}
use Rattle.st_format.specs.Cell.{is_missing}
use Rattle.st_format.specs.Position.{IsPosition, Position, number_of}
use Rattle.st_format.specs.Raster.{IsWhole, Raster, cell_at}
use Rattle.st_format.proofs.Numbering.{number_of-below}
use Rattle.following.specs.Turned.{is_complete}

none_missing : (cells : List Cell) (i : ℕ) → length (filter is_missing cells) ≡ 0 → i < length cells
    → is_missing (get_or cells i Missing) ≡ false
none_missing [] i none lt = absurd (omega (arith, lt))
none_missing (Missing ∷ cells) i none lt = absurd (omega (arith, none))
none_missing (Value v ∷ cells) zero none lt = refl
none_missing (Contested ∷ cells) zero none lt = refl
none_missing (Value v ∷ cells) (suc i) none lt =
    none_missing cells i (omega (arith, none)) (omega (arith, lt))
none_missing (Contested ∷ cells) (suc i) none lt =
    none_missing cells i (omega (arith, none)) (omega (arith, lt))

-- Of a complete frame something is known everywhere.
pub known_cell_at : (r : Raster) (at : Position) → IsWhole r → is_complete r ≡ true
    → IsPosition at r.format → is_missing (cell_at r at) ≡ false
known_cell_at r at whole full is =
    none_missing r.cells (number_of r.format at)
    (length-filter is_missing r.cells ∙ eqb-true (count_by is_missing r.cells) 0 full)
    (subst (λ (n : ℕ). number_of r.format at < n) (sym whole) (number_of-below r.format at is))

pub lacking : (r : Raster) (at : Position) → IsWhole r → IsPosition at r.format
    → is_missing (cell_at r at) ≡ true → is_complete r ≡ false
lacking r at whole is missing = by_cases (is_complete r) known
  where
    known : is_complete r ≡ true → is_missing (cell_at r at) ≡ false
    known full = known_cell_at r at whole full is

    by_cases : (b : Bool) → (b ≡ true → is_missing (cell_at r at) ≡ false) → b ≡ false
    by_cases true h = absurd (false≢true (sym (h refl) ∙ missing))
    by_cases false h = refl
