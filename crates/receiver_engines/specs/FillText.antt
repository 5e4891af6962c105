-- The text of a fill (own).
use Rattle.std.specs.Prelude.{◌≡◌, ℕ, List, Some}
use Rattle.st_format.specs.Text.{parted}
use Rattle.run_outcome.specs.Timestamps.{IsNumberOf}

-- three numbers, parted by commas: a value for each component
pub record IsFillText (text : List ℕ) (a b c : ℕ) : Type 0 where
  pub first : List ℕ
  pub second : List ℕ
  pub third : List ℕ
  pub rest : List ℕ
  pub parts : parted 44 text ≡ Some (first, rest)
  pub parts_rest : parted 44 rest ≡ Some (second, third)
  pub first_is : IsNumberOf first a
  pub second_is : IsNumberOf second b
  pub third_is : IsNumberOf third c
