-- The words for the first timestamps that come (own).
use Rattle.std.specs.Prelude.{◌≡◌, ℕ, ◌⊎◌, List, codes, Some}
use Rattle.path_receiver.specs.Opening.{IsWindowSize}
use Rattle.run_outcome.specs.Timestamps.{IsNumberOf}
use Rattle.st_format.specs.Text.{parted}

-- `first:` and a number from 1 to 16
pub record AsksNumber (text : List ℕ) (count : ℕ) : Type 0 where
  pub number : List ℕ
  pub parts : parted 58 text ≡ Some (codes "first", number)
  pub is : IsNumberOf number count
  pub size : IsWindowSize count

-- a text asks for the first so many: `all` for sixteen, which are the most that a window has
abbrev pub AsksFirst : List ℕ → ℕ → Type 0
AsksFirst text count = ((text ≡ codes "all") × (count ≡ 16)) ⊎ AsksNumber text count
