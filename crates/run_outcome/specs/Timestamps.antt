-- Numbers as text, and timestamps parted by commas.
use Rattle.std.specs.Prelude.{◌≡◌, ℕ, List, [], ◌∷◌, None, Some}
use Rattle.std.specs.Str.Parse.{digits_value}
use Rattle.st_format.specs.Words.{IsNumber}
use Rattle.st_format.specs.Text.{parted}

-- decimal digits of this value
pub record IsNumberOf (text : List ℕ) (n : ℕ) : Type 0 where
  pub is : IsNumber text
  pub value : n ≡ digits_value 10 text

-- one timestamp or more, parted by commas
abbrev pub AreTimestamps : List ℕ → List ℕ → Type 0
AreTimestamps text [] = ⊥
AreTimestamps text (t ∷ []) = (parted 44 text ≡ None) × IsNumberOf text t
AreTimestamps text (t ∷ u ∷ ts) =
    (first : List ℕ) × (rest : List ℕ) × (parted 44 text ≡ Some (first, rest)) × IsNumberOf first t
    × AreTimestamps rest (u ∷ ts)
