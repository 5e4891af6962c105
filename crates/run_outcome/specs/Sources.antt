-- The text of a source.
use Rattle.std.specs.Prelude.{◌≡◌, ℕ, List, codes, Option, None, Some}
use Rattle.run_outcome.specs.Timestamps.{IsNumberOf}

-- a number, or `any` for none
abbrev pub IsSourceText : List ℕ → Option ℕ → Type 0
IsSourceText text None = text ≡ codes "any"
IsSourceText text (Some n) = IsNumberOf text n
