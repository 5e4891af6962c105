-- Texts, parted at a separator.
use Rattle.std.specs.Prelude.{ℕ, ◌+◌, ◌==◌, List, take, drop, position, Option}
use Rattle.std.specs.Option.{option_map}

-- the text before the first separator and the text behind it, where it has one
abbrev pub parted : ℕ → List ℕ → Option (List ℕ × List ℕ)
parted separator text =
    option_map (λ i. (take i text, drop (i + 1) text)) (position (λ octet. octet == separator) text)
