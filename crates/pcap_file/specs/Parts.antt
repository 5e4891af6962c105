-- Octets cut into a header and what is behind it, and numbers in octets.
use Rattle.std.specs.Prelude.{◌≡◌, ℕ, List, ◌++◌, length, take, drop}
use Rattle.std.specs.Int.{w16, from_be_bytes}

-- a header of so many octets, and what is behind it
pub record Begins (octets : List ℕ) (count : ℕ) (header rest : List ℕ) : Type 0 where
  pub counted : length header ≡ count
  pub parts : octets ≡ header ++ rest

-- the number in the two octets behind the first i, most significant first
abbrev pub number_16 : ℕ → List ℕ → ℕ
number_16 i octets = from_be_bytes w16 (take 2 (drop i octets))
