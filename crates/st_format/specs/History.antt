-- Histories: what a device gave or took so far, from one moment to a later one (own).
use Rattle.std.specs.Prelude.{◌≡◌, ℕ, List, [], ◌++◌, length, drop}

-- what a history has behind what it had before
abbrev pub since : List ℕ → List ℕ → List ℕ
since before now = drop (length before) now

-- a history grew from there
abbrev pub GrewFrom : List ℕ → List ℕ → Type 0
GrewFrom before now = now ≡ before ++ since before now

-- What a run read of a source: octets begin with those that the source gave from one moment to the
-- next, and where it has ended, they are these.
pub record IsRead (before now : List ℕ) (ended : Type 0) (octets : List ℕ) : Type 0 where
  pub behind : List ℕ
  pub parts : octets ≡ since before now ++ behind
  pub all : ended → behind ≡ []
