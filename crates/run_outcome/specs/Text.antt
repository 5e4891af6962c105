-- Texts that are read whole.
use Rattle.std.specs.Prelude.{◌≡◌, ℕ, ◌<◌, ◌≤◌, List, ◌++◌, length}

-- Between two moments a source gave this text, of at most so many octets, and told its end.
pub record GivesText (most : ℕ) (before now : List ℕ) (end : Type 0) (text : List ℕ) : Type 0 where
  pub few : length text ≤ most
  pub given : now ≡ before ++ text
  pub ended : end

-- between two moments a source gave at most so many octets
pub record GivesFew (most : ℕ) (before now : List ℕ) : Type 0 where
  pub octets : List ℕ
  pub few : length octets ≤ most
  pub given : now ≡ before ++ octets

-- between two moments a source gave more octets than so many
pub record GivesMore (most : ℕ) (before now : List ℕ) : Type 0 where
  pub octets : List ℕ
  pub many : most < length octets
  pub given : now ≡ before ++ octets
