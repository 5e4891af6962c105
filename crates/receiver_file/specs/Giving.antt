-- What a reading makes of the octets that a source gave (own).
use Rattle.std.specs.Prelude.{◌≡◌, ℕ, List, [], ◌++◌, Result, Ok}
use Rattle.media_file.specs.declared.fault.FileFault.{FileFault}
use Rattle.st_format.specs.Device.{AreOctets}

-- A source gave octets of which the reading makes this value, whatever is behind them: what it gave
-- so far was `before`, and is `now`.
pub record GaveOf {X : Type 0} (reading : List ℕ → Result (X × List ℕ) FileFault)
    (before now : List ℕ) (x : X) : Type 0 where
  pub part : List ℕ
  pub bytes : AreOctets part
  pub grown : now ≡ before ++ part
  pub says : (behind : List ℕ) → reading (part ++ behind) ≡ Ok (x, behind)

-- A source gave octets of which the reading makes this value, all of them, and has ended.
pub record GaveAllOf {X : Type 0} (reading : List ℕ → Result (X × List ℕ) FileFault)
    (before now : List ℕ) (ended : Type 0) (x : X) : Type 0 where
  pub part : List ℕ
  pub bytes : AreOctets part
  pub grown : now ≡ before ++ part
  pub over : ended
  pub says : reading part ≡ Ok (x, [])
