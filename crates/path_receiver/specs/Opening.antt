-- What a receiver is opened with.
use Rattle.std.specs.Prelude.{◌≡◌, ℕ, ◌<◌, ◌≤◌, List, [], ◌∷◌, length, Option, Some, None, ⊤}
use Rattle.st_format.specs.declared.format.Format.{Format}
use Rattle.st_format.specs.Member.{IsMember}

-- A format, an RTP payload type, a source that is pinned or none, and a window of timestamps (own)
pub record Opening : Type 0 where
  pub format : Format
  pub payload_type : ℕ
  pub ssrc : Option ℕ
  pub window : List ℕ

-- Where a source is pinned, it is the datagram's; where none is, any will do (own).
abbrev pub IsSource : Option ℕ → ℕ → Type 0
IsSource None ssrc = ⊤
IsSource (Some pinned) ssrc = pinned ≡ ssrc

-- no timestamp stands twice (own)
abbrev pub AreDifferent : List ℕ → Type 0
AreDifferent [] = ⊤
AreDifferent (t ∷ w) = (IsMember t w → ⊥) × AreDifferent w

-- a window has 1 to 16 timestamps (own)
pub record IsWindowSize (count : ℕ) : Type 0 where
  pub some : 0 < count
  pub most : count ≤ 16

-- A window: 1 to 16 timestamps, all different (own)
pub record IsWindow (window : List ℕ) : Type 0 where
  pub size : IsWindowSize (length window)
  pub different : AreDifferent window
