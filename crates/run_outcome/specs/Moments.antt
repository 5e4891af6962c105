-- Devices at two moments: as they were before a run, and as they are behind it (own).
use Rattle.std.specs.Prelude.{List, ℕ, Option, None, Some}
use Rattle.st_format.specs.History.{IsRead}

-- octets are what was read of a source, between two moments
abbrev pub WasRead : {S : Type 0} → (S → List ℕ) → (S → Type 0) → S × S → List ℕ → Type 0
WasRead gave ended s octets = IsRead (gave s.0) (gave s.1) (ended s.1) octets

-- a device that may be there, as it was and as it is; one that is gone was neither read nor written
abbrev pub pair : {S : Type 0} → Option S → Option S → Option (S × S)
pair None new = None
pair (Some s) None = Some (s, s)
pair (Some s) (Some t) = Some (s, t)
