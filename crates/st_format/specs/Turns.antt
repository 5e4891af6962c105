-- The turns of a source of datagrams (own).
use Rattle.std.specs.Prelude.{◌≡◌, ℕ, ◌<◌, Bool, true, false, List, [], ◌∷◌, ◌++◌, take, ⊤, Option}
use Rattle.std.specs.Prelude.{None, Some}
use Rattle.st_format.specs.Device.{CountsOne}
use Rattle.st_format.specs.declared.path.Path.{Path}
use Rattle.st_format.specs.declared.path.Path.TheVariants.{A, B}
use Rattle.st_format.specs.declared.device.Turn.{Turn}
use Rattle.st_format.specs.declared.device.Turn.TheVariants.{Datagram, Quiet, End}

-- A turn that is to come: a datagram of these octets by a path, or none. After the last there is
-- only the end.
pub data Due : Type 0 where
  Comes : Path → List ℕ → Due
  Nothing : Due

-- two paths are one
abbrev pub is_path : Path → Path → Bool
is_path A A = true
is_path A B = false
is_path B A = false
is_path B B = true

-- the octets of the datagrams among turns, in order
abbrev pub datagrams_of : List Due → List (List ℕ)
datagrams_of [] = []
datagrams_of (Comes path octets ∷ due) = octets ∷ datagrams_of due
datagrams_of (Nothing ∷ due) = datagrams_of due

-- a source gave these turns, in this order
abbrev pub GivesTurns : Option (List Due) → Option (List Due) → List Due → Type 0
GivesTurns None new due = ⊤
GivesTurns (Some old) None due = ⊥
GivesTurns (Some old) (Some new) due = old ≡ due ++ new

-- no turn is left
abbrev pub HasEnded : Option (List Due) → Type 0
HasEnded None = ⊤
HasEnded (Some due) = due ≡ []

-- a source told this turn, where the octets of a datagram stand at the front of a buffer
abbrev pub TakesTurn : Option (List Due) → Option (List Due) → Turn → List ℕ → Type 0
TakesTurn old new (Datagram path count) buf = GivesTurns old new (Comes path (take count buf) ∷ [])
TakesTurn old new Quiet buf = GivesTurns old new (Nothing ∷ [])
TakesTurn old new End buf = GivesTurns old new [] × HasEnded old × HasEnded new

-- a datagram is one more that was delivered, and another turn none
abbrev pub CountsTurn : Turn → ℕ → ℕ → Type 0
CountsTurn (Datagram path count) old new = CountsOne old new
CountsTurn Quiet old new = new ≡ old
CountsTurn End old new = new ≡ old

-- a datagram has at most 65,535 octets
abbrev pub IsWithin : Turn → Type 0
IsWithin (Datagram path count) = count < 65536
IsWithin Quiet = ⊤
IsWithin End = ⊤

-- a turn says that the source came to its end
abbrev pub IsEnd : Turn → Type 0
IsEnd (Datagram path count) = ⊥
IsEnd Quiet = ⊥
IsEnd End = ⊤

-- the datagram that came in a turn, if one did: its path, and the octets at the front of a buffer
abbrev pub arrived : Turn → List ℕ → List (Path × List ℕ)
arrived (Datagram path count) buf = (path, take count buf) ∷ []
arrived Quiet buf = []
arrived End buf = []

-- the datagrams among turns, each with its path, in order
abbrev pub came_of : List Due → List (Path × List ℕ)
came_of [] = []
came_of (Comes path octets ∷ due) = (path, octets) ∷ came_of due
came_of (Nothing ∷ due) = came_of due
