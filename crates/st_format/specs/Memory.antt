-- What contracts see of the devices in memory (own).
use Rattle.std.specs.Prelude.{Bool, ℕ, ◌<◌, List, [], ◌∷◌, length, Option, Vec, ⊤}
use Rattle.st_format.specs.Turns.{Due, Comes, Nothing}
use Rattle.st_format.specs.declared.device.SourceFault.{SourceFault}
use Rattle.st_format.specs.declared.path.Path.{Path}
use Rattle.st_format.specs.declared.memory.turns.MemoryTurn.{MemoryTurn}
use Rattle.st_format.specs.declared.memory.turns.MemoryTurn.TheVariants.{Datagram, Quiet}

-- `fails_in` is the call that fails, counted from 1 for the next one; 0 where none does.

-- a source in memory: a call gives at most `piece` octets
pub record Source : Type 0 where
  pub to_give : List ℕ
  pub gave : List ℕ
  pub is_ended : Bool
  pub piece : ℕ
  pub fails_in : ℕ
  pub failures : ℕ

-- a sink in memory: it has room for `room` octets more, and a call takes at most `piece`
pub record Sink : Type 0 where
  pub held : List ℕ
  pub took : List ℕ
  pub room : ℕ
  pub piece : ℕ
  pub fails_in : ℕ
  pub failures : ℕ

-- a sink of datagrams in memory: `capacities` has the octets that each of its slots has room for,
-- and `rooms` those of the slots that are still free
pub record Datagrams : Type 0 where
  pub taken : List (List ℕ)
  pub capacities : List ℕ
  pub rooms : List ℕ
  pub fails_in : ℕ
  pub failures : ℕ

-- a source of datagrams in memory
pub record Turns : Type 0 where
  pub turns : List Due
  pub came : List (Path × List ℕ)
  pub is_ended : Bool
  pub fails_in : ℕ
  pub delivered : ℕ
  pub failures : ℕ
  pub last_fault : Option SourceFault

-- the octets of a vector
abbrev pub octets_of : {A : Type 0} → Vec ℕ A → List ℕ
octets_of v = v.items

-- how many octets a vector has room for
abbrev pub capacity_of : {A : Type 0} → Vec ℕ A → ℕ
capacity_of v = v.cap

-- no slot is free, or the next one is too small for so many octets
abbrev pub HasNoRoom : List ℕ → ℕ → Type 0
HasNoRoom [] octets = ⊤
HasNoRoom (room ∷ rooms) octets = room < octets

-- a turn that is kept as a vector of octets
abbrev pub due_of : {A : Type 0} → MemoryTurn A → Due
due_of (Datagram path octets) = Comes path octets.items
due_of Quiet = Nothing

-- the next turn is a datagram of more octets than a datagram can have
abbrev pub IsTooLong : List Due → Type 0
IsTooLong [] = ⊥
IsTooLong (Comes path octets ∷ due) = 65535 < length octets
IsTooLong (Nothing ∷ due) = ⊥
