-- What a device tells of itself from one call to the next. A list that is `None` is not told.
use Rattle.std.specs.Prelude.{◌≡◌, ℕ, ◌+◌, ◌-◌, ◌^◌, ◌<◌, ◌≤◌, ◌⊎◌, min, List, [], ◌∷◌, ◌++◌}
use Rattle.std.specs.Prelude.{length, slice_index, drop, take, ⊤, Option, None, Some, Result, MatchResult}
use Rattle.std.specs.Io.KnownBytes.{Consumes, Appends}

-- one more, but at most 2^64 - 1 (own)
abbrev pub CountsOne : ℕ → ℕ → Type 0
CountsOne old new = new ≡ min (old + 1) (2 ^ 64 - 1)

-- a count stays at 2^64 - 1 once it is there (own)
abbrev pub capped : ℕ → ℕ
capped n = min n (2 ^ 64 - 1)

-- an `Err` is one failure more, and an `Ok` none (own)
abbrev pub CountsFaults : {V E : Type 0} → ℕ → ℕ → Result V E → Type 0
CountsFaults old new result = MatchResult result (λ _. new ≡ old) (λ _. CountsOne old new)

-- a failure was counted between old and new, or the count already stood at its greatest (own)
abbrev pub Failed : ℕ → ℕ → Type 0
Failed old new = (old < new) ⊎ (2 ^ 64 - 1 ≤ old)

-- octets: numbers below 256 (own)
abbrev pub AreOctets : List ℕ → Type 0
AreOctets octets = (i : ℕ) → slice_index octets i < 256

-- what a device tells, if it tells it, is octets (own)
abbrev pub TellsOctets : Option (List ℕ) → Type 0
TellsOctets None = ⊤
TellsOctets (Some octets) = AreOctets octets

-- a device that tells what it is to give tells these first (own)
abbrev pub BeginsWith : Option (List ℕ) → List ℕ → Type 0
BeginsWith None octets = ⊤
BeginsWith (Some all) octets = all ≡ octets ++ drop (length octets) all

-- a device that didn't tell octets goes on telling none (own)
abbrev pub StaysUntold : Option (List ℕ) → Option (List ℕ) → Type 0
StaysUntold None new = new ≡ None
StaysUntold (Some old) new = ⊤

-- a source gave some first part of these octets, and not all (own)
pub record ConsumesPrefix (old new : Option (List ℕ)) (octets : List ℕ) : Type 0 where
  pub count : ℕ
  pub short : count < length octets
  pub given : Consumes old new (take count octets)

-- a sink took some first part of these octets, and not all (own)
pub record AppendsPrefix (old new : Option (List ℕ)) (octets : List ℕ) : Type 0 where
  pub count : ℕ
  pub short : count < length octets
  pub taken : Appends old new (take count octets)

-- a sink took these datagrams, in this order (own)
abbrev pub TakesAll : Option (List (List ℕ)) → Option (List (List ℕ)) → List (List ℕ) → Type 0
TakesAll None new datagrams = ⊤
TakesAll (Some old) None datagrams = ⊥
TakesAll (Some old) (Some new) datagrams = new ≡ old ++ datagrams

-- a sink took one datagram (own)
abbrev pub TakesOne : Option (List (List ℕ)) → Option (List (List ℕ)) → List ℕ → Type 0
TakesOne old new octets = TakesAll old new (octets ∷ [])

-- a sink took none (own)
abbrev pub KeepsAll : Option (List (List ℕ)) → Option (List (List ℕ)) → Type 0
KeepsAll None new = ⊤
KeepsAll (Some old) None = ⊥
KeepsAll (Some old) (Some new) = new ≡ old

-- a history grew by some first part of these octets, and not by all (own)
pub record GrowsPart (old new octets : List ℕ) : Type 0 where
  pub count : ℕ
  pub short : count < length octets
  pub grown : new ≡ old ++ take count octets

-- A source gave some first part of these octets, and not all: what it was to give and what it gave
-- so far, `was` and `old` before, `left` and `new` after (own).
pub record GivesPart (was left : Option (List ℕ)) (old new octets : List ℕ) : Type 0 where
  pub count : ℕ
  pub short : count < length octets
  pub given : Consumes was left (take count octets)
  pub grown : new ≡ old ++ take count octets

-- What a source of octets told at some moment: what it had given, what it was to give, and how
-- often it had failed (own).
pub record Told : Type 0 where
  pub gave : List ℕ
  pub to_give : Option (List ℕ)
  pub failures : ℕ

-- where there is no source of octets, nothing was told (own)
abbrev pub told_nothing : Told
told_nothing = record { gave = []; to_give = None; failures = 0 }
