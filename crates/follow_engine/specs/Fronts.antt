-- The fronts of files that are followed (own): what stands before their records.
use Rattle.std.specs.Prelude.{◌⊎◌, ⊤, ℕ, List, [], ◌∷◌, Result}
use Rattle.flow.specs.declared.flows.Flows.{Flows}
use Rattle.capture_engines.specs.Files.{HasFileText, first_way, other_ways}
use Rattle.capture_engines.specs.Received.{StopsFront}
use Rattle.capture_engines.specs.declared.way.Way.{Way}
use Rattle.run_outcome.specs.declared.refusal.Refusal.{Refusal}

-- what was read of a file that is taken so has no fault at its front
abbrev pub HasSoundFront : Way → (List ℕ → Type 0) → Type 0
HasSoundFront w told = (octets : List ℕ) → told octets
    → (text : List ℕ) × HasFileText w octets text

-- so of each of some files
abbrev pub HaveSoundFronts : {S : Type 0} → List (Result Flows Refusal) → (S → List ℕ → Type 0)
    → List S → Type 0
HaveSoundFronts ways told [] = ⊤
HaveSoundFronts ways told (s ∷ ss) =
    HasSoundFront (first_way ways) (told s) × HaveSoundFronts (other_ways ways) told ss

-- one of them is stopped at its front, and those before it have no fault there
abbrev pub StopsFirstFront : {S : Type 0} → List (Result Flows Refusal) → (S → List ℕ → Type 0)
    → List S → Refusal → Type 0
StopsFirstFront ways told [] r = ⊥
StopsFirstFront ways told (s ∷ ss) r = StopsFront (first_way ways) (told s) r
    ⊎ (HasSoundFront (first_way ways) (told s) × StopsFirstFront (other_ways ways) told ss r)
