-- What holds where a run ends by a refusal.
use Rattle.std.specs.Prelude.{◌≡◌, ℕ, List, ◌++◌, codes, Result, Ok, Err, ⊤}
use Rattle.run_outcome.specs.RefusalText.{refusal_text}
use Rattle.run_outcome.specs.declared.fault.Fault.{Fault}
use Rattle.run_outcome.specs.declared.fault.Fault.TheVariants.{Refused, Device, Memory}
use Rattle.run_outcome.specs.declared.refusal.Refusal.{Refusal}

-- where a run ends by a refusal, this holds of the refusal
abbrev pub OfRefusal : Fault → (Refusal → Type 0) → Type 0
OfRefusal (Refused r) Holds = Holds r
OfRefusal Device Holds = ⊤
OfRefusal Memory Holds = ⊤

-- a refusal of which this holds was told by its line, behind what the sink had taken
pub record TellsRefusal (Is : Refusal → Type 0) (old new : List ℕ) : Type 0 where
  pub refusal : Refusal
  pub is : Is refusal
  pub told : new ≡ old ++ (codes "st2110: " ++ refusal_text refusal ++ codes "\n")

-- what a run came to was a refusal, which was told by its line
abbrev pub TellsOutcome : {V : Type 0} → Result V Fault → List ℕ → List ℕ → Type 0
TellsOutcome (Ok v) old new = ⊥
TellsOutcome (Err f) old new = TellsRefusal (λ r. f ≡ Refused r) old new
