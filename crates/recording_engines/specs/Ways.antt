-- By which flows recordings are taken among captures (own).
use Rattle.std.specs.Prelude.{◌≡◌, ◌≢◌, ℕ, ◌⊎◌, List, [], Option, None, Some}
use Rattle.std.specs.Prelude.{Result, Ok, Err, map, replicate}
use Rattle.flow.specs.Flow.{IsOnePlace}
use Rattle.flow.specs.declared.flows.Flows.{Flows}
use Rattle.recording_engines.specs.Imported.{AsksFlows, IsSdpFlowsRefusal, SaysFlows}
use Rattle.recording_engines.specs.Strands.{TellsPaths}
use Rattle.run_outcome.specs.declared.refusal.Refusal.{Refusal}
use Rattle.run_outcome.specs.declared.refusal.Refusal.TheVariants as refusal

-- The flows of a run: those of its words, where there are any; else those of the SDP, or what is
-- wrong with them there; and where there is no SDP, none are.
abbrev pub IsWays : Option (List ℕ) → Option (List ℕ) → Option (List ℕ) → Result Flows Refusal
    → Type 0
IsWays None None None w = w ≡ Err refusal.ReceiveNoSdp
IsWays None None (Some text) (Ok flows) = SaysFlows text flows
IsWays None None (Some text) (Err r) = IsSdpFlowsRefusal text r
IsWays a b said (Ok flows) = AsksFlows a b [] flows
IsWays a b said (Err r) = ⊥

-- there are such, so no word is refused
abbrev pub SayWays : Option (List ℕ) → Option (List ℕ) → Option (List ℕ) → Type 0
SayWays a b said = (w : Result Flows Refusal) × IsWays a b said w

-- Those of each of so many files: where both paths have one place, A's for the first of two files,
-- and B's for the second; of other numbers of files none.
abbrev pub AreWays : Result Flows Refusal → ℕ → List (Result Flows Refusal) → Type 0
AreWays (Err r) n each = each ≡ replicate n (Err r)
AreWays (Ok flows) n each =
    ((fs : List Flows) × TellsPaths flows n fs × (each ≡ map (λ f. Ok f) fs))
    ⊎ (IsOnePlace flows × (n ≢ 2) × (each ≡ replicate n (Err refusal.ImportPlaces)))

-- so those of each file are by the words and the SDP
pub record AreWaysBy (a b said : Option (List ℕ)) (n : ℕ) (each : List (Result Flows Refusal))
    : Type 0 where
  pub flows : Result Flows Refusal
  pub are : IsWays a b said flows
  pub of_each : AreWays flows n each
