-- Files that are not opened.
use Rattle.std.specs.Prelude.{◌≡◌, ℕ, ◌⊎◌, List, [], ◌∷◌, ◌++◌, Option, None, Some, true}
use Rattle.std.specs.List.{AllByRecursion}
use Rattle.flow.specs.declared.flows.Flows.{Flows}
use Rattle.recording_engines.specs.Joining.{IsAtNoFault}
use Rattle.recording_engines.specs.Strands.{IsTakenBy, strand_in}
use Rattle.recording_reader.specs.Kinds.{is_recording}
use Rattle.recording_reader.specs.Opening.{StopsOpening}
use Rattle.recording_reader.specs.declared.fault.FileOpeningFault.{FileOpeningFault}
use Rattle.recording_reader.specs.declared.fault.ReadingFault.{ReadingFault}
use Rattle.run_outcome.specs.declared.fault.Fault.{Fault}
use Rattle.run_outcome.specs.declared.fault.Fault.TheVariants.{Refused}
use Rattle.run_outcome.specs.declared.refusal.Refusal.{Refusal}
use Rattle.run_outcome.specs.declared.refusal.Refusal.TheVariants.{ImportPlaces}
use Rattle.run_outcome.specs.LowerFaults.{reading_fault}
use Rattle.recording_engines.specs.Faults.{opening_fault}

-- The refusals of a file that is read by these flows: that it is a recording, and there are none;
-- its first fault, which comes before all its records.
abbrev pub IsStopRefusal : (List ℕ → Type 0) → Option Flows → Refusal → Type 0
IsStopRefusal told flows r =
    ((r ≡ ImportPlaces) × (flows ≡ None)
    × ((octets : List ℕ) → told octets → is_recording octets ≡ true))
    ⊎ ((f : ReadingFault) × (reading_fault f ≡ Refused r)
    × ((octets : List ℕ) → told octets
    → strand_in flows octets ≡ record { entries = []; fault = Some f }))

-- This fault tells why a file that is read by these flows isn't opened, whichever it is.
pub record TellsUnopened (flows : Option Flows) (before now : List ℕ) (ended : Type 0) (f : Fault)
    : Type 0 where
  pub reason : FileOpeningFault
  pub told : f ≡ opening_fault reason
  pub stops : StopsOpening flows before now ended reason

-- a file that is read by these flows isn't refused so: it is no recording without flows, and its
-- first record comes, or its end
abbrev pub BeginsUnrefused : Option Flows → List ℕ → Type 0
BeginsUnrefused flows octets = IsTakenBy flows octets × IsAtNoFault (strand_in flows octets)

-- so whatever was read of it
abbrev pub AllBegin : (List ℕ → Type 0) → Option Flows → Type 0
AllBegin told flows = (octets : List ℕ) → told octets → BeginsUnrefused flows octets

-- The refusal of files that are opened in turn, each by flows of its own, is that of one of them,
-- and the first: none before it is refused so.
pub record IsFirstStop {S : Type 0} (told : S → List ℕ → Type 0) (files : List (S × Option Flows))
    (r : Refusal) : Type 0 where
  pub front : List (S × Option Flows)
  pub at : S × Option Flows
  pub behind : List (S × Option Flows)
  pub parts : files ≡ front ++ at ∷ behind
  pub whole : AllByRecursion (λ x. AllBegin (told x.0) x.1) front
  pub refused : IsStopRefusal (told at.0) at.1 r
