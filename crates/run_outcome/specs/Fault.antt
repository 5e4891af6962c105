-- Faults that end a run, and what they say of devices.
use Rattle.std.specs.Prelude.{◌≡◌, ◌≢◌, ℕ, ◌⊎◌, List, [], ◌∷◌, Option, Result, Ok, Err, MatchResult}
use Rattle.std.specs.Prelude.{⊤}
use Rattle.std.specs.Prelude.{None, Some}
use Rattle.st_format.specs.Device.{Failed}
use Rattle.run_outcome.specs.Telling.{IsRefusalLine, TellsLine, device_line, memory_line}
use Rattle.run_outcome.specs.declared.status.Status.{Status}
use Rattle.run_outcome.specs.declared.status.Status.TheVariants as ended
use Rattle.run_outcome.specs.declared.fault.Fault.{Fault}
use Rattle.run_outcome.specs.RefusalText.{refusal_text}
use Rattle.run_outcome.specs.declared.fault.Fault.TheVariants.{Refused, Device, Memory}

-- how often a device had failed before, and how often then
pub record Failures : Type 0 where
  pub before : ℕ
  pub after : ℕ

-- one device's two numbers
abbrev pub counts : ℕ → ℕ → Failures
counts before after = record { before = before; after = after }

-- one of some devices failed
abbrev pub OneFailed : List Failures → Type 0
OneFailed [] = ⊥
OneFailed (d ∷ []) = Failed d.before d.after
OneFailed (d ∷ e ∷ ds) = Failed d.before d.after ⊎ OneFailed (e ∷ ds)

-- none of some devices failed
abbrev pub NoneFailed : List Failures → Type 0
NoneFailed [] = ⊤
NoneFailed (d ∷ []) = d.after ≡ d.before
NoneFailed (d ∷ e ∷ ds) = (d.after ≡ d.before) × NoneFailed (e ∷ ds)

-- what a fault says of devices: a device's that one of them failed, and any other that none did
abbrev pub Blames : List Failures → Fault → Type 0
Blames devices (Refused r) = NoneFailed devices
Blames devices Device = OneFailed devices
Blames devices Memory = NoneFailed devices

-- where a run succeeds no device failed, and where it ends by a fault that fault says so
abbrev pub Accounts : {V : Type 0} → Result V Fault → List Failures → Type 0
Accounts result devices = MatchResult result (λ _. NoneFailed devices) (Blames devices)

-- what an exit status says of devices: 3 that one of them failed, and any other that none did
abbrev pub StatusBlames : ℕ → List Failures → Type 0
StatusBlames status devices =
    (status ≡ 3 → OneFailed devices) × (status ≢ 3 → NoneFailed devices)

-- the line that tells a fault, and the exit status that goes with it
abbrev pub IsLineOf : Fault → Status → List ℕ → Type 0
IsLineOf (Refused r) status line = IsRefusalLine (refusal_text r) status line
IsLineOf Device status line = (status ≡ ended.Device) × (line ≡ device_line)
IsLineOf Memory status line = (status ≡ ended.Memory) × (line ≡ memory_line)

-- a fault was told by such a line, or the sink failed
abbrev pub TellsFault : Fault → Status → ℕ → ℕ → List ℕ → List ℕ → Type 0
TellsFault f result old new took took' =
    (status : Status) × (line : List ℕ) × IsLineOf f status line
    × TellsLine status line result old new took took'

-- where a run ends by a refusal, this holds
abbrev pub IfRefused : Fault → Type 0 → Type 0
IfRefused (Refused r) P = P
IfRefused Device P = ⊤
IfRefused Memory P = ⊤

-- ---- what a run came to

-- a run came to its end, without a fault
abbrev pub EndsDone : {V : Type 0} → Result V Fault → Type 0
EndsDone (Ok v) = ⊤
EndsDone (Err f) = ⊥

-- a run ended by a refusal
abbrev pub EndsRefused : {V : Type 0} → Result V Fault → Type 0
EndsRefused (Ok v) = ⊥
EndsRefused (Err (Refused r)) = ⊤
EndsRefused (Err Device) = ⊥
EndsRefused (Err Memory) = ⊥

-- a run ended since a device failed
abbrev pub EndsFailed : {V : Type 0} → Result V Fault → Type 0
EndsFailed (Ok v) = ⊥
EndsFailed (Err (Refused r)) = ⊥
EndsFailed (Err Device) = ⊤
EndsFailed (Err Memory) = ⊥

-- anything but a device's fault
abbrev pub EndsWorked : {V : Type 0} → Result V Fault → Type 0
EndsWorked (Ok v) = ⊤
EndsWorked (Err (Refused r)) = ⊤
EndsWorked (Err Device) = ⊥
EndsWorked (Err Memory) = ⊤

-- how often a device failed, where there is one
abbrev pub failures_in : {S : Type 0} → (S → ℕ) → Option S → ℕ
failures_in failures None = 0
failures_in failures (Some s) = failures s
