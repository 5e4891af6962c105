-- How a command ends: what its status and the line on standard error say of it (own).
use Rattle.std.specs.Prelude.{◌≡◌, ◌≢◌, ℕ, ◌⊎◌, List, [], ◌++◌, Bool, true, false, Result, Ok, Err}
use Rattle.st_format.specs.Device.{Failed}
use Rattle.run_outcome.specs.Fault.{EndsDone, EndsFailed}
use Rattle.run_outcome.specs.Refusing.{TellsOutcome, TellsRefusal}
use Rattle.run_outcome.specs.Telling.{device_line, memory_line}
use Rattle.run_outcome.specs.declared.fault.Fault.{Fault}
use Rattle.run_outcome.specs.declared.fault.Fault.TheVariants.{Refused, Device, Memory}
use Rattle.run_outcome.specs.declared.refusal.Refusal.{Refusal}

-- What standard error took before it was told of a device: nothing; or, where what the run wrote
-- could not be written out, what it was told of the run, a refusal or that memory was wanted.
abbrev pub IsToldBefore : (Refusal → Type 0) → Bool → List ℕ → List ℕ → Type 0
IsToldBefore Is whole took before =
    (before ≡ took)
    ⊎ ((whole ≡ false) × (TellsRefusal Is took before ⊎ (before ≡ took ++ memory_line)))

-- Standard error was told last, by a line, that a device failed.
pub record TellsDevice (Is : Refusal → Type 0) (whole : Bool) (took took' : List ℕ) : Type 0 where
  pub before : List ℕ
  pub is : IsToldBefore Is whole took before
  pub told : took' ≡ before ++ device_line

-- The status of an outcome, and of whether all was written out; what standard error took before and
-- after, and how often it had failed. At 4 the run wanted memory, or a device did: no line wants
-- any.
pub record TellsEnd (outcome : Result (Unit {0}) Fault) (whole : Bool) (status : ℕ)
    (took took' : List ℕ) (failed failed' : ℕ) : Type 0 where
  pub range : (status ≡ 0) ⊎ (status ≡ 1) ⊎ (status ≡ 3) ⊎ (status ≡ 4)
  pub done : status ≡ 0 → EndsDone outcome × (whole ≡ true)
  pub finished : EndsDone outcome → whole ≡ true → status ≡ 0
  pub silent : status ≡ 0 → took' ≡ took
  pub told : status ≡ 1 → TellsOutcome outcome took took'
  pub written : status ≡ 1 → whole ≡ true
  pub failure : status ≡ 3 → EndsFailed outcome ⊎ (whole ≡ false) ⊎ Failed failed failed'
  pub memory : status ≡ 4 → took' ≡ took ++ memory_line
  pub wanted : status ≡ 4 → (outcome ≡ Err Memory) ⊎ (outcome ≡ Err Device)
  pub working : status ≢ 3 → failed' ≡ failed

-- A command came to an end from when it was new: `Does`, `IsRefused`, `Owes`, `Leaves` and `Wants`
-- are what it does, which refusals speak against it, which devices failed, what it has written for
-- good where it ends by a fault, and what it left where it wanted memory, each from when it was new.
-- At 0 all was done and written out, no device failed and nothing was told; at 1 a refusal was told
-- that speaks against it, and what it wrote is written out; at 3 a device failed; at 4 the run
-- wanted memory, or a device that it uses did.
pub record EndsBy {C : Type 0} (IsNew : C → Type 0) (Does : C → C → Type 0)
    (IsRefused : C → C → Refusal → Type 0) (Owes : C → C → Result (Unit {0}) Fault → Type 0)
    (Leaves Wants : C → C → Type 0) (status : ℕ) (whole : Bool) (command : C) (told : List ℕ)
    (failed : ℕ) : Type 0 where
  pub new : C
  pub is_new : IsNew new
  pub range : (status ≡ 0) ⊎ (status ≡ 1) ⊎ (status ≡ 3) ⊎ (status ≡ 4)
  pub done : status ≡ 0
      → Does new command × Owes new command (Ok tt) × (whole ≡ true) × (told ≡ [])
  pub refused : status ≡ 1
      → TellsRefusal (λ r. IsRefused new command r × Owes new command (Err (Refused r))) [] told
  pub written : status ≡ 1 → whole ≡ true
  pub failure : status ≡ 3
      → Owes new command (Err Device) ⊎ (whole ≡ false) ⊎ Failed 0 failed
  pub memory : status ≡ 4 → told ≡ memory_line
  pub wanted : status ≡ 4
      → (Owes new command (Err Memory) × Wants new command) ⊎ Owes new command (Err Device)
  pub working : status ≢ 3 → failed ≡ 0
  pub left : status ≢ 0 → whole ≡ true → Leaves new command
