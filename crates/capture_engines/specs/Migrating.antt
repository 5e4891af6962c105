-- What `migrate` writes. The text that was read is told by a predicate, and of the capture's source
-- whether it has ended.
use Rattle.std.specs.Prelude.{◌≡◌, ℕ, List, ◌∷◌, ◌++◌, []}
use Rattle.media_file.specs.Migrated.{MigratedRead, StopsRead, new_text}
use Rattle.media_file.specs.declared.fault.FileFault.{FileFault}
use Rattle.media_file.specs.declared.fault.FileFault.TheVariants as file
use Rattle.run_outcome.specs.Line.{line_text}
use Rattle.run_outcome.specs.declared.fault.Fault.{Fault}
use Rattle.run_outcome.specs.declared.fault.Fault.TheVariants as fault
use Rattle.run_outcome.specs.declared.line.Line.TheVariants as line
use Rattle.run_outcome.specs.declared.refusal.Refusal.{Refusal}
use Rattle.run_outcome.specs.declared.refusal.Refusal.TheVariants as refusal

-- a text was read whole, and a capture of version 01, all that its source gave from one moment to
-- the next, was written with it as one of version 02
pub record Migrates (Said : List ℕ → Type 0) (before now : List ℕ) (ended : Type 0)
    (took took' : List ℕ) : Type 0 where
  pub text : List ℕ
  pub count : ℕ
  pub read : Said text
  pub written : MigratedRead 16777216 count text before now ended took took'

-- and how many records they are was printed
pub record PrintsMigrated (Said : List ℕ → Type 0) (before now : List ℕ) (ended : Type 0)
    (took took' shown shown' : List ℕ) : Type 0 where
  pub migrated : Migrates Said before now ended took took'
  pub printed : shown' ≡ shown ++ (line_text (line.Records migrated.count) ++ 10 ∷ [])

-- what a source gave and a sink took so far, and how often each has failed
pub record Passed : Type 0 where
  pub gave : List ℕ
  pub source_failures : ℕ
  pub took : List ℕ
  pub sink_failures : ℕ

-- what was passed on, from its parts
abbrev pub passed : List ℕ → ℕ → List ℕ → ℕ → Passed
passed gave source_failures took sink_failures = record {
  gave = gave;
  source_failures = source_failures;
  took = took;
  sink_failures = sink_failures;
}

-- a capture was written with a text up to a fault
abbrev pub MigratesUpTo : FileFault → List ℕ → Type 0 → Passed → Passed → Type 0
MigratesUpTo f text ended old new = StopsRead (new_text 16777216 text) f old.gave new.gave ended
    old.source_failures new.source_failures old.took new.took old.sink_failures new.sink_failures

-- a capture was written with a text up to the fault that ended it, or neither read nor written
abbrev pub MovesBy : Fault → List ℕ → Type 0 → Passed → Passed → Type 0
MovesBy (fault.Refused (refusal.Capture f)) text ended old new = MigratesUpTo f text ended old new
MovesBy (fault.Refused r) text ended old new = ⊥
MovesBy fault.Device text ended old new = MigratesUpTo file.Device text ended old new
MovesBy fault.Memory text ended old new = new ≡ old

-- a text was read whole, and a capture was written with it up to a fault
pub record StopsMoving (f : FileFault) (Said : List ℕ → Type 0) (ended : Type 0)
    (old new : Passed) : Type 0 where
  pub text : List ℕ
  pub read : Said text
  pub stopped : MigratesUpTo f text ended old new

-- What a refused run did: where the capture is refused it was written up to its fault; and else it
-- was neither read nor written.
abbrev pub LeavesAt : Refusal → (List ℕ → Type 0) → Type 0 → Passed → Passed → Type 0
LeavesAt (refusal.Capture f) Said ended old new = StopsMoving f Said ended old new
LeavesAt r Said ended old new = new ≡ old

-- What a run did that didn't end at 0: the capture was neither read nor written; or it was written
-- up to a fault; or all of it was, and printing failed.
pub data LeavesOff (Said : List ℕ → Type 0) (ended : Type 0) (old new : Passed) : Type 0 where
  Untouched : new ≡ old → LeavesOff Said ended old new
  Stopped : (f : FileFault) → StopsMoving f Said ended old new → LeavesOff Said ended old new
  Written : Migrates Said old.gave new.gave ended old.took new.took
      → LeavesOff Said ended old new

-- the same by the fault that ended the run
abbrev pub LeavesBy : Fault → (List ℕ → Type 0) → Type 0 → Passed → Passed → Type 0
LeavesBy (fault.Refused r) Said ended old new = LeavesAt r Said ended old new
LeavesBy fault.Device Said ended old new = LeavesOff Said ended old new
LeavesBy fault.Memory Said ended old new = LeavesOff Said ended old new
