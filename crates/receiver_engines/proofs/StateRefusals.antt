-- A fault of a receiver's file as a refusal.
use Rattle.std.proofs.Common.{ℕ, List}
use Rattle.st_format.specs.Device.{AreOctets}
use Rattle.media_file.specs.Faults.{IfContent}
use Rattle.media_file.specs.declared.fault.FileFault.{FileFault}
use Rattle.media_file.specs.declared.fault.FileFault.TheVariants.{NoMemory, Device, BadName}
use Rattle.media_file.specs.declared.fault.FileFault.TheVariants.{BadVersion, Truncated, BadField}
use Rattle.media_file.specs.declared.fault.FileFault.TheVariants.{TrailingBytes, MixedGroup}
use Rattle.media_file.specs.declared.fault.FileFault.TheVariants.{TooManyRecords}
use Rattle.receiver_file.specs.StateFaults.{IsStateFault}
use Rattle.run_outcome.specs.LowerFaults.{state_fault}
use Rattle.receiver_engines.specs.States.{IsStateRefusal}
use Rattle.run_outcome.specs.Refusing.{OfRefusal}

pub state_refused : (told : List ℕ → Type 0) (f : FileFault)
    → ((octets : List ℕ) → told octets → AreOctets octets
    → IfContent f (IsStateFault f octets))
    → OfRefusal (state_fault f) (IsStateRefusal told)
state_refused told NoMemory wrong = tt
state_refused told Device wrong = tt
state_refused told BadName wrong = wrong
state_refused told BadVersion wrong = wrong
state_refused told Truncated wrong = wrong
state_refused told BadField wrong = wrong
state_refused told TrailingBytes wrong = wrong
state_refused told MixedGroup wrong = wrong
state_refused told TooManyRecords wrong = wrong
