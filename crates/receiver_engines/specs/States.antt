-- Which refusal is one of a receiver's file. The octets that were read are told by a predicate: it
-- holds of any that begin with those, and of no other where the source has ended.
use Rattle.std.specs.Prelude.{ℕ, List}
use Rattle.receiver_file.specs.StateFaults.{IsStateFault}
use Rattle.st_format.specs.Device.{AreOctets}
use Rattle.run_outcome.specs.declared.refusal.Refusal.{Refusal}
use Rattle.run_outcome.specs.declared.refusal.Refusal.TheVariants.{State}

-- the refusal of a receiver's file: the fault's condition holds of what was read
abbrev pub IsStateRefusal : (List ℕ → Type 0) → Refusal → Type 0
IsStateRefusal told (State f) =
    (octets : List ℕ) → told octets → AreOctets octets → IsStateFault f octets
IsStateRefusal told r = ⊥
