-- What holds where a run is refused, and where memory was wanted.
use Rattle.std.proofs.Common.{◌≡◌, ◌⊎◌, inl, inr, List, sym, ◌∙◌}
use Rattle.run_outcome.specs.Fault.{IfRefused}
use Rattle.run_outcome.specs.declared.fault.Fault.{Fault}
use Rattle.run_outcome.specs.declared.fault.Fault.TheVariants.{Refused, Device, Memory}
use Rattle.run_outcome.specs.declared.refusal.Refusal.TheVariants.{ImportRecords}
use Rattle.run_outcome.proofs.Refusals.{refused_not}
use Rattle.recording_engines.specs.Progress.{IsDeviceOrFile}
use Rattle.recording_engines.specs.declared.file.ImportFile.{ImportFile}

pub if_refused : (f : Fault) {Q : Type 0} → Q → IfRefused f Q
if_refused (Refused r) q = q
if_refused Device q = tt
if_refused Memory q = tt

-- A fault that is no refusal.
pub never_refused : (f : Fault) (Q : Type 0) → IfRefused f ⊥ → IfRefused f Q
never_refused (Refused r) Q never = absurd never
never_refused Device Q never = tt
never_refused Memory Q never = tt

-- want of memory is none of more records than there may be
pub of_joining : {X S : Type 0} (files : List (ImportFile X S)) (f : Fault) → f ≡ Memory
    → IsDeviceOrFile files f ⊎ (f ≡ Refused ImportRecords) → IsDeviceOrFile files f
of_joining files f memory (inl is) = is
of_joining files f memory (inr many) = absurd (refused_not ImportRecords (sym many ∙ memory))
