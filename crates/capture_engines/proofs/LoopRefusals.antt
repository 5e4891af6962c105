-- Which refusal ends a run of `loop`.
use Rattle.std.proofs.Common.{◌≡◌, ℕ, List, refl}
use Rattle.packet_plan.specs.declared.plan.PlanFault.{PlanFault}
use Rattle.packet_plan.specs.declared.plan.PlanFault.TheVariants.{NoMemory, BadPacketSize}
use Rattle.st_format.specs.declared.format.Format.{Format}
use Rattle.run_outcome.specs.LowerFaults.{of_plan}
use Rattle.run_outcome.specs.Refusing.{OfRefusal}
use Rattle.run_outcome.specs.Pictures.{IsPlanFault, SaysPictureOf}
use Rattle.capture_engines.specs.Looped.{IsLoopRefusal}

-- the picture's format has no plan
pub plan_refused : (most : ℕ) (told : List ℕ → Type 0) (format : Format) → SaysPictureOf told format
    → (e : PlanFault) → (e ≡ BadPacketSize → IsPlanFault most format BadPacketSize)
    → OfRefusal (of_plan e) (IsLoopRefusal most told)
plan_refused most told format says NoMemory is = tt
plan_refused most told format says BadPacketSize is = (format, says, is refl)
