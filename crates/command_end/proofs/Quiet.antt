-- What a refusal says, and what is as it was then.
use Rattle.std.proofs.Common.{Result, Ok, Err}
use Rattle.std.specs.Prelude.{IfErr}
use Rattle.run_outcome.specs.Fault.{IfRefused}
use Rattle.run_outcome.specs.Refusing.{OfRefusal}
use Rattle.run_outcome.specs.declared.fault.Fault.{Fault}
use Rattle.run_outcome.specs.declared.fault.Fault.TheVariants.{Refused, Device, Memory}
use Rattle.run_outcome.specs.declared.refusal.Refusal.{Refusal}

pub refused_both : {V : Type 0} (P : Refusal → Type 0) (Q : Type 0) (r : Result V Fault)
    → IfErr r (λ f. OfRefusal f P) → IfErr r (λ f. IfRefused f Q)
    → IfErr r (λ f. OfRefusal f (λ x. P x × Q))
refused_both P Q (Ok v) is quiet = tt
refused_both P Q (Err (Refused x)) is quiet = (is, quiet)
refused_both P Q (Err Device) is quiet = tt
refused_both P Q (Err Memory) is quiet = tt
