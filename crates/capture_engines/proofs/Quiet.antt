-- What holds where a run is refused, of one that isn't; and what it printed where it fails.
use Rattle.std.proofs.Common.{List, Result, Ok, Err, inl, inr, ℕ}
use Rattle.std.specs.Prelude.{IfErr, OnErr}
use Rattle.run_outcome.specs.AtFault.{PrintedAtFault}
use Rattle.run_outcome.specs.Fault.{IfRefused}
use Rattle.run_outcome.specs.declared.fault.Fault.{Fault}
use Rattle.run_outcome.specs.declared.fault.Fault.TheVariants.{Refused, Device, Memory}

pub not_refused : (Q : Type 0) (f : Fault) → IfRefused f ⊥ → IfRefused f Q
not_refused Q (Refused x) never = absurd never
not_refused Q Device never = tt
not_refused Q Memory never = tt

pub never_refused : {V : Type 0} (Q : Type 0) (r : Result V Fault) → IfErr r (λ f. IfRefused f ⊥)
    → IfErr r (λ f. IfRefused f Q)
never_refused Q (Ok v) never = tt
never_refused Q (Err f) never = not_refused Q f never

-- what a text that was begun is
pub printed_so : {V O : Type 0} (r : Result V Fault) (took : O → List ℕ) (failures : O → ℕ)
    (P Q : List ℕ → Type 0) (old new : O) → ((text : List ℕ) → P text → Q text)
    → OnErr r (PrintedAtFault took failures P old new)
    → OnErr r (PrintedAtFault took failures Q old new)
printed_so (Ok v) took failures P Q old new so printed = tt
printed_so (Err f) took failures P Q old new so (inl none) = inl none
printed_so (Err f) took failures P Q old new so (inr (failed, (text, is, part))) =
    inr (failed, (text, so text is, part))
