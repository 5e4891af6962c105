-- What holds of a run that didn't end well.
use Rattle.std.proofs.Common.{◌≡◌, ◌≢◌, ℕ, Result, Ok, Err, refl, subst}
use Rattle.std.specs.Prelude.{IfErr, OnErr}
use Rattle.run_outcome.specs.Fault.{EndsDone}
use Rattle.run_outcome.specs.declared.fault.Fault.{Fault}
use Rattle.run_outcome.specs.declared.fault.Fault.TheVariants.{Memory}

pub unfinished : {V : Type 0} (r : Result V Fault) (P : Type 0) (status : ℕ)
    → (EndsDone r → status ≡ 0) → status ≢ 0 → OnErr r P → P
unfinished (Ok v) P status done not is = absurd (not (done tt))
unfinished (Err f) P status done not is = is

pub stopped : {V : Type 0} (r : Result V Fault) (P : Fault → Type 0) (status : ℕ)
    → (EndsDone r → status ≡ 0) → status ≢ 0 → IfErr r P → (f : Fault) × P f
stopped (Ok v) P status done not is = absurd (not (done tt))
stopped (Err f) P status done not is = (f, is)

-- what holds where memory was wanted
pub on_memory : {V : Type 0} (Holds : Fault → Type 0) (r : Result V Fault) → r ≡ Err Memory
    → IfErr r (λ f. f ≡ Memory → Holds f) → Holds Memory
on_memory {V} Holds r is says =
    subst (λ (x : Result V Fault). IfErr x (λ f. f ≡ Memory → Holds f)) is says refl
