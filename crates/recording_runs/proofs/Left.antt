-- What a refused command printed and left, and one that wanted memory.
use Rattle.std.proofs.Common.{◌≡◌, ◌∙◌, ◌⊎◌, inl, inr, Result, Ok, Err, List, [], ℕ, ap, append-nil}
use Rattle.std.proofs.Common.{arith, subst, sym}
use Rattle.std.specs.Prelude.{IfErr}
use Rattle.run_outcome.specs.Fault.{IfRefused}
use Rattle.run_outcome.specs.Refusing.{OfRefusal}
use Rattle.run_outcome.specs.Text.{GivesFew}
use Rattle.run_outcome.specs.declared.fault.Fault.{Fault}
use Rattle.run_outcome.specs.declared.fault.Fault.TheVariants.{Refused, Device, Memory}
use Rattle.run_outcome.specs.declared.refusal.Refusal.{Refusal}

pub all_refused : {V : Type 0} (P : Refusal → Type 0) (Left Q : Type 0) (r : Result V Fault)
    → IfErr r (λ f. OfRefusal f P) → IfErr r (λ f. OfRefusal f (λ x. Left))
    → IfErr r (λ f. IfRefused f Q) → IfErr r (λ f. OfRefusal f (λ x. P x × Left × Q))
all_refused P Left Q (Ok v) is left quiet = tt
all_refused P Left Q (Err (Refused x)) is left quiet = (is, left, quiet)
all_refused P Left Q (Err Device) is left quiet = tt
all_refused P Left Q (Err Memory) is left quiet = tt

-- a refusal is no want of memory
pub not_memory : (f : Fault) (r : Refusal) → f ≡ Refused r → f ≡ Memory → ⊥
not_memory f r is memory = cc

-- what holds of the fault where memory was wanted holds of that
pub wanted_by : {V : Type 0} (r : Result V Fault) (P : Fault → Type 0)
    → IfErr r (λ f. f ≡ Memory → P f) → IfErr r (λ f. f ≡ Memory → P Memory)
wanted_by (Ok v) P is = tt
wanted_by (Err f) P is = λ memory. subst P memory (is memory)

-- before anything is read of a text nothing was given of it
pub none_given : (most : ℕ) (gave : List ℕ) → GivesFew most gave gave
none_given most gave = record { octets = []; few = omega arith; given = sym (append-nil gave) }

-- what two sinks took, where both are as they were, or the second's is a file's matter
pub left_unless : {K W : Type 0} (Read File : Type 0) (printed : W → List ℕ) (took : K → List ℕ)
    (output output' : W) (sink sink' : K) (before : List ℕ) → took sink ≡ before
    → (output' ≡ output) × Read × ((sink' ≡ sink) ⊎ File)
    → (printed output' ≡ printed output) × Read × ((took sink' ≡ before) ⊎ File)
left_unless Read File printed took output output' sink sink' before at (same, read, inl kept) =
    (ap printed same, read, inl (ap took kept ∙ at))
left_unless Read File printed took output output' sink sink' before at (same, read, inr file) =
    (ap printed same, read, inr file)
