-- The failures of sources in a list, one of which is used where it stands.
use Rattle.std.proofs.Common.{ℕ, ◌<◌, inl, inr, List, [], ◌∷◌, length, set, get_or, Result, Ok, Err}
use Rattle.std.proofs.Common.{◌≡◌, arith, subst, sym}
use Rattle.std.specs.List.{sum_by}
use Rattle.std.proofs.lemmas.List.Sums.{get_or-le-sum_by, sum_by-set}
use Rattle.run_outcome.specs.declared.fault.Fault.{Fault}
use Rattle.run_outcome.specs.declared.fault.Fault.TheVariants.{Refused, Device, Memory}
use Rattle.run_outcome.specs.Fault.{Accounts, Failures, counts}

-- what one source says of its failures the whole list says
pub set_counted : {S V : Type 0} (f : S → ℕ) (xs : List S) (i : ℕ) (d y : S) (r : Result V Fault)
    → i < length xs
    → Accounts r (counts (f (get_or xs i d)) (f y) ∷ [])
    → Accounts r (counts (sum_by f xs) (sum_by f (set xs i y)) ∷ [])
set_counted f xs i d y (Ok v) lt is = omega (arith, sum_by-set f xs i y d lt, is)
set_counted f xs i d y (Err (Refused e)) lt is = omega (arith, sum_by-set f xs i y d lt, is)
set_counted f xs i d y (Err Memory) lt is = omega (arith, sum_by-set f xs i y d lt, is)
set_counted f xs i d y (Err Device) lt (inl more) =
    inl (omega (arith, sum_by-set f xs i y d lt, more))
set_counted f xs i d y (Err Device) lt (inr most) =
    inr (omega (arith, get_or-le-sum_by f xs i d lt, most))

-- what is said of a source between two calls is said of it before the one and after the other
pub counted_by : {V : Type 0} (r : Result V Fault) (old mid now new : ℕ) → mid ≡ old → new ≡ now
    → Accounts r (counts mid now ∷ []) → Accounts r (counts old new ∷ [])
counted_by r old mid now new first last is =
    subst (λ (n : ℕ). Accounts r (counts n new ∷ [])) first
    (subst (λ (n : ℕ). Accounts r (counts mid n ∷ [])) (sym last) is)

-- the same of the second of two devices
pub counted_behind : {V : Type 0} (r : Result V Fault) (d : Failures) (old mid now new : ℕ)
    → mid ≡ old → new ≡ now → Accounts r (d ∷ counts mid now ∷ [])
    → Accounts r (d ∷ counts old new ∷ [])
counted_behind r d old mid now new first last is =
    subst (λ (n : ℕ). Accounts r (d ∷ counts n new ∷ [])) first
    (subst (λ (n : ℕ). Accounts r (d ∷ counts mid n ∷ [])) (sym last) is)
