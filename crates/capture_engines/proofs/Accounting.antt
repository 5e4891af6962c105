-- Devices of which one alone can have failed.
use Rattle.std.proofs.Common.{◌≡◌, inl, inr, [], ◌∷◌, Result, Ok, Err}
use Rattle.run_outcome.specs.declared.fault.Fault.{Fault}
use Rattle.run_outcome.specs.declared.fault.Fault.TheVariants.{Refused, Device, Memory}
use Rattle.run_outcome.specs.Fault.{Accounts, Blames, Failures}

-- the last alone
pub accounts_last : {V : Type 0} (r : Result V Fault) (first second last : Failures)
    → first.after ≡ first.before → second.after ≡ second.before → Accounts r (last ∷ [])
    → Accounts r (first ∷ second ∷ last ∷ [])
accounts_last (Ok v) first second last one two is = (one, (two, is))
accounts_last (Err (Refused e)) first second last one two is = (one, (two, is))
accounts_last (Err Memory) first second last one two is = (one, (two, is))
accounts_last (Err Device) first second last one two is = inr (inr is)

-- the second alone
pub blamed_second : (f : Fault) (first second last : Failures) → first.after ≡ first.before
    → last.after ≡ last.before → Blames (second ∷ []) f → Blames (first ∷ second ∷ last ∷ []) f
blamed_second (Refused e) first second last one three is = (one, (is, three))
blamed_second Memory first second last one three is = (one, (is, three))
blamed_second Device first second last one three is = inr (inl is)

-- all but the first
pub accounts_front : {V : Type 0} (r : Result V Fault) (first second third last : Failures)
    → first.after ≡ first.before → Accounts r (second ∷ third ∷ last ∷ [])
    → Accounts r (first ∷ second ∷ third ∷ last ∷ [])
accounts_front (Ok v) first second third last one is = (one, is)
accounts_front (Err (Refused e)) first second third last one is = (one, is)
accounts_front (Err Memory) first second third last one is = (one, is)
accounts_front (Err Device) first second third last one is = inr is
