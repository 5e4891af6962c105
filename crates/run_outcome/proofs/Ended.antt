-- What a run's end says of its devices and of what it did.
use Rattle.std.proofs.Common.{◌≡◌, ◌≢◌, ◌⊎◌, ℕ, inl, inr, List, [], ◌∷◌, ◌++◌, Result, Ok, Err}
use Rattle.std.specs.Prelude.{IfErr, OnOk}
use Rattle.st_format.specs.Device.{Failed}
use Rattle.run_outcome.specs.Fault.{Accounts, EndsDone, EndsFailed, EndsRefused, EndsWorked}
use Rattle.run_outcome.specs.Fault.{Failures, IfRefused, NoneFailed, OneFailed, StatusBlames}
use Rattle.run_outcome.specs.declared.fault.Fault.{Fault}
use Rattle.run_outcome.specs.declared.fault.Fault.TheVariants.{Refused, Device, Memory}

one_of_them : (ds : List Failures) (d : Failures) → OneFailed ds → OneFailed (ds ++ d ∷ [])
one_of_them [] d one = absurd one
one_of_them (a ∷ []) d one = inl one
one_of_them (a ∷ b ∷ ds) d (inl one) = inl one
one_of_them (a ∷ b ∷ ds) d (inr more) = inr (one_of_them (b ∷ ds) d more)

the_last : (ds : List Failures) (d : Failures) → Failed d.before d.after → OneFailed (ds ++ d ∷ [])
the_last [] d one = one
the_last (a ∷ []) d one = inr one
the_last (a ∷ b ∷ ds) d one = inr (the_last (b ∷ ds) d one)

nor_the_last : (ds : List Failures) (d : Failures) → NoneFailed ds → d.after ≡ d.before
    → NoneFailed (ds ++ d ∷ [])
nor_the_last [] d none is = is
nor_the_last (a ∷ []) d none is = (none, is)
nor_the_last (a ∷ b ∷ ds) d none is = (none.0, nor_the_last (b ∷ ds) d none.1 is)

-- a device of the run failed, or that of the faults
one_failed : {V : Type 0} (r : Result V Fault) (ds : List Failures) (d : Failures)
    → Accounts r ds → EndsFailed r ⊎ Failed d.before d.after → OneFailed (ds ++ d ∷ [])
one_failed r ds d says (inr last) = the_last ds d last
one_failed (Ok v) ds d says (inl is) = absurd is
one_failed (Err (Refused e)) ds d says (inl is) = absurd is
one_failed (Err Device) ds d says (inl is) = one_of_them ds d says
one_failed (Err Memory) ds d says (inl is) = absurd is

-- none of them did
none_failed : {V : Type 0} (r : Result V Fault) (ds : List Failures) (d : Failures)
    → Accounts r ds → EndsWorked r → d.after ≡ d.before → NoneFailed (ds ++ d ∷ [])
none_failed (Ok v) ds d says worked last = nor_the_last ds d says last
none_failed (Err (Refused e)) ds d says worked last = nor_the_last ds d says last
none_failed (Err Device) ds d says worked last = absurd worked
none_failed (Err Memory) ds d says worked last = nor_the_last ds d says last

-- so its status says
pub blamed : {V : Type 0} (r : Result V Fault) (ds : List Failures) (d : Failures) (status : ℕ)
    → Accounts r ds → (status ≡ 3 → EndsFailed r ⊎ Failed d.before d.after)
    → (status ≢ 3 → EndsWorked r) → (status ≢ 3 → d.after ≡ d.before)
    → StatusBlames status (ds ++ d ∷ [])
blamed r ds d status says failed worked working = (
  λ is. one_failed r ds d says (failed is),
  λ is. none_failed r ds d says (worked is) (working is),
)

-- what holds of a run that came to its end, and of one that was refused
pub on_done : {V : Type 0} (r : Result V Fault) (P : Type 0) → EndsDone r → OnOk r P → P
on_done (Ok v) P done is = is
on_done (Err e) P done is = absurd done

pub on_refused : {V : Type 0} (r : Result V Fault) (P : Type 0) → EndsRefused r
    → IfErr r (λ f. IfRefused f P) → P
on_refused (Ok v) P refused is = absurd refused
on_refused (Err (Refused e)) P refused is = is
on_refused (Err Device) P refused is = absurd refused
on_refused (Err Memory) P refused is = absurd refused
