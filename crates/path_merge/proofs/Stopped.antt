-- Why a schedule doesn't stop.
use Rattle.std.proofs.Common.{◌≡◌, ℕ, Result, Err}
use Rattle.std.specs.Prelude.{OnErr}
use Rattle.std.proofs.lemmas.Result.{IfErr-at_err}
use Rattle.path_receiver.specs.declared.play_fault.PlayFault.TheVariants as play
use Rattle.path_merge.specs.declared.schedule.stop.Stop.{Stop}
use Rattle.path_merge.specs.declared.schedule.stop.Stop.TheVariants.{NoMemory, Unfit}

-- a call that fails for memory alone is never unfit
pub not_unfit : {T U : Type 0} (r : Result T Stop) (q : Result U Stop) (d e : Stop)
    → r ≡ Err d → d ≡ e → q ≡ Err e → OnErr q (q ≡ Err NoMemory) → r ≡ Err Unfit → ⊥
not_unfit r q d e is same was memory unfit =
    let known = IfErr-at_err (λ (x : Stop). q ≡ Err NoMemory) was memory in absurd cc

pub not_event : (place : ℕ) → play.NoMemory ≡ play.BadEvent place → ⊥
not_event place same = absurd cc
