-- What `import` and `receive` tell where nothing came of a flow (own).
use Rattle.std.specs.Prelude.{◌≡◌, ◌⊎◌, ℕ, List, [], ◌++◌, Bool, true, false, codes}
use Rattle.inspect_engine.specs.Told.{IsInspectRefusal, Tells}
use Rattle.inspect_engine.specs.declared.form.Form.TheVariants.{Lines}
use Rattle.run_outcome.specs.declared.refusal.Refusal.{Refusal}

-- what is said where standard input was among the recordings
abbrev pub notice_if : Bool → List ℕ
notice_if false = []
notice_if true = codes "standard input is read once; inspect tells its flows\n"

-- Behind that, what `inspect` tells of the other recordings, if there are any.
abbrev pub TellsAgain : {S : Type 0} → (S → List ℕ → Type 0) → Bool → List S → List ℕ → List ℕ
    → Type 0
TellsAgain told has_input recordings shown shown' =
    ((recordings ≡ []) × (shown' ≡ shown ++ notice_if has_input))
    ⊎ Tells Lines told recordings false (shown ++ notice_if has_input) shown'

-- the refusals of `inspect` behind that
abbrev pub IsAgainRefusal : {S : Type 0} → (S → List ℕ → Type 0) → Bool → List S → List ℕ
    → List ℕ → Refusal → Type 0
IsAgainRefusal told has_input recordings shown shown' =
    IsInspectRefusal Lines told recordings (shown ++ notice_if has_input) shown'
