-- What a run of a script was given, and what it did with it.
use Rattle.std.specs.Prelude.{ℕ, List, Bool, false, Result, MatchResult}
use Rattle.run_outcome.specs.Fault.{IfRefused}
use Rattle.run_outcome.specs.declared.fault.Fault.{Fault}
use Rattle.run_outcome.specs.declared.fault.Fault.TheVariants.{Refused}
use Rattle.run_outcome.specs.declared.refusal.Refusal.{Refusal}
use Rattle.script_engines.specs.Script.{GivesAll, GivesScript, IsReadFrom}

-- A run that succeeds was given a whole script, and one that is refused octets up to its source's
-- end, or more than a script may have
abbrev pub ReadsScript : {V : Type 0} → Result V Fault → List ℕ → List ℕ → Type 0 → Type 0
ReadsScript result before now ended =
    MatchResult result (λ _. GivesScript before now ended)
    (λ f. IfRefused f (GivesAll before now ended))

-- A source gave a script, and this is why it is refused
abbrev pub IsRefusedFor : (List ℕ → Bool → Fault → Type 0) → List ℕ → List ℕ → Type 0
    → Refusal → Type 0
IsRefusedFor Why before now ended r =
    (script : List ℕ) × (is_cut : Bool) × IsReadFrom before now ended script is_cut
    × Why script is_cut (Refused r)

-- A source gave a whole script, and this was done with it
abbrev pub DoesScript : (List ℕ → List ℕ → List ℕ → Type 0) → List ℕ → List ℕ → Type 0
    → List ℕ → List ℕ → Type 0
DoesScript Does before now ended took took' =
    (script : List ℕ) × IsReadFrom before now ended script false × Does script took took'
