-- Which refusal ends a command that looks at its words, then at the file that it writes, and then
-- at what it reads: the first (own).
use Rattle.std.specs.Prelude.{◌≡◌, ◌⊎◌, Bool, IsFalse, IsTrue}
use Rattle.run_outcome.specs.declared.refusal.Refusal.{Refusal}
use Rattle.run_outcome.specs.declared.refusal.Refusal.TheVariants.{OutputIsInput}
use Rattle.run_outcome.specs.declared.refusal.Writer.{Writer}

-- The refusal of a run, which is of its words or where the file that is written is none of those
-- that are read; or that file is one of these, and the words are sound.
abbrev pub IsInTurn : Writer → Bool → Type 0 → (Refusal → Type 0) → (Refusal → Type 0) → Refusal
    → Type 0
IsInTurn writer is_input AreSound IsOfWords IsOfRun r =
    ((IsFalse is_input ⊎ IsOfWords r) × IsOfRun r)
    ⊎ ((r ≡ OutputIsInput writer) × IsTrue is_input × AreSound)
