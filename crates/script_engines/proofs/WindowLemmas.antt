-- Texts of windows.
use Rattle.std.proofs.Common.{◌≡◌, ℕ, List, [], ◌∷◌, codes, Option, None, Some, Result, Ok, Err}
use Rattle.std.proofs.Common.{IfNone, IfOk}
use Rattle.script_engines.specs.Forms.{IsWindowText}
use Rattle.run_outcome.specs.Timestamps.{AreTimestamps}

-- a text of no timestamps that isn't `-` is none of a window
no_window : (text said : List ℕ) → (text ≡ codes "-" → ⊥)
    → ((all : List ℕ) → AreTimestamps text all → ⊥) → IsWindowText text said → ⊥
no_window text [] other none is = other is
no_window text (t ∷ ts) other none is = none (t ∷ ts) is

pub window_none : {W E : Type 0} (text : List ℕ) (r : Result (Option W) E) → (text ≡ codes "-" → ⊥)
    → IfOk r (λ window. IfNone window ((all : List ℕ) → AreTimestamps text all → ⊥))
    → IfOk r (λ window. IfNone window ((said : List ℕ) → IsWindowText text said → ⊥))
window_none text (Ok None) other none = λ said is. no_window text said other none is
window_none text (Ok (Some w)) other none = tt
window_none text (Err e) other none = tt
