-- How the file of a place is taken.
use Rattle.std.proofs.Common.{◌≡◌, ℕ, zero, suc, ◌<◌, ◌≤◌, List, [], ◌∷◌, length, get_or, Result}
use Rattle.std.proofs.Common.{refl, ap, arith}
use Rattle.flow.specs.declared.flows.Flows.{Flows}
use Rattle.run_outcome.specs.declared.refusal.Refusal.{Refusal}
use Rattle.capture_engines.specs.Files.{way_at, way_by}
use Rattle.capture_engines.specs.declared.way.Way.TheVariants as way

pub way_there : (ways : List (Result Flows Refusal)) (k : ℕ) (d w : Result Flows Refusal)
    → k < length ways → get_or ways k d ≡ w → way_at ways k ≡ way_by w
way_there [] k d w lt is = absurd (omega arith)
way_there (x ∷ xs) zero d w lt is = ap way_by is
way_there (x ∷ xs) (suc k) d w lt is = way_there xs k d w (omega (arith, lt)) is

pub way_past : (ways : List (Result Flows Refusal)) (k : ℕ) → length ways ≤ k
    → way_at ways k ≡ way.Capture
way_past [] zero past = refl
way_past [] (suc k) past = way_past [] k (omega arith)
way_past (x ∷ xs) zero past = absurd (omega arith)
way_past (x ∷ xs) (suc k) past = way_past xs k (omega (arith, past))
