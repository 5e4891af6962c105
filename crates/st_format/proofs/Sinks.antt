use Rattle.std.proofs.Common.{ℕ, List, [], ◌∷◌, ◌++◌, refl, subst}
use Rattle.st_format.specs.Puts.{TakesEach}

-- one more datagram is put behind those that a sink took
pub took_more : {S : Type 0} (takes : S → List ℕ → S → Type 0) (old : S) (ds : List (List ℕ))
    (next : S) (d : List ℕ) (new : S) → TakesEach takes old ds next → takes next d new
    → TakesEach takes old (ds ++ d ∷ []) new
took_more {S} takes old [] next d new taken step =
    (new, subst (λ (s : S). takes s d new) taken step, refl)
took_more {S} takes old (x ∷ xs) next d new taken step =
    (taken.0, taken.1, took_more takes taken.0 xs next d new taken.2 step)
