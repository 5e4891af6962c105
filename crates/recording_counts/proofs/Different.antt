-- The different elements of a list that grows by one.
use Rattle.std.proofs.Common.{◌≡◌, Bool, true, false, not, cond, List, [], ◌∷◌, ◌++◌, refl}
use Rattle.std.proofs.Common.{arith}
use Rattle.std.proofs.lemmas.Grind.{common_steps}
use Rattle.std.specs.List.{filter}
use Rattle.recording_counts.specs.Tables.{different}

module _ {X : Type 0} (same : X → X → Bool) where
  -- an element is put behind a list unless it is the same as one there
  abbrev pub added : X → List X → List X
  added y [] = y ∷ []
  added y (x ∷ xs) = cond (same y x) (x ∷ xs) (x ∷ added y xs)

  -- without the ones that are the same as x
  abbrev pub without : X → List X → List X
  without x xs = filter (λ z. not (same z x)) xs

  without_same : (x y : X) (xs : List X) → same y x ≡ true
      → without x (added y xs) ≡ without x xs
  without_same x y [] e = grind (arith, common_steps)
  without_same x y (z ∷ xs) e = grind (arith, common_steps, without_same x y xs e)

  module _ (passes : (x y z : X) → same x y ≡ true → same y z ≡ true → same x z ≡ true) where
    without_other : (x y : X) (xs : List X) → same y x ≡ false
        → without x (added y xs) ≡ added y (without x xs)
    without_other x y [] e = grind (arith, common_steps)
    without_other x y (z ∷ xs) e =
        grind (arith, common_steps, without_other x y xs e, passes y z x)

    pub different_more : (xs : List X) (y : X)
        → different same (xs ++ y ∷ []) ≡ added y (different same xs)
    different_more [] y = refl
    different_more (x ∷ xs) y =
        grind (
          arith,
          common_steps,
          different_more xs y,
          without_same x y (different same xs),
          without_other x y (different same xs),
        )
