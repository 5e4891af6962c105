-- Lists that are one.
use Rattle.std.proofs.Common.{◌≡◌, List, [], ◌∷◌}

pub same_head : {X : Type 0} (x y : X) (xs ys : List X) → x ∷ xs ≡ y ∷ ys → x ≡ y
same_head x y xs ys is = cc

pub same_tail : {X : Type 0} (x y : X) (xs ys : List X) → x ∷ xs ≡ y ∷ ys → xs ≡ ys
same_tail x y xs ys is = cc

pub no_more : {X : Type 0} (x : X) (xs : List X) → let none : List X = [] in x ∷ xs ≡ none → ⊥
no_more x xs is = cc

pub no_less : {X : Type 0} (x : X) (xs : List X) → let none : List X = [] in none ≡ x ∷ xs → ⊥
no_less x xs is = cc
