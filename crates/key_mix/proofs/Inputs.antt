-- Lists of one, two and three inputs, from their length and what is read at each place.
use Rattle.std.proofs.Common.{
  ◌≡◌,
  List,
  [],
  ◌∷◌,
  ℕ,
  zero,
  suc,
  ◌+◌,
  ◌<◌,
  ◌++◌,
  get_or,
  length,
  map,
  take,
  arith,
  sym,
  ap,
  subst,
  ◌∙◌,
}
use Rattle.std.proofs.lemmas.List.{map-append}
use Rattle.std.proofs.Math.Seq.{take-suc}
use Rattle.std.specs.List.{AllByRecursion}

pub one : {X : Type 0} (xs : List X) (x : X) → length xs ≡ 1 → x ≡ get_or xs 0 x → x ∷ [] ≡ xs
one [] x long is = absurd (omega (arith, long))
one (y ∷ []) x long is = λ j. is j ∷ []
one (y ∷ z ∷ zs) x long is = absurd (omega (arith, long))

pub two : {X : Type 0} (xs : List X) (x y : X) → length xs ≡ 2 → x ≡ get_or xs 0 x
    → y ≡ get_or xs 1 y → x ∷ y ∷ [] ≡ xs
two [] x y long is next = absurd (omega (arith, long))
two (z ∷ zs) x y long is next =
    let rest : y ∷ [] ≡ zs = one zs y (omega (arith, long)) next in
    λ j. is j ∷ rest j

pub three : {X : Type 0} (xs : List X) (x y z : X) → length xs ≡ 3 → x ≡ get_or xs 0 x
    → y ≡ get_or xs 1 y → z ≡ get_or xs 2 z → x ∷ y ∷ z ∷ [] ≡ xs
three [] x y z long is next last = absurd (omega (arith, long))
three (w ∷ ws) x y z long is next last =
    let rest : y ∷ z ∷ [] ≡ ws = two ws y z (omega (arith, long)) next last in
    λ j. is j ∷ rest j

-- the same of what a function makes of each
pub map_one : {X Y : Type 0} (f : X → Y) (xs : List X) (x : X) (p : Y) → length xs ≡ 1
    → x ≡ get_or xs 0 x → p ≡ f x → p ∷ [] ≡ map f xs
map_one f xs x p long is of_x = (λ j. of_x j ∷ []) ∙ ap (map f) (one xs x long is)

pub map_two : {X Y : Type 0} (f : X → Y) (xs : List X) (x y : X) (p q : Y) → length xs ≡ 2
    → x ≡ get_or xs 0 x → y ≡ get_or xs 1 y → p ≡ f x → q ≡ f y → p ∷ q ∷ [] ≡ map f xs
map_two f xs x y p q long is next of_x of_y =
    (λ j. of_x j ∷ of_y j ∷ []) ∙ ap (map f) (two xs x y long is next)

pub map_three : {X Y : Type 0} (f : X → Y) (xs : List X) (x y z : X) (p q r : Y)
    → length xs ≡ 3 → x ≡ get_or xs 0 x → y ≡ get_or xs 1 y → z ≡ get_or xs 2 z
    → p ≡ f x → q ≡ f y → r ≡ f z → p ∷ q ∷ r ∷ [] ≡ map f xs
map_three f xs x y z p q r long is next last of_x of_y of_z =
    (λ j. of_x j ∷ of_y j ∷ of_z j ∷ []) ∙ ap (map f) (three xs x y z long is next last)

-- what holds of each input holds of the one read at a place
at_place : {X : Type 0} (P : X → Type 0) (xs : List X) (i : ℕ) (d : X) → AllByRecursion P xs
    → i < length xs → P (get_or xs i d)
at_place P [] i d all h = absurd (omega (arith, h))
at_place P (x ∷ xs) zero d all h = all.0
at_place P (x ∷ xs) (suc i) d all h = at_place P xs i d all.1 (omega (arith, h))

pub of_item : {X : Type 0} (P : X → Type 0) (xs : List X) (i : ℕ) (x : X) → AllByRecursion P xs
    → i < length xs → x ≡ get_or xs i x → P x
of_item P xs i x all h is = subst P (sym is) (at_place P xs i x all h)

-- what a function makes of the first few, and of one more
pub map_more : {X Y : Type 0} (f : X → Y) (xs : List X) (i : ℕ) (x : X) (old new : List Y) (p : Y)
    → i < length xs → x ≡ get_or xs i x → old ≡ map f (take i xs) → p ≡ f x
    → new ≡ old ++ (p ∷ []) → new ≡ map f (take (i + 1) xs)
map_more f xs i x old new p h is before of_x more =
    let next : i + 1 ≡ suc i = omega arith in
    let both : take (i + 1) xs ≡ take i xs ++ (x ∷ []) =
    ap (λ n. take n xs) next ∙ take-suc xs i x h ∙ (λ j. take i xs ++ (sym is j ∷ [])) in
    more ∙ (λ j. before j ++ (of_x j ∷ [])) ∙ sym (map-append f (take i xs) (x ∷ []))
    ∙ ap (map f) (sym both)
