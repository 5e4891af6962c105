-- Texts that are written one behind the other.
use Rattle.std.proofs.Common.{◌≡◌, ℕ, ◌+◌, ◌<◌, List, [], ◌∷◌, ◌++◌, length, take}
use Rattle.std.proofs.Common.{get_or, ap, sym, ◌∙◌, append-nil, append_assoc}
use Rattle.std.proofs.lemmas.Grind.{flat_map-append}
use Rattle.std.proofs.lemmas.List.{take_more}
use Rattle.std.specs.List.{flat_map}

-- the text of the next item behind those of the first
next_text : {X : Type 0} (f : X → List ℕ) (xs : List X) (i : ℕ) (d : X) → i < length xs
    → flat_map f (take i xs) ++ f (get_or xs i d) ≡ flat_map f (take (i + 1) xs)
next_text f xs i d lt =
    sym
    (ap (flat_map f) (take_more xs i d lt) ∙ flat_map-append f (take i xs) (get_or xs i d ∷ [])
    ∙ ap (λ (t : List ℕ). flat_map f (take i xs) ++ t) (append-nil (f (get_or xs i d))))

-- the text of the next item was added behind those of the first
pub next_added : {X : Type 0} (f : X → List ℕ) (xs : List X) (i : ℕ) (d : X) (s t u : List ℕ)
    → i < length xs → t ≡ s ++ flat_map f (take i xs) → u ≡ t ++ f (get_or xs i d)
    → u ≡ s ++ flat_map f (take (i + 1) xs)
next_added f xs i d s t u lt so_far more =
    more ∙ ap (λ (l : List ℕ). l ++ f (get_or xs i d)) so_far
    ∙ append_assoc s (flat_map f (take i xs)) (f (get_or xs i d))
    ∙ ap (λ (l : List ℕ). s ++ l) (next_text f xs i d lt)
