-- Which datagrams come out of a link in memory (own).
use Rattle.std.specs.Prelude.{ℕ, List, [], ◌∷◌, map, slice_index_or, Option, None, Some}
use Rattle.st_format.specs.declared.path.Path.{Path}
use Rattle.st_format.specs.declared.path.Path.TheVariants.{A}

-- What is seen of the turns of a link: the places of the datagrams that came so far, in order, and
-- of the one that is due, if one is. A place is the index among the datagrams that were put in.
pub record Coming : Type 0 where
  pub came : List ℕ
  pub due : Option ℕ

-- the places among turns
abbrev pub places_in : List (Option ℕ) → List ℕ
places_in [] = []
places_in (None ∷ turns) = places_in turns
places_in (Some place ∷ turns) = place ∷ places_in turns

-- the first turn's place
abbrev pub first_in : List (Option ℕ) → Option ℕ
first_in [] = None
first_in (turn ∷ turns) = turn

-- the datagrams at places among those that were put in, all by path A
abbrev pub at_places : List (List ℕ) → List ℕ → List (Path × List ℕ)
at_places taken places = map (λ (place : ℕ). (A, slice_index_or taken place [])) places
