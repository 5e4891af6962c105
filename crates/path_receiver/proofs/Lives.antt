-- The lifetimes within those of a value: where the one type in them lives, all of it does.
use mathlib.Core.List.{[], ◌++◌}
use base.Fml.{Lft}
use contract.BorrowLft.{◌⊑◌, ⊑_meet, ⊑_static}

one : (k l : Lft) → k ⊑ l → k ⊑ l ++ []
one k l in_one = ⊑_meet k l [] in_one (⊑_static k)

abbrev pair : Lft → Lft
pair l = (l ++ []) ++ (l ++ [])

pub in_pair : (k l : Lft) → k ⊑ l → k ⊑ pair l
in_pair k l in_one = ⊑_meet k (l ++ []) (l ++ []) (one k l in_one) (one k l in_one)

abbrev frames : Lft → Lft
frames l = (l ++ []) ++ (pair l ++ (pair l ++ []))

pub in_frames : (k l : Lft) → k ⊑ l → k ⊑ frames l
in_frames k l in_one =
    ⊑_meet k (l ++ []) (pair l ++ (pair l ++ [])) (one k l in_one)
    (⊑_meet k (pair l) (pair l ++ []) (in_pair k l in_one)
    (one k (pair l) (in_pair k l in_one)))

pub in_result : (k l : Lft) → k ⊑ l → k ⊑ (frames l ++ (l ++ [])) ++ (l ++ [])
in_result k l in_one =
    ⊑_meet k (frames l ++ (l ++ [])) (l ++ [])
    (⊑_meet k (frames l) (l ++ []) (in_frames k l in_one) (one k l in_one)) (one k l in_one)

pub in_static : (k : Lft) → k ⊑ []
in_static k = ⊑_static k
