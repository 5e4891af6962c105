-- Frames that a receiver is given one after the other.
use Rattle.std.proofs.Common.{◌≡◌, ℕ, zero, suc, ◌+◌, ◌<◌, List, [], ◌∷◌, ◌++◌, length, take, drop}
use Rattle.std.proofs.Common.{set, get_or, drop-drop, sym, ap, ◌∙◌, arith}
use Rattle.std.proofs.lemmas.List.{drop-set-lt, get_or-drop}
use Rattle.st_format.specs.Raster.{Raster}

-- one more of them is set
pub next_set : (fs rs : List Raster) (i : ℕ) (x d : Raster) → i < length fs → length rs ≡ length fs
    → x ≡ get_or fs i d → set (take i fs ++ drop i rs) i x ≡ take (i + 1) fs ++ drop (i + 1) rs
next_set [] rs i x d lt e is = absurd (omega (arith, lt))
next_set (f ∷ fs) [] i x d lt e is = absurd (omega (arith, e))
next_set (f ∷ fs) (r ∷ rs) zero x d lt e is = ap (λ (y : Raster). y ∷ rs) is
next_set (f ∷ fs) (r ∷ rs) (suc i) x d lt e is =
    let z : suc i + 1 ≡ suc (i + 1) = omega arith in
    ap (λ (t : List Raster). f ∷ t)
    (next_set fs rs i x d (omega (arith, lt)) (omega (arith, e)) is)
    ∙ ap (λ (n : ℕ). take n (f ∷ fs) ++ drop n (r ∷ rs)) (sym z)

-- those that weren't given stay
pub next_rest : (ls fs : List Raster) (i : ℕ) (y : Raster) → drop i ls ≡ drop i fs
    → drop (i + 1) (set ls i y) ≡ drop (i + 1) fs
next_rest ls fs i y e =
    drop-set-lt (i + 1) ls i y (omega arith) ∙ sym (drop-drop 1 i ls)
    ∙ ap (λ (t : List Raster). drop 1 t) e ∙ drop-drop 1 i fs

pub given_one : (ls fs : List Raster) (i : ℕ) (x : Raster) → drop i ls ≡ drop i fs
    → get_or ls i x ≡ get_or fs i x
given_one ls fs i x e =
    let z : i ≡ i + 0 = omega arith in
    ap (λ (n : ℕ). get_or ls n x) z ∙ sym (get_or-drop i ls 0 x)
    ∙ ap (λ (t : List Raster). get_or t 0 x) e ∙ get_or-drop i fs 0 x
    ∙ ap (λ (n : ℕ). get_or fs n x) (sym z)
