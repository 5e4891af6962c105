-- Lists that a loop makes, one item more each time.
use Rattle.std.proofs.Common.{◌≡◌, ℕ, ◌+◌, ◌<◌, zero, suc, List, [], ◌∷◌, ◌++◌, length, take}
use Rattle.std.proofs.Common.{get_or, map, arith, subst, sym, ap, ◌∙◌}
use Rattle.std.proofs.Math.Seq.{take-suc}
use Rattle.std.proofs.lemmas.List.{map-append}
use Rattle.std.specs.List.{AllZip}

zip_suc : {X Y : Type 0} (R : X → Y → Type 0) (xs : List X) (ys : List Y) (i : ℕ) (y : Y)
    → i < length xs → AllZip R (take i xs) ys → ((d : X) → R (get_or xs i d) y)
    → AllZip R (take (suc i) xs) (ys ++ y ∷ [])
zip_suc R [] ys i y some all r = absurd (omega (arith, some))
zip_suc R (x ∷ xs) [] zero y some all r = (r x, tt)
zip_suc R (x ∷ xs) (z ∷ ys) zero y some all r = absurd all
zip_suc R (x ∷ xs) [] (suc i) y some all r = absurd all
zip_suc R (x ∷ xs) (z ∷ ys) (suc i) y some all r =
    (all.0, zip_suc R xs ys i y (omega (arith, some)) all.1 r)

-- one item more of a list for each of another's
pub zip_next : {X Y : Type 0} (R : X → Y → Type 0) (xs : List X) (ys : List Y) (i : ℕ) (y : Y)
    → i < length xs → AllZip R (take i xs) ys → ((d : X) → R (get_or xs i d) y)
    → AllZip R (take (i + 1) xs) (ys ++ y ∷ [])
zip_next R xs ys i y some all r =
    let same : suc i ≡ i + 1 = omega arith in
    subst (λ n. AllZip R (take n xs) (ys ++ y ∷ [])) same (zip_suc R xs ys i y some all r)

-- lists whose items are mapped alike, with one item more of each
pub map_next : {X Y Z : Type 0} (f : X → Z) (g : Y → Z) (xs : List X) (ys : List Y) (i : ℕ)
    (x : X) (y : Y) → i < length xs → x ≡ get_or xs i x → map f (take i xs) ≡ map g ys
    → f x ≡ g y → map f (take (i + 1) xs) ≡ map g (ys ++ y ∷ [])
map_next f g xs ys i x y some item alike same =
    let next : i + 1 ≡ suc i = omega arith in
    ap (λ n. map f (take n xs)) next ∙ ap (λ zs. map f zs) (take-suc xs i x some)
    ∙ map-append f (take i xs) (get_or xs i x ∷ [])
    ∙ ap (λ zs. zs ++ (f (get_or xs i x) ∷ [])) alike
    ∙ ap (λ z. map g ys ++ (z ∷ [])) (ap f (sym item) ∙ same)
    ∙ sym (map-append g ys (y ∷ []))
