-- Frames with their timestamps, one by one.
use Rattle.std.proofs.Common.{◌≡◌, ℕ, ◌<◌, ◌≤◌, List, [], ◌∷◌, length, drop, get_or, refl, sym, ap}
use Rattle.std.proofs.Common.{◌∙◌, ◌⊎◌, inl, inr, arith}
use Rattle.std.specs.List.{zip}
use Rattle.st_format.specs.Raster.{Raster}

pub zip_first : (ts ts' : List ℕ) (fs fs' : List Raster) (f : Raster) → 0 < length ts
    → 0 < length fs → f ≡ get_or fs 0 f → ts' ≡ drop 1 ts → fs' ≡ drop 1 fs
    → zip ts fs ≡ (get_or ts 0 0, f) ∷ zip ts' fs'
zip_first [] ts' fs fs' f some few is rest others = absurd (omega (arith, some))
zip_first (t ∷ ts) ts' [] fs' f some few is rest others = absurd (omega (arith, few))
zip_first (t ∷ ts) ts' (g ∷ fs) fs' f some few is rest others =
    ap (λ (x : Raster). (t, x) ∷ zip ts fs) (sym is)
    ∙ ap (λ (xs : List ℕ). (t, f) ∷ zip xs fs) (sym rest)
    ∙ ap (λ (xs : List Raster). (t, f) ∷ zip ts' xs) (sym others)

pub zip_none : (ts : List ℕ) (fs : List Raster) → (length ts ≡ 0) ⊎ (length fs ≡ 0)
    → zip ts fs ≡ []
zip_none [] fs none = refl
zip_none (t ∷ ts) [] none = refl
zip_none (t ∷ ts) (f ∷ fs) (inl none) = absurd (omega (arith, none))
zip_none (t ∷ ts) (f ∷ fs) (inr none) = absurd (omega (arith, none))
