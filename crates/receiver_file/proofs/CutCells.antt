-- Cells cut into groups.
use Rattle.std.proofs.Common.{◌≡◌, ℕ, zero, suc, ◌+◌, ◌*◌, List, [], ◌∷◌, ◌++◌, take, drop}
use Rattle.std.proofs.Common.{drop-drop, refl, sym, ap, ◌∙◌, arith}
use Rattle.std.proofs.lemmas.List.{drop-take, take-take}
use Rattle.st_format.specs.declared.cell.Cell.{Cell}
use Rattle.media_file.specs.StateFile.{cut_cells}

cut_at : (size a b : ℕ) (cells : List Cell) → a ≡ b
    → cut_cells size a cells ≡ cut_cells size b cells
cut_at size a b cells e = ap (λ (n : ℕ). cut_cells size n cells) e

-- groups, and those behind them
pub cut_add : (size a b : ℕ) (cells : List Cell)
    → cut_cells size (a + b) cells
    ≡ cut_cells size a cells ++ cut_cells size b (drop (size * a) cells)
unfolding cut_cells
cut_add size zero b cells =
    let e : 0 + b ≡ b = omega arith in
    let z : 0 ≡ size * 0 = omega arith in
    cut_at size (0 + b) b cells e ∙ ap (λ (n : ℕ). cut_cells size b (drop n cells)) z
cut_add size (suc a) b cells =
    let e : suc a + b ≡ suc (a + b) = omega arith in
    let z : size + size * a ≡ size * suc a = omega arith in
    cut_at size (suc a + b) (suc (a + b)) cells e
    ∙ ap (λ (t : List (List Cell)). take size cells ∷ t)
    (cut_add size a b (drop size cells)
    ∙ ap (λ (t : List Cell). cut_cells size a (drop size cells) ++ cut_cells size b t)
    (drop-drop (size * a) size cells ∙ ap (λ (n : ℕ). drop n cells) z))

-- the groups are those of the cells as far as they go
cut_take : (size n : ℕ) (cells : List Cell)
    → cut_cells size n (take (size * n) cells) ≡ cut_cells size n cells
unfolding cut_cells
cut_take size zero cells = refl
cut_take size (suc n) cells =
    let z : size * suc n ≡ size + size * n = omega arith in
    ap (λ (k : ℕ). cut_cells size (suc n) (take k cells)) z
    ∙ ap (λ (t : List Cell). t ∷ cut_cells size n (drop size (take (size + size * n) cells)))
    (take-take size (size + size * n) cells (omega arith))
    ∙ ap (λ (t : List Cell). take size cells ∷ cut_cells size n t) (drop-take size (size * n) cells)
    ∙ ap (λ (t : List (List Cell)). take size cells ∷ t) (cut_take size n (drop size cells))

pub cut_alike : (size n : ℕ) (xs ys : List Cell) → take (size * n) xs ≡ take (size * n) ys
    → cut_cells size n xs ≡ cut_cells size n ys
cut_alike size n xs ys e = sym (cut_take size n xs) ∙ ap (cut_cells size n) e ∙ cut_take size n ys

-- one group
pub cut_one : (size : ℕ) (cells : List Cell) → cut_cells size 1 cells ≡ take size cells ∷ []
unfolding cut_cells
cut_one size cells = refl

-- groups, so many behind them, and the rest
pub cut_three : (size a b c n : ℕ) (cells : List Cell) → (a + b) + c ≡ n
    → cut_cells size n cells
    ≡ (cut_cells size a cells ++ cut_cells size b (drop (size * a) cells)) ++ cut_cells size c
    (drop (size * (a + b)) cells)
cut_three size a b c n cells e =
    cut_at size n ((a + b) + c) cells (sym e) ∙ cut_add size (a + b) c cells
    ∙ ap (λ (t : List (List Cell)). t ++ cut_cells size c (drop (size * (a + b)) cells))
    (cut_add size a b cells)
