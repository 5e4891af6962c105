-- A row of a wipe or of a key, from the parts of the lists that it is made of.
use Rattle.std.proofs.Common.{
  ◌≡◌,
  ℕ,
  ◌+◌,
  ◌-◌,
  ◌*◌,
  ◌<◌,
  List,
  get_or,
  take,
  drop,
  min,
  refl,
  sym,
  ap,
  ◌∙◌,
}
use Rattle.std.proofs.lemmas.List.{get_or-drop, get_or-take}
use Rattle.st_format.specs.declared.format.Format.{Format}
use Rattle.st_format.specs.declared.sampling.Sampling.{Sampling}
use Rattle.st_format.specs.Pgroup.{bits_of}
use Rattle.st_format.specs.Position.{number_in_row, number_of, place, place_in_row, row_samples}
use Rattle.lane_kernels.specs.Formulas.{key, scale, weight, wipe}
use Rattle.key_mix.specs.Jobs.{along}
use Rattle.key_mix.specs.Rows.{in_row, keyed_at, luma_number, next_weight, row_weight, wiped_at}
use Rattle.key_mix.specs.declared.Axis.{Axis}
use Rattle.key_mix.specs.declared.Axis.TheVariants.{Columns, Rows}
use Rattle.key_mix.specs.declared.WipeShape.{WipeShape}
use Rattle.key_mix.proofs.InRow.{place-in_row}

pub part_at : (at m : ℕ) (xs : List ℕ) (i : ℕ) → i < m
    → get_or (take m (drop at xs)) i 0 ≡ get_or xs (at + i) 0
part_at at m xs i h = get_or-take m (drop at xs) i 0 h ∙ get_or-drop at xs i 0

there : (f : Format) (row at i : ℕ) → at ≡ row * row_samples f → i < row_samples f
    → in_row f.sampling row i ≡ place f (at + i)
there f row at i begins h = sym (place-in_row f row i h) ∙ ap (λ k. place f (k + i)) (sym begins)

pub wiped_row : (w : WipeShape) (f : Format) (a b weights : List ℕ) (row at m i : ℕ)
    → at ≡ row * row_samples f → i < row_samples f → i < m
    → get_or weights i 0 ≡ row_weight w f.sampling row i
    → wipe (get_or (take m (drop at a)) i 0) (get_or (take m (drop at b)) i 0) (get_or weights i 0)
    ≡ wiped_at w f a b (at + i)
wiped_row w f a b weights row at m i begins h inside is =
    let x = part_at at m a i inside in
    let y = part_at at m b i inside in
    let z = there f row at i begins h in
    (λ j. wipe (x j) (y j) (is j))
    ∙ (λ j. wipe (get_or a (at + i) 0) (get_or b (at + i) 0)
    (weight (along w.axis (z j)) w.position w.soft))

pub next_row : (x : Axis) (s : Sampling) (row j p q old : ℕ)
    → old ≡ weight (along x (in_row s row j)) p q
    → next_weight x (weight (row + 1) p q) old ≡ weight (along x (in_row s (row + 1) j)) p q
next_row Columns s row j p q old is = is
next_row Rows s row j p q old is = refl

-- the luma of the column of the i-th sample of a row
luma_is : (f g : Format) (row i from : ℕ) → from ≡ row * row_samples g
    → from + number_in_row g.sampling (place_in_row f.sampling i).0 0
    ≡ luma_number g (in_row f.sampling row i)
unfolding number_of
luma_is f g row i from begins =
    ap (λ k. k + number_in_row g.sampling (place_in_row f.sampling i).0 0) begins

pub keyed_row : (f g : Format) (a b by keys : List ℕ) (row at m from t i s : ℕ)
    → at ≡ row * row_samples f → from ≡ row * row_samples g
    → i < row_samples f → i < m → number_in_row g.sampling (place_in_row f.sampling i).0 0 < t
    → s ≡ scale (bits_of f.depth)
    → get_or keys i 0
    ≡ min (219 * s)
    (get_or (take t (drop from by))
    (number_in_row g.sampling (place_in_row f.sampling i).0 0) 0 - 16 * s)
    → key (219 * s) (get_or (take m (drop at a)) i 0) (get_or (take m (drop at b)) i 0)
    (get_or keys i 0) ≡ keyed_at f g a b by (at + i)
keyed_row f g a b by keys row at m from t i s begins lumas h inside below of_depth is =
    let x = part_at at m a i inside in
    let y = part_at at m b i inside in
    let z = there f row at i begins h in
    let luma = part_at from t by (number_in_row g.sampling (place_in_row f.sampling i).0 0) below
    ∙ ap (λ k. get_or by k 0) (luma_is f g row i from lumas ∙ ap (λ p. luma_number g p) z) in
    (λ j. key (219 * s) (x j) (y j) (is j))
    ∙ (λ j. key (219 * of_depth j) (get_or a (at + i) 0) (get_or b (at + i) 0)
    (min (219 * of_depth j) (luma j - 16 * of_depth j)))
