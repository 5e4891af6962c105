-- What 4:2:2 keeps of 4:4:4, from sample numbers to positions.
use Rattle.std.proofs.Common.{
  ◌≡◌,
  ℕ,
  zero,
  suc,
  ◌+◌,
  ◌*◌,
  ◌/◌,
  ◌%◌,
  ◌^◌,
  ◌<◌,
  ◌==◌,
  List,
  [],
  ◌∷◌,
  ◌++◌,
  ◌-◌,
  take,
  drop,
  if◌then◌else◌,
  inl,
  inr,
  get_or,
  length,
  sym,
  arith,
  ap,
  subst,
  refl,
  ◌∙◌,
}
use Rattle.std.specs.List.{AllByRecursion}
use Rattle.std.proofs.lemmas.Bool.{cases_lt}
use Rattle.std.proofs.lemmas.List.{get_or_append_left, get_or-append_right, get_or-drop}
use Rattle.std.proofs.lemmas.List.{get_or-take}
use Rattle.st_format.specs.declared.format.Format.{Format}
use Rattle.st_format.specs.declared.sampling.Depth.{Depth}
use Rattle.st_format.specs.declared.sampling.Depth.TheVariants.{D8, D10, D12, D16}
use Rattle.st_format.specs.declared.sampling.Sampling.TheVariants.{Ycc422, Ycc444}
use Rattle.st_format.specs.Pgroup.{bits_of}
use Rattle.st_format.specs.Picture.{FitsDepth, IsPicture, Values}
use Rattle.st_format.specs.Position.{
  Position,
  HasComponent,
  IsPosition,
  number_of,
  number_in_row,
  number_in_run,
  row_samples,
  run_columns,
  run_samples,
  sample_count,
}
use Rattle.st_format.proofs.Numbering.{number_of-below}
use Rattle.bt709_fixed.specs.Operations.{IsOf, IsResampled, ycc422_value}
use Rattle.bt709_fixed.specs.Thinned.{thinned_number}
use Rattle.bt709_fixed.proofs.Made.{all_from_each}

-- ---- one number

thinned_pair : (q i : ℕ) → i < 4 → thinned_number (4 * q + i) ≡ q * 6 + (if i == 3 then 4 else i)
thinned_pair q i h =
    let a : (4 * q + i) / 4 ≡ q = omega arith in
    let b : (4 * q + i) % 4 ≡ i = omega arith in
    λ j. a j * 6 + (if b j == 3 then 4 else b j)

luma_kept : (x : ℕ) → x < 2 → (if 1 + 2 * x == 3 then 4 else 1 + 2 * x) ≡ 1 + 3 * x
luma_kept zero h = refl
luma_kept (suc zero) h = refl
luma_kept (suc (suc x)) h = absurd (omega arith)

in_pair : ℕ → ℕ → ℕ
in_pair x k = if k == 0 then 1 + 2 * x else (if k == 1 then 0 else 2)

in_pixel : ℕ → ℕ
in_pixel k = if k == 0 then 1 else (if k == 1 then 0 else 2)

thinned_in : (r h c k : ℕ) → HasComponent Ycc422 c k
    → thinned_number (r * (h * 4) + (c / 2 * 4 + in_pair (c % 2) k))
    ≡ r * (2 * h * 3) + (c * 3 + in_pixel k)
unfolding in_pair in_pixel
thinned_in r h c zero is =
    let q : ℕ = r * h + c / 2 in
    let i : ℕ = 1 + 2 * (c % 2) in
    let number : r * (h * 4) + (c / 2 * 4 + (1 + 2 * (c % 2))) ≡ 4 * q + i = omega arith in
    ap thinned_number number ∙ thinned_pair q i (omega arith)
    ∙ ap (λ x. q * 6 + x) (luma_kept (c % 2) (omega arith)) ∙ omega arith
thinned_in r h c (suc zero) is =
    let q : ℕ = r * h + c / 2 in
    let even : c % 2 ≡ 0 = elim is.1 [ inl e ↦ absurd (omega (arith, e)) | inr e ↦ e ] in
    let number : r * (h * 4) + (c / 2 * 4 + 0) ≡ 4 * q + 0 = omega arith in
    ap thinned_number number ∙ thinned_pair q 0 (omega arith) ∙ omega (arith, even)
thinned_in r h c (suc (suc zero)) is =
    let q : ℕ = r * h + c / 2 in
    let even : c % 2 ≡ 0 = elim is.1 [ inl e ↦ absurd (omega (arith, e)) | inr e ↦ e ] in
    let number : r * (h * 4) + (c / 2 * 4 + 2) ≡ 4 * q + 2 = omega arith in
    ap thinned_number number ∙ thinned_pair q 2 (omega arith) ∙ omega (arith, even)
thinned_in r h c (suc (suc (suc k))) is = absurd (omega (arith, is.0))

-- ---- a block of pairs

sum_on : (d q e : ℕ) → (d + q) * 6 + e ≡ 6 * d + (q * 6 + e)
sum_on d q e = omega arith

kept_most : (r : ℕ) → r < 4 → (if r == 3 then 4 else r) < 5
kept_most zero h = omega arith
kept_most (suc zero) h = omega arith
kept_most (suc (suc zero)) h = omega arith
kept_most (suc (suc (suc zero))) h = omega arith
kept_most (suc (suc (suc (suc r)))) h = absurd (omega arith)

thinned_on : (d i : ℕ) → thinned_number (4 * d + i) ≡ 6 * d + thinned_number i
thinned_on d i =
    let a : (4 * d + i) / 4 ≡ d + i / 4 = omega arith in
    let b : (4 * d + i) % 4 ≡ i % 4 = omega arith in
    (λ j. a j * 6 + (if b j == 3 then 4 else b j)) ∙ sum_on d (i / 4) _

thinned_below : (s i : ℕ) → i < 4 * s → thinned_number i < 6 * s
thinned_below s i h =
    let most = kept_most (i % 4) (omega arith) in
    omega (arith, most)

-- d pairs are made, and ws is made of the s pairs behind them
pub thinned_more : (full vs ws : List ℕ) (d s m : ℕ) → m ≡ 6 * s → length vs ≡ 4 * d
    → length ws ≡ 4 * s
    → ((k : ℕ) → k < 4 * d → get_or vs k 0 ≡ get_or full (thinned_number k) 0)
    → ((i : ℕ) → i < length ws
    → get_or ws i 0 ≡ get_or (take m (drop (6 * d) full)) (thinned_number i) 0)
    → (k : ℕ) → k < 4 * (d + s) → get_or (vs ++ ws) k 0 ≡ get_or full (thinned_number k) 0
thinned_more full vs ws d s m size long some made each k h = elim (cases_lt k (4 * d)) [
  | inl l ↦ get_or_append_left vs ws 0 k (omega arith) ∙ made k l
  | inr g ↦
      let i : ℕ = k - 4 * d in
      let at : 4 * d + i ≡ k = omega arith in
      let below = thinned_below s i (omega arith) in
      get_or-append_right vs ws (4 * d) k 0 long g ∙ each i (omega arith)
      ∙ get_or-take m (drop (6 * d) full) (thinned_number i) 0 (omega (arith, below, size))
      ∙ get_or-drop (6 * d) full (thinned_number i) 0
      ∙ ap (λ j. get_or full j 0) (sym (thinned_on d i) ∙ ap thinned_number at)
]

-- ---- the number of a position

row_of_pairs : (f : Format) → f.sampling ≡ Ycc422 → row_samples f ≡ f.width / 2 * 4
row_of_pairs f s = λ i. f.width / run_columns (s i) * run_samples (s i)

row_of_pixels : (f : Format) → f.sampling ≡ Ycc444 → row_samples f ≡ f.width * 3
row_of_pixels f s = (λ i. f.width / run_columns (s i) * run_samples (s i)) ∙ omega arith

number_thin : (f : Format) (p : Position) → f.sampling ≡ Ycc422
    → number_of f p
    ≡ p.row * (f.width / 2 * 4) + (p.column / 2 * 4 + in_pair (p.column % 2) p.component)
unfolding number_of number_in_row number_in_run in_pair
number_thin f p s = λ i. p.row * row_of_pairs f s i + number_in_row (s i) p.column p.component

number_full : (f : Format) (p : Position) → f.sampling ≡ Ycc444
    → number_of f p ≡ p.row * (f.width * 3) + (p.column * 3 + in_pixel p.component)
unfolding number_of number_in_row number_in_run in_pixel
number_full f p s =
    (λ i. p.row * row_of_pixels f s i + number_in_row (s i) p.column p.component)
    ∙ omega arith

pub thinned_at : (f g : Format) (p : Position) → f.sampling ≡ Ycc444 → IsResampled g f Ycc422
    → IsPosition p g
    → thinned_number (number_of g p) ≡ number_of f p
thinned_at f g p s r at =
    let width : 2 * (g.width / 2) ≡ f.width = omega (arith, g.whole_width.even, r.width) in
    let component = subst (λ s. HasComponent s p.column p.component) r.sampling at.component in
    ap thinned_number (number_thin g p r.sampling)
    ∙ thinned_in p.row (g.width / 2) p.column p.component component
    ∙ ap (λ w. p.row * (w * 3) + (p.column * 3 + in_pixel p.component)) width
    ∙ sym (number_full f p s)

pub count_thinned : (f g : Format) → f.sampling ≡ Ycc444 → IsResampled g f Ycc422
    → 4 * (sample_count f / 6) ≡ sample_count g
count_thinned f g s r =
    let half : ℕ = g.width / 2 in
    let width : f.width ≡ 2 * half = omega (arith, g.whole_width.even, r.width) in
    let full : sample_count f ≡ f.height * (2 * half * 3) =
    (λ i. f.height * row_of_pixels f s i) ∙ ap (λ w. f.height * (w * 3)) width in
    ap (λ n. 4 * (n / 6)) full
    ∙ omega arith
    ∙ (λ i. sym r.height i * sym (row_of_pairs g r.sampling) i)

-- ---- the picture

some_values : (d : Depth) → 0 < 2 ^ bits_of d
some_values D8 = omega arith
some_values D10 = omega arith
some_values D12 = omega arith
some_values D16 = omega arith

-- each element of a list that fits is below the bound, and so is what stands for one that isn't
-- there
pub fits_at : (m : ℕ) (xs : List ℕ) (k : ℕ) → 0 < m → AllByRecursion (λ x. x < m) xs
    → get_or xs k 0 < m
fits_at m [] k some all = some
fits_at m (x ∷ xs) zero some all = all.0
fits_at m (x ∷ xs) (suc k) some all = fits_at m xs k some all.1

pub value_fits : (v : Values) (k : ℕ) → IsPicture v
    → get_or v.samples k 0 < 2 ^ bits_of v.format.depth
value_fits v k is =
    fits_at (2 ^ bits_of v.format.depth) v.samples k (some_values v.format.depth) is.fit

pub thinned_picture : (v : Values) (f : Format) (new : List ℕ) → v.format.sampling ≡ Ycc444
    → IsResampled f v.format Ycc422 → IsPicture v
    → length new ≡ 4 * (length v.samples / 6)
    → ((k : ℕ) → k < length new → get_or new k 0 ≡ get_or v.samples (thinned_number k) 0)
    → IsPicture (record { format = f; samples = new })
    × IsOf f (ycc422_value v) (record { format = f; samples = new })
thinned_picture v f new s r w long each =
    let whole : length new ≡ sample_count f =
    long ∙ ap (λ n. 4 * (n / 6)) w.whole ∙ count_thinned v.format f s r in (
      record {
        whole = whole;
        fit = all_from_each (FitsDepth f) new (λ k h.
            subst (λ d. get_or new k 0 < 2 ^ bits_of d) (sym r.depth)
            (subst (λ x. x < 2 ^ bits_of v.format.depth) (sym (each k h))
            (value_fits v (thinned_number k) w)));
      },
      record {
        format = refl;
        each = λ at h.
            let below = number_of-below f at h in
            each (number_of f at) (omega (arith, below, whole))
            ∙ ap (λ k. get_or v.samples k 0) (thinned_at v.format f at s r h);
      },
    )
