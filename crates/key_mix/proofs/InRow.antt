-- Rows of samples, and the numbers and columns in them.
use Rattle.std.proofs.Common.{
  ◌≡◌,
  ℕ,
  zero,
  suc,
  ◌+◌,
  ◌-◌,
  ◌*◌,
  ◌/◌,
  ◌%◌,
  ◌<◌,
  ◌≤◌,
  inl,
  inr,
  List,
  length,
  take,
  drop,
  refl,
  arith,
  sym,
  ap,
  ◌∙◌,
}
use Rattle.std.proofs.lemmas.Nat.{
  div-mul-add,
  mod-mul-add,
  mul-add-lt,
  mul-le,
  mod_below,
  div_below,
}
use Rattle.std.proofs.lemmas.List.{length-take, length-drop}
use Rattle.std.proofs.Math.Nat.{mul_comm}
use Rattle.std.proofs.lemmas.Bool.{cases_lt}
use Rattle.lane_kernels.specs.Pixels.{pair_luma}
use Rattle.st_format.specs.declared.format.Format.{Format}
use Rattle.st_format.specs.declared.sampling.Sampling.{Sampling}
use Rattle.st_format.specs.declared.sampling.Sampling.TheVariants.{Ycc422, Ycc444, Rgb}
use Rattle.st_format.specs.Position.{
  HasComponent,
  number_in_row,
  number_in_run,
  place,
  place_in_row,
  row_samples,
  run_columns,
  run_samples,
}
use Rattle.st_format.proofs.Numbering.{
  InRun,
  in_run,
  number_in_row-below,
  sample_of,
  some_samples,
  whole_runs,
}
use Rattle.key_mix.specs.Rows.{in_row}

-- the position of the j-th sample of a row
pub place-in_row : (f : Format) (row j : ℕ) → j < row_samples f
    → place f (row * row_samples f + j) ≡ in_row f.sampling row j
unfolding place
place-in_row f row j h =
    rw (div-mul-add row (row_samples f) j h, mod-mul-add row (row_samples f) j h) refl

-- a row of n ends within so many rows
row_ends : (row n height : ℕ) → row < height → row * n + n ≤ height * n
row_ends row n height h =
    let most : suc row * n ≤ height * n = mul-le (suc row) n height n (omega arith) (omega arith) in
    let is : suc row * n ≡ row * n + n = omega arith in
    omega (arith, most, is)

pub row_within : (row at n m height long : ℕ) → at ≡ row * m → n ≡ m → long ≡ height * m
    → row < height → at + n ≤ long
row_within row at n m height long begins of_n of_long h =
    omega (arith, row_ends row m height h, begins, of_n, of_long)

-- the end of a row of a raster is small
pub row_far : (row at n m height : ℕ) → at ≡ row * m → n ≡ m → n ≤ 32768 → row < height
    → height ≤ 8192 → at + n ≤ 8192 * 32768
row_far row at n m height begins of_n few h most =
    let fits : height * m ≤ 8192 * 32768 =
    mul-le height m 8192 32768 most (omega (arith, of_n, few)) in
    omega (arith, row_ends row m height h, begins, of_n, fits)

pub all_rows : (row at m height long : ℕ) → at ≡ row * m → long ≡ height * m → height ≤ row
    → long ≤ at
all_rows row at m height long begins of_long h =
    omega (arith, mul-le height m row m h (omega arith), begins, of_long)

-- parts of two lists of one length
pub same_part : (at m : ℕ) (xs ys : List ℕ) → length xs ≡ length ys
    → length (take m (drop at xs)) ≡ length (take m (drop at ys))
same_part at m xs ys same =
    omega (
      arith,
      length-take m (drop at xs),
      length-take m (drop at ys),
      length-drop at xs,
      length-drop at ys,
      same,
    )

pub column-below : (f : Format) (j : ℕ) → j < row_samples f
    → (place_in_row f.sampling j).0 < f.width
unfolding place_in_row
column-below f j h =
    let s : Sampling = f.sampling in
    let m : ℕ = run_columns s in
    let i : ℕ = j % run_samples s in
    let r : InRun s i = in_run s i (mod_below j (run_samples s) (some_samples s)) in
    let q : j / run_samples s < f.width / m =
    div_below j (run_samples s) (f.width / m) (some_samples s) h in
    let below : j / run_samples s * m + (sample_of s i).0 < m * (f.width / m) =
    mul-add-lt (j / run_samples s) m (sample_of s i).0 (f.width / m) q r.column in
    let whole : m * (f.width / m) ≡ f.width =
    mul_comm m (f.width / m) ∙ whole_runs s f.width f.whole_width.even in
    rw (sym whole) below

has_luma : (s : Sampling) (column : ℕ) → HasComponent s column 0
has_luma Ycc422 column = (omega arith, inl refl)
has_luma Ycc444 column = omega arith
has_luma Rgb column = omega arith

-- a row has the luma of each of its columns
pub luma-below : (f : Format) (column : ℕ) → column < f.width
    → number_in_row f.sampling column 0 < row_samples f
luma-below f column h = number_in_row-below f column 0 h (has_luma f.sampling column)

-- ---- the columns and lumas of each sampling

second_luma : (i : ℕ) → i < 4 → i / 3 ≡ (sample_of Ycc422 i).0
second_luma zero h = refl
second_luma (suc zero) h = refl
second_luma (suc (suc zero)) h = refl
second_luma (suc (suc (suc zero))) h = refl
second_luma (suc (suc (suc (suc i)))) h = absurd (omega arith)

one_column : (i : ℕ) → i < 3 → 0 ≡ (sample_of Ycc444 i).0
one_column zero h = refl
one_column (suc zero) h = refl
one_column (suc (suc zero)) h = refl
one_column (suc (suc (suc i))) h = absurd (omega arith)

one_column_rgb : (i : ℕ) → i < 3 → 0 ≡ (sample_of Rgb i).0
one_column_rgb zero h = refl
one_column_rgb (suc zero) h = refl
one_column_rgb (suc (suc zero)) h = refl
one_column_rgb (suc (suc (suc i))) h = absurd (omega arith)

pub column_pairs : (j : ℕ) → j / 4 * 2 + j % 4 / 3 ≡ (place_in_row Ycc422 j).0
unfolding place_in_row
column_pairs j = ap (λ c. j / 4 * 2 + c) (second_luma (j % 4) (omega arith))

pub column_pixels : (j : ℕ) → j / 3 ≡ (place_in_row Ycc444 j).0
unfolding place_in_row
column_pixels j =
    let one : j / 3 ≡ j / 3 * 1 + 0 = omega arith in
    one ∙ ap (λ c. j / 3 * 1 + c) (one_column (j % 3) (omega arith))

pub column_rgb : (j : ℕ) → j / 3 ≡ (place_in_row Rgb j).0
unfolding place_in_row
column_rgb j =
    let one : j / 3 ≡ j / 3 * 1 + 0 = omega arith in
    one ∙ ap (λ c. j / 3 * 1 + c) (one_column_rgb (j % 3) (omega arith))

-- which column each sample of a row has
pub ruleset columns = (column_pairs, column_pixels, column_rgb)

pub luma_pairs : (c : ℕ) → 2 * c + 1 ≡ number_in_row Ycc422 c 0
unfolding number_in_row number_in_run
luma_pairs c = omega arith

pub luma_pixels : (c : ℕ) → 3 * c + 1 ≡ number_in_row Ycc444 c 0
unfolding number_in_row number_in_run
luma_pixels c = omega arith

pub luma_rgb : (c : ℕ) → 3 * c ≡ number_in_row Rgb c 0
unfolding number_in_row number_in_run
luma_rgb c = omega arith

-- which number each luma of a row has
pub ruleset lumas = (luma_pairs, luma_pixels, luma_rgb)

-- three samples of a pair of columns are at its first, and one at its second
pub first_of_pair : (q j : ℕ) → 4 * q ≤ j → j < 4 * q + 3 → (place_in_row Ycc422 j).0 ≡ 2 * q
first_of_pair q j from below = sym (column_pairs j) ∙ omega arith

pub second_of_pair : (q : ℕ) → (place_in_row Ycc422 (4 * q + 3)).0 ≡ 2 * q + 1
second_of_pair q = sym (column_pairs (4 * q + 3)) ∙ omega arith

-- a row is whole runs
pub whole_row : (f : Format) → row_samples f % run_samples f.sampling ≡ 0
whole_row f =
    let runs : ℕ = f.width / run_columns f.sampling in
    let n : ℕ = run_samples f.sampling in
    let is : runs * n ≡ runs * n + 0 = omega arith in
    ap (λ m. m % n) is ∙ mod-mul-add runs n 0 (some_samples f.sampling)

-- the luma of the column of each sample of pairs
pub pair_luma_is : (j : ℕ) → pair_luma j ≡ number_in_row Ycc422 (place_in_row Ycc422 j).0 0
pair_luma_is j =
    let c : ℕ = j / 4 * 2 + j % 4 / 3 in
    let is : pair_luma j ≡ 2 * c + 1 = omega arith in
    is ∙ luma_pairs c ∙ ap (λ x. number_in_row Ycc422 x 0) (column_pairs j)

-- a row that has the luma of the last of whole pairs has all samples of theirs
pub lumas_reach : (keys row : List ℕ) → length keys % 4 ≡ 0
    → ((j : ℕ) → j < length keys → number_in_row Ycc422 (place_in_row Ycc422 j).0 0 < length row)
    → length keys ≤ length row
lumas_reach keys row whole reach = elim (cases_lt 0 (length keys)) [
  | inl some ↦
      let j : ℕ = length keys - 1 in
      omega (arith, reach j (omega arith), pair_luma_is j)
  | inr none ↦ omega arith
]
