-- Sample numbers where a pixel has three samples.
use Rattle.std.proofs.Common.{◌≡◌, ℕ, ◌+◌, ◌*◌, ◌/◌, ◌%◌, ◌^◌, ◌<◌, ◌≤◌, ◌==◌, List, Bool, true}
use Rattle.std.proofs.Common.{false, if◌then◌else◌, get_or, length, sym, arith, ap, subst, refl}
use Rattle.std.proofs.Common.{◌∙◌}
use Rattle.st_format.specs.declared.format.Format.{Format}
use Rattle.st_format.specs.declared.sampling.Sampling.TheVariants.{Rgb, Ycc444}
use Rattle.st_format.specs.Position.{Position, number_of, number_in_row, number_in_run, row_samples}
use Rattle.st_format.specs.Position.{run_columns, run_samples, sample_count}
use Rattle.st_format.specs.Position.{component_in_row}
use Rattle.st_format.specs.Pgroup.{bits_of}
use Rattle.st_format.specs.Picture.{FitsDepth, IsPicture, Values}
use Rattle.st_format.proofs.Numbering.{number_of-below}
use Rattle.lane_kernels.specs.Formulas.{cb, cr, luma}
use Rattle.bt709_fixed.specs.Operations.{IsOf, IsResampled, matrix_component, matrixed_at}
use Rattle.bt709_fixed.specs.Operations.{ycc444_value}
use Rattle.bt709_fixed.proofs.Made.{all_from_each, component-number, some_bits}
use Rattle.bt709_fixed.proofs.Ranges.{video_data_fits}

row_of_rgb : (f : Format) → f.sampling ≡ Rgb → row_samples f ≡ f.width * 3
row_of_rgb f s = (λ i. f.width / run_columns (s i) * run_samples (s i)) ∙ omega arith

row_of_ycc : (f : Format) → f.sampling ≡ Ycc444 → row_samples f ≡ f.width * 3
row_of_ycc f s = (λ i. f.width / run_columns (s i) * run_samples (s i)) ∙ omega arith

pub whole_pixels : (f : Format) → f.sampling ≡ Rgb → sample_count f % 3 ≡ 0
whole_pixels f s =
    let is : f.height * (f.width * 3) ≡ f.height * f.width * 3 = omega arith in
    ap (λ x. f.height * x % 3) (row_of_rgb f s) ∙ ap (λ x. x % 3) is ∙ omega arith

pub count_same : (f g : Format) → f.sampling ≡ Rgb → IsResampled g f Ycc444
    → sample_count g ≡ sample_count f
count_same f g s r =
    (λ i. r.height i * row_of_ycc g r.sampling i) ∙ (λ i. f.height * (r.width i * 3))
    ∙ ap (λ x. f.height * x) (sym (row_of_rgb f s))

number_rgb : (f : Format) (p : Position) → f.sampling ≡ Rgb
    → number_of f p ≡ p.row * (f.width * 3) + (p.column * 3 + p.component)
unfolding number_of number_in_row number_in_run
number_rgb f p s =
    (λ i. p.row * row_of_rgb f s i + number_in_row (s i) p.column p.component)
    ∙ omega arith

-- the pixel of a position begins at a multiple of 3
pub pixel_begins : (row width column j : ℕ) → j < 3
    → 3 * ((row * (width * 3) + (column * 3 + j)) / 3) ≡ row * (width * 3) + column * 3
pixel_begins row width column j h =
    let is : row * (width * 3) ≡ row * width * 3 = omega arith in
    omega arith

chosen_fits : (m x y z : ℕ) (t u : Bool) → x < m → y < m → z < m
    → (if t then x else (if u then y else z)) < m
chosen_fits m x y z true u p q r = p
chosen_fits m x y z false true p q r = q
chosen_fits m x y z false false p q r = r

matrixed_fits : (n c r g b : ℕ) → 8 ≤ n → matrix_component n c r g b < 2 ^ n
matrixed_fits n c r g b h =
    chosen_fits (2 ^ n) _ _ _ (c == 0) (c == 1) (video_data_fits n (luma r g b) h)
    (video_data_fits n (cb n r g b) h) (video_data_fits n (cr n r g b) h)

in_pixel : ℕ → ℕ
in_pixel c = if c == 0 then 1 else (if c == 1 then 0 else 2)

number_ycc : (f : Format) (p : Position) → f.sampling ≡ Ycc444
    → number_of f p ≡ p.row * (f.width * 3) + (p.column * 3 + in_pixel p.component)
unfolding number_of number_in_row number_in_run in_pixel
number_ycc f p s =
    (λ i. p.row * row_of_ycc f s i + number_in_row (s i) p.column p.component)
    ∙ omega arith

in_pixel-below : (c : ℕ) → in_pixel c < 3
unfolding in_pixel
in_pixel-below c = chosen_fits 3 1 0 2 (c == 0) (c == 1) (omega arith) (omega arith) (omega arith)

-- the sample of another component in the same pixel
pixel_at : (f g : Format) (p : Position) (c : ℕ) → f.sampling ≡ Rgb → IsResampled g f Ycc444
    → 3 * (number_of g p / 3) + c
    ≡ number_of f (record { row = p.row; column = p.column; component = c })
pixel_at f g p c s r =
    ap (λ x. 3 * (x / 3) + c)
    (number_ycc g p r.sampling
    ∙ (λ i. p.row * (r.width i * 3) + (p.column * 3 + in_pixel p.component)))
    ∙ ap (λ x. x + c)
    (pixel_begins p.row f.width p.column (in_pixel p.component) (in_pixel-below p.component))
    ∙ omega arith
    ∙ sym (number_rgb f (record { row = p.row; column = p.column; component = c }) s)

pub matrixed_picture : (v : Values) (f : Format) (new : List ℕ) → v.format.sampling ≡ Rgb
    → IsResampled f v.format Ycc444 → IsPicture v
    → length new ≡ length v.samples
    → ((k : ℕ) → k < length new → get_or new k 0 ≡ matrixed_at (bits_of v.format.depth) v.samples k)
    → IsPicture (record { format = f; samples = new })
    × IsOf f (ycc444_value v) (record { format = f; samples = new })
matrixed_picture v f new s r w long each =
    let n = bits_of v.format.depth in
    let whole : length new ≡ sample_count f = long ∙ w.whole ∙ sym (count_same v.format f s r) in (
      record {
        whole = whole;
        fit = all_from_each (FitsDepth f) new (λ k h.
            subst (λ d. get_or new k 0 < 2 ^ bits_of d) (sym r.depth)
            (subst (λ x. x < 2 ^ n) (sym (each k h))
            (matrixed_fits n (component_in_row Ycc444 k) _ _ _ (some_bits v.format.depth))));
      },
      record {
        format = refl;
        each = λ at h.
            let k = number_of f at in
            let below = number_of-below f at h in
            let same : component_in_row Ycc444 k ≡ at.component =
            ap (λ s. component_in_row s k) (sym r.sampling) ∙ component-number f at h in
            let x = pixel_at v.format f at 0 s r in
            let y = pixel_at v.format f at 1 s r in
            let z = pixel_at v.format f at 2 s r in
            each k (omega (arith, below, whole))
            ∙ (λ i. matrix_component n (same i) (get_or v.samples (x i) 0) (get_or v.samples (y i)
            0)
            (get_or v.samples (z i) 0));
      },
    )
