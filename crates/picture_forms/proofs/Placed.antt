-- A plane's positions are every so many of a picture's samples.
use Rattle.std.proofs.Common.{◌≡◌, ℕ, zero, suc, ◌+◌, ◌*◌, ◌/◌, ◌%◌, ◌<◌, ◌≤◌, List, ◌++◌, length}
use Rattle.std.proofs.Common.{map, refl, sym, ap, ◌∙◌, subst, arith}
use Rattle.std.specs.Prelude.{slice_index}
use Rattle.std.specs.List.{range_with_len}
use Rattle.std.proofs.Math.Nat.{div-add-mod'}
use Rattle.st_format.specs.declared.sampling.Sampling.{Sampling}
use Rattle.st_format.specs.declared.sampling.Sampling.TheVariants.{Ycc422, Ycc444, Rgb}
use Rattle.st_format.specs.Picture.{Values, IsPicture}
use Rattle.st_format.specs.Position.{Position, number_in_row, number_in_run, number_of, place}
use Rattle.st_format.specs.Position.{run_columns, run_samples, sample_count}
use Rattle.st_format.proofs.Numbering.{number_of-place}
use Rattle.picture_forms.specs.declared.planes.Spelling.{Spelling}
use Rattle.picture_forms.specs.Planes.{Inside, every, every_text, sample_text}
use Rattle.picture_forms.specs.Layouts.{IsYcc, column_step, pixels_text, pixmap_spelling}
use Rattle.picture_forms.specs.Layouts.{plane_count}
use Rattle.picture_forms.specs.Layouts.{plane_first, plane_place, plane_step, plane_text, texts_at}
use Rattle.picture_forms.specs.Layouts.{y4m_spelling}

luma_22 : (q m w k : ℕ) → w % 2 ≡ 0 → q * (w / 1) + m ≡ k
    → q * (w / 2 * 4) + (m * 1 / 2 * 4 + (1 + 2 * (m * 1 % 2))) ≡ 1 + 2 * k
luma_22 q m w k even e =
    let a : w / 1 ≡ w = omega arith in
    let b : w / 2 * 4 ≡ w * 2 = omega arith in
    let d : q * (w * 2) ≡ q * w * 2 = grind arith in
    let f : q * w + m ≡ k = ap (λ (x : ℕ). q * x + m) (sym a) ∙ e in
    rw (b, d) (omega (arith, f))

chroma_22 : (q m w k x : ℕ) → q * (w / 2) + m ≡ k
    → q * (w / 2 * 4) + (m * 2 / 2 * 4 + x) ≡ x + 4 * k
chroma_22 q m w k x e =
    let d : q * (w / 2 * 4) ≡ q * (w / 2) * 4 = grind arith in
    rw d (omega (arith, e))

any_44 : (q m w k x : ℕ) → q * (w / 1) + m ≡ k
    → q * (w / 1 * 3) + (m * 1 / 1 * 3 + x) ≡ x + 3 * k
any_44 q m w k x e =
    let d : q * (w / 1 * 3) ≡ q * (w / 1) * 3 = grind arith in
    rw d (omega (arith, e))

plane_number : (s : Sampling) (w c k : ℕ) → IsYcc s → c < 3 → w % 2 ≡ 0
    → k / (w / column_step s c) * (w / run_columns s * run_samples s)
    + number_in_row s (k % (w / column_step s c) * column_step s c) c
    ≡ plane_first s c + plane_step s c * k
unfolding number_in_row number_in_run
plane_number Ycc422 w zero k is lt even = luma_22 _ _ w k even (div-add-mod' k (w / 1))
plane_number Ycc422 w (suc zero) k is lt even = chroma_22 _ _ w k 0 (div-add-mod' k (w / 2))
plane_number Ycc422 w (suc (suc zero)) k is lt even = chroma_22 _ _ w k 2 (div-add-mod' k (w / 2))
plane_number Ycc422 w (suc (suc (suc c))) k is lt even = absurd (omega (arith, lt))
plane_number Ycc444 w zero k is lt even = any_44 _ _ w k 1 (div-add-mod' k (w / 1))
plane_number Ycc444 w (suc zero) k is lt even = any_44 _ _ w k 0 (div-add-mod' k (w / 1))
plane_number Ycc444 w (suc (suc zero)) k is lt even = any_44 _ _ w k 2 (div-add-mod' k (w / 1))
plane_number Ycc444 w (suc (suc (suc c))) k is lt even = absurd (omega (arith, lt))
plane_number Rgb w c k is lt even = absurd is

-- values at positions that stand every so many
pub texts_every : (s : Spelling) (v : Values) (g : ℕ → Position) (first step a n : ℕ)
    → ((k : ℕ) → number_of v.format (g k) ≡ first + step * k)
    → texts_at s v (map g (range_with_len a n)) ≡ every_text s v.samples first step a n
unfolding every_text
texts_every s v g first step a zero h = refl
texts_every s v g first step a (suc n) h =
    ap (λ (j : ℕ). sample_text s (slice_index v.samples j)
    ++ texts_at s v (map g (range_with_len (a + 1) n))) (h a)
    ∙ ap (λ (t : List ℕ). sample_text s (every v.samples first step a) ++ t)
    (texts_every s v g first step (a + 1) n h)

pub plane_every : (v : Values) (c : ℕ) → IsYcc v.format.sampling → c < 3
    → plane_text v c
    ≡ every_text (y4m_spelling v.format.depth) v.samples (plane_first v.format.sampling c)
    (plane_step v.format.sampling c) 0 (plane_count v.format c)
unfolding number_of plane_place
plane_every v c is lt =
    texts_every (y4m_spelling v.format.depth) v (plane_place v.format c) _ _ 0
    (plane_count v.format c)
    (λ k. plane_number v.format.sampling v.format.width c k is lt v.format.whole_width.even)

-- a picture's octets in raster order
pub pixels_every : (v : Values)
    → pixels_text v
    ≡ every_text (pixmap_spelling v.format.depth) v.samples 0 1 0 (sample_count v.format)
pixels_every v =
    texts_every (pixmap_spelling v.format.depth) v (place v.format) 0 1 0 (sample_count v.format)
    (λ k. number_of-place v.format k ∙ omega arith)

room_22 : (h w : ℕ) → w % 2 ≡ 0 → 2 * (h * (w / 1)) ≤ h * (w / 2 * 4)
room_22 h w even =
    let a : w / 1 ≡ w = omega arith in
    let b : w / 2 * 4 ≡ w * 2 = omega arith in
    let d : h * (w * 2) ≡ 2 * (h * w) = grind arith in
    rw (b, d, a) (omega arith)

chroma_room : (h w : ℕ) → 4 * (h * (w / 2)) ≤ h * (w / 2 * 4)
chroma_room h w =
    let d : h * (w / 2 * 4) ≡ 4 * (h * (w / 2)) = grind arith in
    rw d (omega arith)

room_44 : (h w : ℕ) → 3 * (h * (w / 1)) ≤ h * (w / 1 * 3)
room_44 h w =
    let d : h * (w / 1 * 3) ≡ 3 * (h * (w / 1)) = grind arith in
    rw d (omega arith)

plane_room : (s : Sampling) (h w c : ℕ) → IsYcc s → w % 2 ≡ 0
    → plane_step s c * (h * (w / column_step s c)) ≤ h * (w / run_columns s * run_samples s)
plane_room Ycc422 h w zero is even = room_22 h w even
plane_room Ycc422 h w (suc c) is even = chroma_room h w
plane_room Ycc444 h w c is even = room_44 h w
plane_room Rgb h w c is even = absurd is

first_below : (s : Sampling) (c : ℕ) → c < 3 → plane_first s c < plane_step s c
first_below Ycc422 zero lt = omega arith
first_below Ycc422 (suc zero) lt = omega arith
first_below Ycc422 (suc (suc c)) lt = omega arith
first_below Ycc444 zero lt = omega arith
first_below Ycc444 (suc zero) lt = omega arith
first_below Ycc444 (suc (suc c)) lt = omega arith
first_below Rgb c lt = lt

pub plane_inside : (v : Values) (c : ℕ) → IsYcc v.format.sampling → c < 3 → IsPicture v
    → Inside v.samples (plane_first v.format.sampling c) (plane_step v.format.sampling c)
    (plane_count v.format c)
plane_inside v c is lt whole = record {
  low = first_below v.format.sampling c lt;
  within =
      subst (λ (n : ℕ). plane_step v.format.sampling c * plane_count v.format c ≤ n)
      (sym whole.whole)
      (plane_room v.format.sampling v.format.height v.format.width c is
      v.format.whole_width.even);
}

pub pixels_long : (v : Values) → IsPicture v
    → pixels_text v ≡ every_text (pixmap_spelling v.format.depth) v.samples 0 1 0 (length v.samples)
pixels_long v is =
    pixels_every v
    ∙ ap (every_text (pixmap_spelling v.format.depth) v.samples 0 1 0) (sym is.whole)

-- the same of a list as long as a picture's
pub plane_within : (v : Values) (c : ℕ) → IsYcc v.format.sampling → c < 3
    → length v.samples ≡ sample_count v.format
    → Inside v.samples (plane_first v.format.sampling c) (plane_step v.format.sampling c)
    (plane_count v.format c)
plane_within v c is lt long = record {
  low = first_below v.format.sampling c lt;
  within =
      subst (λ (n : ℕ). plane_step v.format.sampling c * plane_count v.format c ≤ n)
      (sym long)
      (plane_room v.format.sampling v.format.height v.format.width c is
      v.format.whole_width.even);
}
