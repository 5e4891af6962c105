-- Samples that are made of parts of their inputs, which begin at a pgroup.
use Rattle.std.proofs.Common.{
  ◌≡◌,
  ℕ,
  ◌+◌,
  ◌-◌,
  ◌*◌,
  ◌/◌,
  ◌%◌,
  ◌<◌,
  ◌≤◌,
  ◌++◌,
  List,
  get_or,
  length,
  map,
  take,
  drop,
  min,
  sym,
  ap,
  ◌∙◌,
  subst,
  arith,
}
use Rattle.std.specs.List.{range_with_len}
use Rattle.std.proofs.lemmas.Grind.{flat_map-append}
use Rattle.std.proofs.lemmas.List.{length-drop, length-take-le}
use Rattle.std.proofs.lemmas.List.FromFn.{get_or-map-range_with_len, length-map-range_with_len}
use Rattle.std.proofs.lemmas.Slice.{take-put_mid}
use Rattle.std.proofs.Math.Nat.{div-add-mod}
use Rattle.std.proofs.Math.Seq.{take-add}
use borrow.Rule.Slice.PartMut.{put_mid}
use Rattle.st_format.specs.declared.format.Format.{Format}
use Rattle.st_format.specs.declared.sampling.Depth.{Depth}
use Rattle.st_format.specs.declared.sampling.Depth.TheVariants.{D8, D10, D12, D16}
use Rattle.st_format.specs.declared.sampling.Sampling.{Sampling}
use Rattle.st_format.specs.declared.sampling.Sampling.TheVariants.{Ycc422, Ycc444, Rgb}
use Rattle.st_format.specs.Pgroup.{bits_of, pixel_group}
use Rattle.st_format.specs.Position.{
  number_in_row,
  number_of,
  place,
  place_in_row,
  row_samples,
  run_columns,
  run_samples,
}
use Rattle.st_format.specs.Samples.{Spells, bits}
use Rattle.st_format.proofs.PictureLemmas.{all_set}
use Rattle.st_format.proofs.WholeOctets.{AllByRecursion-append}
use Rattle.lane_kernels.specs.Formulas.{key, scale}
use Rattle.lane_kernels.specs.Pixels.{pair_luma, ycc_at}
use Rattle.bt709_fixed.specs.Operations.{matrixed_at}
use Rattle.bt709_fixed.proofs.Pixels.{matrixed_part, ycc_matrixed}
use Rattle.key_mix.specs.Rows.{column_key, keyed_at, luma_number}
use Rattle.key_mix.proofs.InRow.{column_pixels, column_rgb, luma_pixels, luma_rgb, pair_luma_is}
use Rattle.key_mix.proofs.Parts.{part_at}

-- ---- pgroups are whole runs of components

turns : Sampling → Depth → ℕ
turns s d = (pixel_group s d).samples / run_samples s

begins : (s : Sampling) (d : Depth) (first : ℕ)
    → (pixel_group s d).samples * first ≡ turns s d * first * run_samples s
unfolding turns
begins Ycc422 D8 first = omega arith
begins Ycc422 D10 first = omega arith
begins Ycc422 D12 first = omega arith
begins Ycc422 D16 first = omega arith
begins Ycc444 D8 first = omega arith
begins Ycc444 D10 first = omega arith
begins Ycc444 D12 first = omega arith
begins Ycc444 D16 first = omega arith
begins Rgb D8 first = omega arith
begins Rgb D10 first = omega arith
begins Rgb D12 first = omega arith
begins Rgb D16 first = omega arith

pub ends : (s : Sampling) (d : Depth) (count : ℕ)
    → (pixel_group s d).samples * count % run_samples s ≡ 0
ends Ycc422 D8 count = omega arith
ends Ycc422 D10 count = omega arith
ends Ycc422 D12 count = omega arith
ends Ycc422 D16 count = omega arith
ends Ycc444 D8 count = omega arith
ends Ycc444 D10 count = omega arith
ends Ycc444 D12 count = omega arith
ends Ycc444 D16 count = omega arith
ends Rgb D8 count = omega arith
ends Rgb D10 count = omega arith
ends Rgb D12 count = omega arith
ends Rgb D16 count = omega arith

-- ---- lumas

-- the number of the luma at the column of the j-th sample of a row
pub luma_of : Sampling → ℕ → ℕ
luma_of s j = number_in_row s (place_in_row s j).0 0

of_pairs : (j : ℕ) → luma_of Ycc422 j ≡ pair_luma j
unfolding luma_of
of_pairs j = sym (pair_luma_is j)

of_pixels : (j : ℕ) → luma_of Ycc444 j ≡ 3 * (j / 3) + 1
unfolding luma_of
of_pixels j =
    sym (ap (λ (c : ℕ). 3 * c + 1) (column_pixels j) ∙ luma_pixels (place_in_row Ycc444 j).0)

of_rgb : (j : ℕ) → luma_of Rgb j ≡ 3 * (j / 3)
unfolding luma_of
of_rgb j = sym (ap (λ (c : ℕ). 3 * c) (column_rgb j) ∙ luma_rgb (place_in_row Rgb j).0)

luma_on : (s : Sampling) (q j : ℕ)
    → luma_of s (q * run_samples s + j) ≡ q * run_samples s + luma_of s j
luma_on Ycc422 q j =
    let on : pair_luma (q * 4 + j) ≡ q * 4 + pair_luma j = omega arith in
    of_pairs (q * 4 + j) ∙ on ∙ ap (λ (x : ℕ). q * 4 + x) (sym (of_pairs j))
luma_on Ycc444 q j =
    let on : 3 * ((q * 3 + j) / 3) + 1 ≡ q * 3 + (3 * (j / 3) + 1) = omega arith in
    of_pixels (q * 3 + j) ∙ on ∙ ap (λ (x : ℕ). q * 3 + x) (sym (of_pixels j))
luma_on Rgb q j =
    let on : 3 * ((q * 3 + j) / 3) ≡ q * 3 + 3 * (j / 3) = omega arith in
    of_rgb (q * 3 + j) ∙ on ∙ ap (λ (x : ℕ). q * 3 + x) (sym (of_rgb j))

inside : (s : Sampling) (n j : ℕ) → n % run_samples s ≡ 0 → j < n → luma_of s j < n
inside Ycc422 n j whole lt = omega (arith, of_pairs j)
inside Ycc444 n j whole lt = omega (arith, of_pixels j)
inside Rgb n j whole lt = omega (arith, of_rgb j)

-- samples of whole runs have the luma of each
pub luma-inside : (s : Sampling) (n j : ℕ) → n % run_samples s ≡ 0 → j < n
    → number_in_row s (place_in_row s j).0 0 < n
unfolding luma_of
luma-inside s n j whole lt = inside s n j whole lt

luma_at : (f : Format) (k : ℕ) → luma_number f (place f k) ≡ luma_of f.sampling k
unfolding place number_of luma_of
luma_at f k =
    let s : Sampling = f.sampling in
    let rs : ℕ = row_samples f in
    let r : ℕ = run_samples s in
    let w : ℕ = f.width / run_columns s in
    let q : ℕ = k / rs * w in
    let front : k / rs * (w * r) ≡ q * r = omega arith in
    let all : q * r + k % rs ≡ k = sym (ap (λ (x : ℕ). x + k % rs) front) ∙ omega (arith, div-add-mod k rs) in
    ap (λ (x : ℕ). x + luma_of s (k % rs)) front
    ∙ sym (luma_on s q (k % rs)) ∙ ap (luma_of s) all

-- ---- keys

pub keyed_here : (f : Format) (a b by keys : List ℕ) (first n k sc : ℕ)
    → n % run_samples f.sampling ≡ 0 → k < n → sc ≡ scale (bits_of f.depth)
    → get_or keys k 0
    ≡ column_key f.sampling sc
    (take n (drop ((pixel_group f.sampling f.depth).samples * first) by))
    (place_in_row f.sampling k).0
    → key (219 * sc)
    (get_or (take n (drop ((pixel_group f.sampling f.depth).samples * first) a)) k 0)
    (get_or (take n (drop ((pixel_group f.sampling f.depth).samples * first) b)) k 0)
    (get_or keys k 0)
    ≡ keyed_at f f a b by ((pixel_group f.sampling f.depth).samples * first + k)
unfolding luma_of
keyed_here f a b by keys first n k sc whole lt of_depth is =
    let s : Sampling = f.sampling in
    let at : ℕ = (pixel_group s f.depth).samples * first in
    let q : ℕ = turns s f.depth * first in
    let x = part_at at n a k lt in
    let y = part_at at n b k lt in
    let start : at ≡ q * run_samples s = begins s f.depth first in
    let on : at + luma_of s k ≡ luma_number f (place f (at + k)) =
    ap (λ (z : ℕ). z + luma_of s k) start ∙ sym (luma_on s q k)
    ∙ ap (λ (z : ℕ). luma_of s (z + k)) (sym start) ∙ sym (luma_at f (at + k)) in
    let luma = part_at at n by (luma_of s k) (inside s n k whole lt)
    ∙ ap (λ (z : ℕ). get_or by z 0) on in
    (λ j. key (219 * sc) (x j) (y j) (is j))
    ∙ (λ j. key (219 * of_depth j) (get_or a (at + k) 0) (get_or b (at + k) 0)
    (min (219 * of_depth j) (luma j - 16 * of_depth j)))

-- ---- pixels

whole_pixels : (s : Sampling) (d : Depth) (count : ℕ) → s ≡ Rgb
    → (pixel_group s d).samples * count % 3 ≡ 0
whole_pixels s d count is =
    ap (λ (t : Sampling). (pixel_group s d).samples * count % run_samples t) (sym is)
    ∙ ends s d count

pub matrixed_here : (f : Format) (rgb : List ℕ) (first count k : ℕ) → f.sampling ≡ Rgb
    → k < (pixel_group f.sampling f.depth).samples * count
    → ycc_at (bits_of f.depth)
    (take ((pixel_group f.sampling f.depth).samples * count)
    (drop ((pixel_group f.sampling f.depth).samples * first) rgb)) k
    ≡ matrixed_at (bits_of f.depth) rgb ((pixel_group f.sampling f.depth).samples * first + k)
matrixed_here f rgb first count k is lt =
    let n : ℕ = (pixel_group f.sampling f.depth).samples * count in
    let at : ℕ = (pixel_group f.sampling f.depth).samples * first in
    ycc_matrixed (bits_of f.depth) (take n (drop at rgb)) k
    ∙ matrixed_part rgb at n k (whole_pixels f.sampling f.depth first is)
    (whole_pixels f.sampling f.depth count is) lt (bits_of f.depth)

-- ---- parts of what is made

-- samples that are made each by its number are a part of all that are
pub made_here : (g : ℕ → ℕ) (all at n : ℕ) (out : List ℕ) → length out ≡ n → at + n ≤ all
    → ((k : ℕ) → k < length out → get_or out k 0 ≡ g (at + k))
    → out ≡ take n (drop at (map g (range_with_len 0 all)))
made_here g all at n out long within each =
    let whole : List ℕ = map g (range_with_len 0 all) in
    let whole_long : length whole ≡ all = length-map-range_with_len g 0 all in
    let part : List ℕ = take n (drop at whole) in
    let part_long : length part ≡ n =
    length-take-le n (drop at whole) (omega (arith, length-drop at whole, whole_long)) in
    let of_part : part ≡ map (λ k. g (at + k)) (range_with_len 0 n) =
    all_set (λ k. g (at + k)) part n part_long
    (λ k lt. part_at at n whole k lt
    ∙ get_or-map-range_with_len g 0 all (at + k) (at + k) 0 (omega arith) (omega arith)) in
    all_set (λ k. g (at + k)) out n long (λ k lt. each k (omega (arith, long)))
    ∙ sym of_part

-- octets that spell the first values, and those behind them
pub spelled_more : (n a c e z v y : ℕ) (octets part values : List ℕ) → e ≡ a + length part
    → a ≤ length octets → z + v ≡ y
    → Spells n (take a octets) (take z values)
    → Spells n part (take v (drop z values))
    → Spells n (take e (put_mid a c octets part)) (take y values)
spelled_more n a c e z v y octets part values ends room count before more =
    let os : take e (put_mid a c octets part) ≡ take a octets ++ part =
    take-put_mid a c octets part e ends room in
    let vs : take y values ≡ take z values ++ take v (drop z values) =
    ap (λ (k : ℕ). take k values) (sym count) ∙ take-add z v values in
    subst (λ (ws : List ℕ). Spells n (take e (put_mid a c octets part)) ws) (sym vs)
    (subst (λ (ps : List ℕ). Spells n ps (take z values ++ take v (drop z values))) (sym os)
    (record {
      fit = AllByRecursion-append _ (take z values) (take v (drop z values)) before.fit more.fit;
      same_bits =
          flat_map-append (bits 8) (take a octets) part
          ∙ (λ j. before.same_bits j ++ more.same_bits j)
          ∙ sym (flat_map-append (bits n) (take z values) (take v (drop z values)));
    }))
