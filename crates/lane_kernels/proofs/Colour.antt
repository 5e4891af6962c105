-- Cb and Cr, raised by 131 scales, so that nothing lies below 0.
use Rattle.std.proofs.Common.{◌≡◌, ℕ, ◌+◌, ◌-◌, ◌*◌, ◌/◌, ◌%◌, ◌^◌, ◌<◌, ◌≤◌, arith, ap}
use Rattle.std.proofs.Common.{◌∙◌}
use Rattle.std.specs.Prelude.{ℤ, pos, ◌+ℤ◌, ◌-ℤ◌, ◌*ℤ◌}
use Rattle.std.proofs.lemmas.Int.{ints}
use Rattle.lane_kernels.specs.declared.matrix.Coefficients.{Coefficients}
use Rattle.lane_kernels.specs.declared.matrix.Difference.{Difference}
use Rattle.lane_kernels.specs.declared.matrix.Difference.TheVariants.{Cb, Cr}
use Rattle.lane_kernels.specs.Differences.{coefficients, difference}
use Rattle.lane_kernels.specs.Formulas.{scale, video_data}
use Rattle.lane_kernels.proofs.Clipping.{lanes_clipped, clip_lanes}
use Rattle.lane_kernels.proofs.Floor.{nearest_biased}
use Rattle.lane_kernels.proofs.Gaining.{times}
use Rattle.lane_kernels.proofs.Scales.{centre_is, whole_is, scale_least, scale_narrow, scale_most}

-- the number that is divided by the divisor, and by lanes that wrap at t
abbrev pub raised : Coefficients → ℕ → ℕ → ℕ → ℕ → ℕ
raised k s x y z =
    x * (112 * k.main) + (k.divisor / 2 + k.divisor * 131 * s)
    - (y * (112 * k.first) + z * (112 * k.second))

abbrev raised_lanes : ℕ → Coefficients → ℕ → ℕ → ℕ → ℕ → ℕ
raised_lanes t k s x y z =
    ((x * (112 * k.main) % t + (k.divisor / 2 + k.divisor * 131 % t * s % t) % t) % t
    + (t - (y * (112 * k.first) % t + z * (112 * k.second) % t) % t)) % t

module _ (s x y z : ℕ) (of_x : x < 256 * s) (of_y : y < 256 * s) (of_z : z < 256 * s) where
  fits : (c : Difference) → s ≤ 16
      → raised_lanes (2 ^ 32) (coefficients c) s x y z ≡ raised (coefficients c) s x y z
  fits Cb l = omega arith
  fits Cr l = omega arith

  fits_wide : (c : Difference) → s ≤ 256
      → raised_lanes (2 ^ 64) (coefficients c) s x y z ≡ raised (coefficients c) s x y z
  fits_wide Cb l = omega arith
  fits_wide Cr l = omega arith

times_112 : (a b : ℕ) → pos 112 *ℤ (pos a -ℤ pos b) +ℤ pos (112 * b) ≡ pos (112 * a)
times_112 a b = omega (arith, ints, times a b 112, turned (pos a -ℤ pos b))
  where
    turned : (z : ℤ) → pos 112 *ℤ z ≡ z *ℤ pos 112
    turned z = omega (arith, ints)

some : (c : Difference) → 0 < (coefficients c).divisor
some Cb = omega arith
some Cr = omega arith

never_below : (c : Difference) (s y z : ℕ) → y < 256 * s → z < 256 * s
    → 112 * ((coefficients c).first * y + (coefficients c).second * z)
    ≤ 131 * s * (coefficients c).divisor
never_below Cb s y z p q = omega arith
never_below Cr s y z p q = omega arith

pub natural : (c : Difference) (n x y z : ℕ) → 8 ≤ n → y < 256 * scale n → z < 256 * scale n
    → difference c n x y z +ℤ pos (3 * scale n)
    ≡ pos (raised (coefficients c) (scale n) x y z / (coefficients c).divisor)
natural c n x y z h p q =
    let s = scale n in
    let k = coefficients c in
    let up = k.main * x in
    let down = k.first * y + k.second * z in
    let v = pos 112 *ℤ (pos up -ℤ pos down) in
    let m = 112 * up + 131 * s * k.divisor - 112 * down in
    let low = never_below c s y z p q in
    let e : v +ℤ pos (131 * s * k.divisor) ≡ pos m = omega (arith, ints, times_112 up down) in
    let is = nearest_biased v k.divisor (131 * s) m (some c) e in
    let same : m + k.divisor / 2 ≡ raised k s x y z = omega arith in
    omega (arith, ints, is, centre_is n h, ap (λ x. x / k.divisor) same)

-- what the lanes make, which wrap at t
abbrev pub made : ℕ → Coefficients → ℕ → ℕ → ℕ → ℕ → ℕ
made t k s x y z =
    lanes_clipped t (s + 3 * s) (255 * s - 1 + 3 * s) (3 * s)
    (raised_lanes t k s x y z / k.divisor)

module _ (c : Difference) (n s x y z : ℕ) (h : 8 ≤ n) (e : s ≡ scale n)
    (of_x : x < 2 ^ n) (of_y : y < 2 ^ n) (of_z : z < 2 ^ n) where
  of_raised : (t : ℕ) → 65536 * 65536 ≤ t → scale n ≤ 256
      → raised_lanes t (coefficients c) (scale n) x y z ≡ raised (coefficients c) (scale n) x y z
      → made t (coefficients c) s x y z ≡ video_data n (difference c n x y z)
  of_raised t room most same =
      let k = coefficients c in
      let some = scale_least n in
      let whole = whole_is n h in
      ap (λ s. made t k s x y z) e
      ∙ clip_lanes t (scale n) (255 * scale n - 1) (3 * scale n) _ _ (difference c n x y z)
      (omega arith) (omega arith) (ap (λ m. m / k.divisor) same)
      (natural c n x y z h (omega arith) (omega arith))

  pub of_lanes : n ≤ 12
      → made (2 ^ 32) (coefficients c) s x y z ≡ video_data n (difference c n x y z)
  of_lanes l =
      let most = scale_narrow n l in
      let whole = whole_is n h in
      of_raised (2 ^ 32) (omega arith) (omega arith)
      (fits (scale n) x y z (omega arith) (omega arith) (omega arith) c most)

  pub of_wide_lanes : n ≤ 16
      → made (2 ^ 64) (coefficients c) s x y z ≡ video_data n (difference c n x y z)
  of_wide_lanes l =
      let most = scale_most n l in
      let whole = whole_is n h in
      of_raised (2 ^ 64) (omega arith) most
      (fits_wide (scale n) x y z (omega arith) (omega arith) (omega arith) c most)
