-- The matrix by lanes of 16 bits, which wrap.
use Rattle.std.proofs.Common.{◌≡◌, ℕ, ◌+◌, ◌-◌, ◌*◌, ◌/◌, ◌%◌, ◌^◌, ◌<◌, ◌≤◌, arith, ap, ◌∙◌, inl, inr, refl}
use Rattle.std.proofs.Common.{Fits, w16, w32}
use Rattle.std.specs.Prelude.{◌⊎◌}
use Rattle.std.proofs.lemmas.Bool.{cases_lt}
use Rattle.std.proofs.lemmas.Nat.{mul-le}
use Rattle.std.proofs.Math.Nat.{pow-le-pow_right}
use Rattle.lane_kernels.specs.declared.matrix.Difference.{Difference}
use Rattle.lane_kernels.specs.declared.matrix.Difference.TheVariants.{Cb, Cr}
use Rattle.lane_kernels.specs.declared.pixels.Narrow.{Narrow}
use Rattle.lane_kernels.specs.Differences.{coefficients, difference}
use Rattle.lane_kernels.specs.Formulas.{scale, video_data}
use Rattle.lane_kernels.proofs.Clipping.{clip_lanes, lanes_clipped}
use Rattle.lane_kernels.proofs.Colour.{natural, raised}
use Rattle.lane_kernels.proofs.Scales.{scale_least, scale_narrow, whole_is}
use Rattle.lane_kernels.specs.Pixels.{narrow_of, near_lanes, part_lanes}

-- a number that is right, or too great by 1
abbrev pub IsNear : ℕ → ℕ → Type 0
IsNear q e = (e ≡ q) ⊎ (e ≡ q + 1)

is_near : (q e : ℕ) → q ≤ e → e ≤ q + 1 → IsNear q e
is_near q e low high = elim (cases_lt q e) [ inl l ↦ inr (omega arith) | inr g ↦ inl (omega arith) ]

-- the difference of two numbers by lanes that wrap, where it is small
pub far_above : (a b d : ℕ) → a ≡ b + d → d < 32768
    → (a % 65536 + (65536 - b % 65536)) % 65536 ≡ d
far_above a b d e h = omega arith

pub far_below : (a b d : ℕ) → b ≡ a + d → 0 < d → d ≤ 32768
    → (a % 65536 + (65536 - b % 65536)) % 65536 ≡ 65536 - d
far_below a b d e some h = omega arith

-- the number that is right, by the top bit of the difference
pub exact_above : (q e d f : ℕ) → e ≡ q → e < 65536 → f ≡ d → d < 32768
    → (e + (65536 - f / 32768)) % 65536 ≡ q
exact_above q e d f is room of_f h = omega arith

pub exact_below : (q e d f : ℕ) → e ≡ q + 1 → e < 65536 → f ≡ 65536 - d → 0 < d → d ≤ 32768
    → (e + (65536 - f / 32768)) % 65536 ≡ q
exact_below q e d f is room of_f some h = omega arith

-- ---- parts

pub part_same : (v by : ℕ) → v < 65536 → by < 65536 → v * by % 2 ^ 32 / 65536 ≡ v * by / 65536
part_same v by h k =
    let most : v * by ≤ 65535 * 65535 = mul-le v by 65535 65535 (omega arith) (omega arith) in
    omega arith

-- ---- luma

abbrev near_luma : ℕ → ℕ → ℕ → ℕ
near_luma r g b = (r * 8 * 13933 / 65536 + g * 8 * 46871 / 65536 + b * 8 * 4732 / 65536 + 8) / 8

-- by lanes that wrap
abbrev pub near_luma_lanes : ℕ → ℕ → ℕ → ℕ
near_luma_lanes r g b =
    (((part_lanes r 13933 + part_lanes g 46871) % 65536 + part_lanes b 4732) % 65536 + 8) % 65536 / 8

abbrev pub luma_lanes : ℕ → ℕ → ℕ → ℕ → ℕ
luma_lanes r g b e =
    (e + (65536
    - ((((r * 1063 % 65536 + g * 3576 % 65536) % 65536 + b * 361 % 65536) % 65536 + 2500) % 65536
    + (65536 - e * 5000 % 65536)) % 65536 / 32768)) % 65536

module _ (r g b : ℕ) (of_r : r < 4096) (of_g : g < 4096) (of_b : b < 4096) where
  luma_near : near_luma_lanes r g b ≡ near_luma r g b
  luma_near = omega arith

  luma_low : (1063 * r + 3576 * g + 361 * b + 2500) / 5000 ≤ near_luma r g b
  luma_low = omega arith

  luma_high : near_luma r g b ≤ (1063 * r + 3576 * g + 361 * b + 2500) / 5000 + 1
  luma_high = omega arith

  luma_sum : (((r * 1063 % 65536 + g * 3576 % 65536) % 65536 + b * 361 % 65536) % 65536 + 2500) % 65536
      ≡ (1063 * r + 3576 * g + 361 * b + 2500) % 65536
  luma_sum = omega arith

  luma_exact : (e : ℕ) → e ≤ 4096 → IsNear ((1063 * r + 3576 * g + 361 * b + 2500) / 5000) e
      → luma_lanes r g b e ≡ (1063 * r + 3576 * g + 361 * b + 2500) / 5000
  luma_exact e room near = elim near [
    | inl is ↦
        let sum : ℕ = 1063 * r + 3576 * g + 361 * b + 2500 in
        let far = far_above sum (e * 5000) (sum - e * 5000) (omega arith) (omega arith) in
        exact_above (sum / 5000) e (sum - e * 5000) _ is (omega arith)
        (ap (λ x. (x + (65536 - e * 5000 % 65536)) % 65536) luma_sum ∙ far) (omega arith)
    | inr is ↦
        let sum : ℕ = 1063 * r + 3576 * g + 361 * b + 2500 in
        let far = far_below sum (e * 5000) (e * 5000 - sum) (omega arith) (omega arith) (omega arith) in
        exact_below (sum / 5000) e (e * 5000 - sum) _ is (omega arith)
        (ap (λ x. (x + (65536 - e * 5000 % 65536)) % 65536) luma_sum ∙ far)
        (omega arith) (omega arith)
  ]

  pub luma_made : luma_lanes r g b (near_luma_lanes r g b)
      ≡ (1063 * r + 3576 * g + 361 * b + 2500) / 5000
  luma_made =
      ap (luma_lanes r g b) luma_near
      ∙ luma_exact (near_luma r g b) (omega arith)
      (is_near _ (near_luma r g b) luma_low luma_high)

-- ---- Cb and Cr

-- what the remainder is the difference of
abbrev above : Narrow → ℕ → ℕ → ℕ → ℕ
above k s x e =
    x * k.main + (k.zero + k.of_scale * s)
    + (e * k.left + (k.left_of_scale * s + k.left_zero)) / k.left_divisor

abbrev below : Narrow → ℕ → ℕ → ℕ → ℕ
below k y z e = y * k.first + z * k.second + e * k.whole

-- the same by lanes that wrap
abbrev pub above_lanes : Narrow → ℕ → ℕ → ℕ → ℕ
above_lanes k s x e =
    ((x * k.main % 65536 + (k.zero + k.of_scale * s) % 65536) % 65536
    + (e * k.left % 65536 + (k.left_of_scale * s + k.left_zero)) % 65536 / k.left_divisor) % 65536

abbrev pub below_lanes : Narrow → ℕ → ℕ → ℕ → ℕ
below_lanes k y z e =
    ((y * k.first % 65536 + z * k.second % 65536) % 65536 + e * k.whole % 65536) % 65536

abbrev pub exact_lanes : Narrow → ℕ → ℕ → ℕ → ℕ → ℕ → ℕ
exact_lanes k s x y z e =
    (e + (65536
    - (above_lanes k s x e + (65536 - below_lanes k y z e)) % 65536 / 32768)) % 65536

abbrev near_colour : Narrow → ℕ → ℕ → ℕ → ℕ → ℕ
near_colour k s x y z =
    (x * 8 * k.main_part / 65536 + (1048 * s + 6)
    - (y * 8 * k.first_part / 65536 + z * 8 * k.second_part / 65536)) / 8

module _ (s x y z : ℕ) (few : s ≤ 16) (of_x : x < 256 * s) (of_y : y < 256 * s) (of_z : z < 256 * s)
  where
    colour_near : (c : Difference) → near_lanes (narrow_of c) s x y z ≡ near_colour (narrow_of c) s x y z
    colour_near Cb = omega arith
    colour_near Cr = omega arith

    colour_low : (c : Difference)
        → raised (coefficients c) s x y z / (coefficients c).divisor ≤ near_colour (narrow_of c) s x y z
    colour_low Cb = omega arith
    colour_low Cr = omega arith

    colour_high : (c : Difference)
        → near_colour (narrow_of c) s x y z ≤ raised (coefficients c) s x y z / (coefficients c).divisor + 1
    colour_high Cb = omega arith
    colour_high Cr = omega arith

    above_same : (c : Difference) (e : ℕ) → e ≤ 4194
        → above_lanes (narrow_of c) s x e ≡ above (narrow_of c) s x e % 65536
    above_same Cb e h = omega arith
    above_same Cr e h = omega arith

    below_same : (c : Difference) (e : ℕ)
        → below_lanes (narrow_of c) y z e ≡ below (narrow_of c) y z e % 65536
    below_same Cb e = omega arith
    below_same Cr e = omega arith

    far_right : (c : Difference) (e : ℕ)
        → e ≡ raised (coefficients c) s x y z / (coefficients c).divisor
        → (below (narrow_of c) y z e ≤ above (narrow_of c) s x e)
        × (above (narrow_of c) s x e < below (narrow_of c) y z e + 32768)
    far_right Cb e is = (omega arith, omega arith)
    far_right Cr e is = (omega arith, omega arith)

    far_wrong : (c : Difference) (e : ℕ)
        → e ≡ raised (coefficients c) s x y z / (coefficients c).divisor + 1
        → (above (narrow_of c) s x e < below (narrow_of c) y z e)
        × (below (narrow_of c) y z e ≤ above (narrow_of c) s x e + 32768)
    far_wrong Cb e is = (omega arith, omega arith)
    far_wrong Cr e is = (omega arith, omega arith)

    near_most : (c : Difference) → near_colour (narrow_of c) s x y z ≤ 4194
    near_most Cb = omega arith
    near_most Cr = omega arith

    exact : (c : Difference) (q e : ℕ) → e ≤ 4194
        → q ≡ raised (coefficients c) s x y z / (coefficients c).divisor → IsNear q e
        → exact_lanes (narrow_of c) s x y z e ≡ q
    exact c q e room of_q near =
        let a : ℕ = above (narrow_of c) s x e in
        let b : ℕ = below (narrow_of c) y z e in
        let same : (above_lanes (narrow_of c) s x e + (65536 - below_lanes (narrow_of c) y z e)) % 65536
        ≡ (a % 65536 + (65536 - b % 65536)) % 65536 =
        λ i. (above_same c e room i + (65536 - below_same c e i)) % 65536 in
        elim near [
          | inl is ↦
              let far = far_right c e (is ∙ of_q) in
              let d = far_above a b (a - b) (omega arith) (omega arith) in
              exact_above q e (a - b) _ is (omega arith) (same ∙ d) (omega arith)
          | inr is ↦
              let far = far_wrong c e (is ∙ ap (λ x. x + 1) of_q) in
              let d = far_below a b (b - a) (omega arith) (omega arith) (omega arith) in
              exact_below q e (b - a) _ is (omega arith) (same ∙ d) (omega arith) (omega arith)
        ]

    pub colour_made : (c : Difference)
        → exact_lanes (narrow_of c) s x y z (near_lanes (narrow_of c) s x y z)
        ≡ raised (coefficients c) s x y z / (coefficients c).divisor
    colour_made c =
        let e : ℕ = near_colour (narrow_of c) s x y z in
        ap (exact_lanes (narrow_of c) s x y z) (colour_near c)
        ∙ exact c (raised (coefficients c) s x y z / (coefficients c).divisor) e (near_most c) refl
        (is_near _ e (colour_low c) (colour_high c))

pub some_left : (c : Difference) (k : Narrow) → k ≡ narrow_of c → 0 < k.left_divisor
some_left Cb k e = let is = ap (λ k. k.left_divisor) e in omega (arith, is)
some_left Cr k e = let is = ap (λ k. k.left_divisor) e in omega (arith, is)

pub scale_few : (n s : ℕ) → n ≤ 12 → s ≡ scale n → s ≤ 16
scale_few n s h e = let most = scale_narrow n h in omega (arith, most, e)

pub zero_fits : (c : Difference) (k : Narrow) (s : ℕ) → k ≡ narrow_of c → s ≤ 16
    → Fits w32 (k.zero + k.of_scale * s)
zero_fits Cb k s e h = let is = ap (λ k. k.zero + k.of_scale * s) e in record { fits = omega (arith, is) }
zero_fits Cr k s e h = let is = ap (λ k. k.zero + k.of_scale * s) e in record { fits = omega (arith, is) }

pub left_fits : (c : Difference) (k : Narrow) (s : ℕ) → k ≡ narrow_of c → s ≤ 16
    → Fits w16 (k.left_of_scale * s + k.left_zero)
left_fits Cb k s e h =
    let is = ap (λ k. k.left_of_scale * s + k.left_zero) e in record { fits = omega (arith, is) }
left_fits Cr k s e h =
    let is = ap (λ k. k.left_of_scale * s + k.left_zero) e in record { fits = omega (arith, is) }

abbrev pub made_narrow : Narrow → ℕ → ℕ → ℕ → ℕ → ℕ
made_narrow k s x y z =
    lanes_clipped 65536 (s + 3 * s) (255 * s - 1 + 3 * s) (3 * s)
    (exact_lanes k s x y z (near_lanes k s x y z))

pub narrow_made : (c : Difference) (k : Narrow) → k ≡ narrow_of c → (n s x y z : ℕ)
    → (8 ≤ n) × (n ≤ 12) → s ≡ scale n → x < 2 ^ n → y < 2 ^ n → z < 2 ^ n
    → made_narrow k s x y z ≡ video_data n (difference c n x y z)
narrow_made c k of_k n s x y z depth e p q r =
    let most = scale_narrow n depth.1 in
    let whole = whole_is n depth.0 in
    let some = scale_least n in
    (λ i. made_narrow (of_k i) (e i) x y z)
    ∙ clip_lanes 65536 (scale n) (255 * scale n - 1) (3 * scale n) _ _ (difference c n x y z)
    (omega arith) (omega arith)
    (colour_made (scale n) x y z most (omega arith) (omega arith) (omega arith) c)
    (natural c n x y z depth.0 (omega arith) (omega arith))

pub depth_small : (n : ℕ) → n ≤ 12 → 2 ^ n ≤ 4096
depth_small n h = pow-le-pow_right (omega arith) h
