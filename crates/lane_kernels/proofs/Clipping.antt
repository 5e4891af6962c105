-- A number brought to a range.
use Rattle.std.proofs.Common.{◌≡◌, ℕ, ◌+◌, ◌-◌, ◌*◌, ◌%◌, ◌^◌, ◌<◌, ◌≤◌, min, max, cond, ltb, arith, ap}
use Rattle.std.proofs.Common.{◌∙◌}
use Rattle.std.specs.Prelude.{ℤ, pos, negsuc, ◌+ℤ◌}
use Rattle.std.proofs.lemmas.Bool.Decides.{nat_tests}
use Rattle.std.proofs.lemmas.Int.{ints}
use Rattle.std.proofs.lemmas.Nat.{mod-mul-add}
use Rattle.lane_kernels.specs.Formulas.{clip}

-- as `simd_max` and `simd_min` choose
pub chosen : (x low high : ℕ)
    → cond (ltb (cond (ltb x low) low x) high) (cond (ltb x low) low x) high ≡ min high (max low x)
chosen x low high = grind (arith, nat_tests)

-- clipped, a number lies in the range
pub clip_most : (low high : ℕ) (z : ℤ) → low ≤ high → clip low high z ≤ high
clip_most low high (pos v) h = omega arith
clip_most low high (negsuc v) h = h

-- q is z raised by k, and so are the range's ends
pub clip_raised : (low high k q : ℕ) (z : ℤ) → low ≤ high → z +ℤ pos k ≡ pos q
    → min (high + k) (max (low + k) q) - k ≡ clip low high z
clip_raised low high k q (pos v) h e = let is : v + k ≡ q = omega (arith, ints) in omega arith
clip_raised low high k q (negsuc v) h e = let is : q + v + 1 ≡ k =
    omega (arith, ints) in omega arith

-- the same of what is left of q above k, 65535 at most
pub clip_above : (low high k q : ℕ) (z : ℤ) → low ≤ high → high < 65536 → z +ℤ pos k ≡ pos q
    → min high (max low (min 65535 (q - k))) ≡ clip low high z
clip_above low high k q (pos v) h fits e = let is : v + k ≡ q = omega (arith, ints) in omega arith
clip_above low high k q (negsuc v) h fits e = let is : q + v + 1 ≡ k =
    omega (arith, ints) in omega arith

-- the same by lanes, whose subtraction wraps at t
abbrev pub lanes_clipped : ℕ → ℕ → ℕ → ℕ → ℕ → ℕ
lanes_clipped t low high k q =
    (cond (ltb (cond (ltb q low) low q) high) (cond (ltb q low) low q) high + (t - k)) % t

pub clip_lanes : (t low high k q m : ℕ) (z : ℤ) → low ≤ high → high + k < t → q ≡ m
    → z +ℤ pos k ≡ pos m
    → lanes_clipped t (low + k) (high + k) k q ≡ clip low high z
clip_lanes t low high k q m z h room same e =
    let x = min (high + k) (max (low + k) m) in
    let turns : x + (t - k) ≡ 1 * t + (x - k) = omega arith in
    ap (lanes_clipped t (low + k) (high + k) k) same
    ∙ ap (λ x. (x + (t - k)) % t) (chosen m (low + k) (high + k))
    ∙ ap (λ y. y % t) turns ∙ mod-mul-add 1 t (x - k) (omega arith)
    ∙ clip_raised low high k m z h e

-- what a value has above the low end, up to most, by lanes of 16 bits
abbrev above_low : ℕ → ℕ → ℕ
above_low y low = (cond (ltb y low) low y + (2 ^ 16 - low)) % 2 ^ 16

greater : (y low : ℕ) → cond (ltb y low) low y ≡ max low y
greater y low = grind (arith, nat_tests)

lesser : (x most : ℕ) → cond (ltb x most) x most ≡ min most x
lesser x most = grind (arith, nat_tests)

pub key_lane : (y low most : ℕ) → y < 65536 → low < 65536
    → cond (ltb (above_low y low) most) (above_low y low) most ≡ min most (y - low)
key_lane y low most h k =
    let is : (max low y + (2 ^ 16 - low)) % 2 ^ 16 ≡ y - low = omega arith in
    lesser (above_low y low) most
    ∙ ap (λ x. min most ((x + (2 ^ 16 - low)) % 2 ^ 16)) (greater y low) ∙ ap (min most) is
