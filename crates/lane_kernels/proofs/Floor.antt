-- Division that rounds downwards, and the natural division that it is once a multiple of the
-- divisor is added.
use Rattle.std.proofs.Common.{◌≡◌, ℕ, suc, ◌+◌, ◌-◌, ◌*◌, ◌/◌, ◌%◌, ◌<◌, sym, ap, ◌∙◌, arith, inl}
use Rattle.std.proofs.Common.{inr}
use Rattle.std.specs.Prelude.{ℤ, pos, negsuc, ◌+ℤ◌, ◌*ℤ◌}
use Rattle.std.proofs.lemmas.Bool.{cases_lt}
use Rattle.std.proofs.lemmas.Int.{ints}
use Rattle.std.proofs.lemmas.Nat.{div-add-mod', mod_below, div-mul-add, mul-le}
use Rattle.lane_kernels.specs.Formulas.{IsFloor, floor, nearest}

-- m and k are a quotient and what is left
quotient_is : (m d q r : ℕ) → r < d → m ≡ q * d + r → m / d ≡ q
quotient_is m d q r small is = ap (λ x. x / d) is ∙ div-mul-add q d r small

times_sum : (a b d : ℕ) → (a + b) * d ≡ a * d + b * d
times_sum a b d = omega arith

-- z plus k divisors is the natural m
pub floor_biased : (z : ℤ) (d k m : ℕ) → 0 < d → z +ℤ pos (k * d) ≡ pos m
    → floor z d +ℤ pos k ≡ pos (m / d)
unfolding floor
floor_biased (pos a) d k m some e =
    let r = a % d in
    let is : m ≡ (a / d + k) * d + a % d =
    omega (arith, ints, div-add-mod' a d, times_sum (a / d) k d) in
    ap pos (sym (quotient_is m d (a / d + k) r (mod_below a d some) is))
floor_biased (negsuc a) d k m some e =
    let e : m + suc a ≡ k * d = omega (arith, ints) in
    let small = mod_below a d some in
    let split = div-add-mod' a d in
    let more : a / d < k = elim (cases_lt (a / d) k) [
      | inl l ↦ l
      | inr g ↦ absurd (omega (arith, mul-le k d (a / d) d g (omega arith)))
    ] in
    let j = k - suc (a / d) in
    let sum : k ≡ suc (a / d) + j = omega arith in
    let is : m ≡ j * d + (d - 1 - a % d) =
    omega (arith, ap (λ x. x * d) sum, times_sum (suc (a / d)) j d, times_sum (a / d) 1 d) in
    let q = quotient_is m d j (d - 1 - a % d) (omega arith) is in
    omega (arith, ints)

-- floor (x / d + 1 / 2) over whole numbers
pub half : (m d : ℕ) → 0 < d → (2 * m + d) / (2 * d) ≡ (m + d / 2) / d
half m d some =
    let q = (m + d / 2) / d in
    let r = (m + d / 2) % d in
    let small = mod_below (m + d / 2) d some in
    let is : 2 * m + d ≡ q * (2 * d) + (2 * r + d % 2) =
    omega (arith, div-add-mod' (m + d / 2) d, div-add-mod' d 2, times_twice q d) in
    quotient_is (2 * m + d) (2 * d) q (2 * r + d % 2)
    (omega (arith, mod_below d 2 (omega arith))) is
  where
    times_twice : (a b : ℕ) → a * (2 * b) ≡ 2 * (a * b)
    times_twice a b = omega arith

pub nearest_biased : (z : ℤ) (d k m : ℕ) → 0 < d → z +ℤ pos (k * d) ≡ pos m
    → nearest z d +ℤ pos k ≡ pos ((m + d / 2) / d)
nearest_biased z d k m some e =
    let wide : k * (2 * d) ≡ 2 * (k * d) = omega arith in
    floor_biased (pos 2 *ℤ z +ℤ pos d) (2 * d) k (2 * m + d) (omega arith) (omega (arith, ints))
    ∙ ap pos (half m d some)

-- where there is nothing below 0, no bias
pub nearest_natural : (m d : ℕ) → 0 < d → nearest (pos m) d ≡ pos ((m + d / 2) / d)
nearest_natural m d some = let e =
    nearest_biased (pos m) d 0 m some (omega (arith, ints)) in omega (arith, ints)

-- a floor in words of a product
pub floor_is : (z : ℤ) (d : ℕ) → 0 < d → IsFloor z d (floor z d)
unfolding floor
floor_is (pos a) d some = (a % d, mod_below a d some, ap pos (sym (div-add-mod' a d)))
floor_is (negsuc a) d some =
    let r = d - 1 - a % d in
    let small = mod_below a d some in
    let one : suc (a / d) * d ≡ a / d * d + d = omega (arith, times_sum (a / d) 1 d) in
    let is : suc (a / d) * d ≡ suc (a + r) = omega (arith, div-add-mod' a d) in
    (r, omega arith, omega (arith, ints))

pub floor_only : (z : ℤ) (d : ℕ) (v : ℤ) → 0 < d → IsFloor z d v → v ≡ floor z d
floor_only z d (pos n) some (r, small, is) =
    let low = floor_biased z d 0 (n * d + r) some (omega (arith, ints)) in
    omega (arith, ints, low, div-mul-add n d r small)
floor_only z d (negsuc n) some (r, small, is) =
    let low = floor_biased z d (suc n) r some (omega (arith, ints)) in
    omega (arith, ints, low, quotient_is r d 0 r small (omega arith))
