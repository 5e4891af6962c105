-- What is mixed of two values is no greater than they are.
use Rattle.std.proofs.Common.{
  ◌≡◌,
  ℕ,
  suc,
  zero,
  ◌+◌,
  ◌-◌,
  ◌*◌,
  ◌/◌,
  ◌<◌,
  ◌≤◌,
  Bool,
  true,
  false,
  if◌then◌else◌,
  refl,
  arith,
  ap,
}
use Rattle.std.specs.Prelude.{nat_lt, nat_le}
use Rattle.std.proofs.lemmas.Nat.{mul-le, div_below}
use Rattle.std.proofs.lemmas.Bool.{le-leb, le-ltb, leb-false, lt-leb, lt-ltb, ltb-false}
use Rattle.lane_kernels.specs.Formulas.{key, weight, wipe}

pub past_most : (d q : ℕ) → d < q → d * 256 / q ≤ 256
past_most d q h =
    let below : d * 256 / q < 257 = div_below (d * 256) q 257 (omega arith) (omega arith) in
    omega (arith, below)

weight_by : (x p q : ℕ) (s t : Bool) → nat_lt x p ≡ s → nat_le (p + q) x ≡ t
    → (if s then 0 else (if t then 256 else ((x - p) * 256 / q))) ≤ 256
weight_by x p q true t e f = omega arith
weight_by x p q false true e f = omega arith
weight_by x p q false false e f =
    past_most (x - p) q (omega (arith, ltb-false x p e, leb-false (p + q) x f))

pub weight_most : (x p q : ℕ) → weight x p q ≤ 256
weight_most x p q = weight_by x p q (nat_lt x p) (nat_le (p + q) x) refl refl

pub weight_before : (x p q : ℕ) → x < p → weight x p q ≡ 0
weight_before x p q h =
    ap (λ b. if b then 0 else (if nat_le (p + q) x then 256 else ((x - p) * 256 / q)))
    (lt-ltb x p h)

pub weight_behind : (x p q : ℕ) → p ≤ x → q ≤ x - p → weight x p q ≡ 256
weight_behind x p q h k =
    let end : p + q ≤ x = omega arith in
    λ i. if le-ltb x p h i then 0 else (if le-leb (p + q) x end i then 256 else ((x - p) * 256 / q))

pub weight_between : (x p q : ℕ) → p ≤ x → x - p < q → weight x p q ≡ (x - p) * 256 / q
weight_between x p q h k =
    let inside : x < p + q = omega arith in
    λ i. if le-ltb x p h i then 0
    else (if lt-leb (p + q) x inside i then 256 else ((x - p) * 256 / q))

-- the weight before the soft places, in them and behind them
pub ruleset weights = (past_most, weight_before, weight_behind, weight_between)

-- shares of two values up to m
sum_most : (m a b u w : ℕ) → a ≤ m → b ≤ m → a * u + b * w ≤ m * (u + w)
sum_most m a b u w h k =
    let of_a : a * u ≤ m * u = mul-le a u m u h (omega arith) in
    let of_b : b * w ≤ m * w = mul-le b w m w k (omega arith) in
    let is : m * (u + w) ≡ m * u + m * w = omega arith in
    omega (arith, of_a, of_b, is)

pub wipe_below : (m a b w : ℕ) → a < m → b < m → w ≤ 256 → wipe a b w < m
wipe_below zero a b w h k l = absurd (omega arith)
wipe_below (suc m) a b w h k l =
    let sum = sum_most m a b (256 - w) w (omega arith) (omega arith) in
    let all : m * (256 - w + w) ≡ m * 256 = ap (λ x. m * x) (omega arith) in
    div_below (a * (256 - w) + b * w + 128) 256 (suc m) (omega arith) (omega (arith, sum, all))

pub key_below : (m p a b k : ℕ) → 1 ≤ p → a < m → b < m → k ≤ p → key p a b k < m
key_below zero p a b k some h i l = absurd (omega arith)
key_below (suc m) p a b k some h i l =
    let sum = sum_most m a b (p - k) k (omega arith) (omega arith) in
    let all : m * (p - k + k) ≡ m * p = ap (λ x. m * x) (omega arith) in
    let is : suc m * (2 * p) ≡ 2 * (m * p) + 2 * p = omega arith in
    div_below (2 * (a * (p - k) + b * k) + p) (2 * p) (suc m) (omega arith)
    (omega (arith, sum, all, is))
