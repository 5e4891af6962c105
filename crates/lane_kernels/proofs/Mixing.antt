-- Sums of two values by two weights in 32 bits, which do not wrap.
use Rattle.std.proofs.Common.{◌≡◌, ℕ, ◌+◌, ◌-◌, ◌*◌, ◌/◌, ◌%◌, ◌^◌, ◌<◌, ◌≤◌, arith, sym, ap, ◌∙◌}
use Rattle.std.proofs.lemmas.Nat.{mul-le, div_below}
use Rattle.lane_kernels.specs.Formulas.{key, wipe}
use Rattle.lane_kernels.proofs.Floor.{half}

-- the weights k and p - k share p
pub mixed_most : (p a b k : ℕ) → k ≤ p → a < 65536 → b < 65536 → a * (p - k) + b * k ≤ 65535 * p
mixed_most p a b k h q r =
    omega (
      arith,
      mul-le a (p - k) 65535 (p - k) (omega arith) (omega arith),
      mul-le b k 65535 k (omega arith) (omega arith),
    )

pub wipe_fits : (a b w : ℕ) → w ≤ 256 → a < 65536 → b < 65536
    → ((a * ((256 + (2 ^ 32 - w)) % 2 ^ 32) % 2 ^ 32 + b * w % 2 ^ 32) % 2 ^ 32
    + 128) % 2 ^ 32 / 256 ≡ wipe a b w
wipe_fits a b w h q r =
    let rest : (256 + (2 ^ 32 - w)) % 2 ^ 32 ≡ 256 - w = omega arith in
    ap (λ x. ((a * x % 2 ^ 32 + b * w % 2 ^ 32) % 2 ^ 32 + 128) % 2 ^ 32 / 256) rest
    ∙ omega (arith, mixed_most 256 a b w h q r)

pub wipe_most : (a b w : ℕ) → w ≤ 256 → a < 65536 → b < 65536 → wipe a b w < 65536
wipe_most a b w h q r = omega (arith, mixed_most 256 a b w h q r)

pub key_natural : (p a b k : ℕ) → 1 ≤ p → key p a b k ≡ (a * (p - k) + b * k + p / 2) / p
key_natural p a b k some = half (a * (p - k) + b * k) p some

pub key_sum_most : (p a b k : ℕ) → p < 65536 → k ≤ p → a < 65536 → b < 65536
    → a * (p - k) + b * k + p / 2 < 2 ^ 32
key_sum_most p a b k s h q r = omega (arith, mixed_most p a b k h q r)

pub key_fits : (p a b k : ℕ) → 1 ≤ p → p < 65536 → k ≤ p → a < 65536 → b < 65536
    → ((a * ((p + (2 ^ 32 - k)) % 2 ^ 32) % 2 ^ 32 + b * k % 2 ^ 32) % 2 ^ 32 + p / 2) % 2 ^ 32 / p
    ≡ key p a b k
key_fits p a b k some small h q r =
    let rest : (p + (2 ^ 32 - k)) % 2 ^ 32 ≡ p - k = omega arith in
    let sum : ((a * (p - k) % 2 ^ 32 + b * k % 2 ^ 32) % 2 ^ 32 + p / 2) % 2 ^ 32
    ≡ a * (p - k) + b * k + p / 2 = omega (arith, key_sum_most p a b k small h q r) in
    ap (λ x. ((a * x % 2 ^ 32 + b * k % 2 ^ 32) % 2 ^ 32 + p / 2) % 2 ^ 32 / p) rest
    ∙ ap (λ x. x / p) sum ∙ sym (key_natural p a b k some)

pub key_most : (p a b k : ℕ) → 1 ≤ p → k ≤ p → a < 65536 → b < 65536 → key p a b k < 65536
key_most p a b k some h q r =
    let below =
    div_below (a * (p - k) + b * k + p / 2) p 65536 some
    (omega (arith, mixed_most p a b k h q r)) in
    omega (arith, key_natural p a b k some)
