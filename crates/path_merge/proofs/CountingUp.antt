-- How a loop counts up.
use Rattle.std.proofs.Common.{◌≡◌, ℕ, ◌-◌, ◌+◌, ◌<◌, ◌≤◌, arith}

pub fewer : (n i : ℕ) → i < n → n - (i + 1) < n - i
fewer n i lt = omega (arith, lt)

pub reached : (i n : ℕ) → i ≤ n → n ≤ i → i ≡ n
reached i n le ge = omega (arith, le, ge)
