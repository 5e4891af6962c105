-- Shares of a time: they rise, and are within it.
use Rattle.std.proofs.Common.{ℕ, ◌*◌, ◌/◌, ◌≤◌, ◌<◌, arith}
use Rattle.std.specs.Prelude.{max}
use Rattle.std.proofs.Math.Nat.{div-le_of_le-mul, le-max_left, le-max_right}
use Rattle.std.proofs.lemmas.Nat.{div-add-mod', le-div, mul-le}

-- more, parted by as much, is more
div_rises : (x y m : ℕ) → 0 < m → x ≤ y → x / m ≤ y / m
div_rises x y m some le = le-div (x / m) y m some (omega (arith, div-add-mod' x m, le))

some_of : (n : ℕ) → 0 < max n 1
some_of n = omega (arith, le-max_right n 1)

pub share_rises : (active k l n : ℕ) → k ≤ l → k * active / max n 1 ≤ l * active / max n 1
share_rises active k l n le =
    div_rises (k * active) (l * active) (max n 1) (some_of n)
    (mul-le k active l active le (omega arith))

pub share_within : (active k n : ℕ) → k ≤ n → k * active / max n 1 ≤ active
share_within active k n le =
    div-le_of_le-mul (max n 1)
    (mul-le k active (max n 1) active (omega (arith, le, le-max_left n 1)) (omega arith))

pub share_first : (active n : ℕ) → 0 * active / max n 1 ≤ 0
share_first active n = div-le_of_le-mul (max n 1) (omega arith)
