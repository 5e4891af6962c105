-- Times that are near one another, and their timestamps.
use Rattle.std.proofs.Common.{◌≡◌, ℕ, ◌+◌, ◌-◌, ◌%◌, ◌^◌, ◌<◌, ◌≤◌, ◌⊎◌, inl, inr, Bool, true, false}
use Rattle.std.proofs.Common.{◌&&◌, sym, ap, ◌∙◌, subst, arith}
use Rattle.std.specs.Prelude.{nat_lt}
use Rattle.std.proofs.lemmas.Bool.{cases_order, lt-ltb, le-ltb, and_right}
use Rattle.following.specs.Serial.{wrapped, ahead_of, is_newer}
use Rattle.following.specs.Times.{IsNear}
use Rattle.following.proofs.Rising.{newer-self}

abbrev half : ℕ → Bool
half n = nat_lt 0 n && nat_lt n (2 ^ 31)

ahead_newer : (u v : ℕ) → v < u → u < v + 2 ^ 31 → ahead_of u v ≡ u - v
ahead_newer u v lt near = omega arith

ahead_older : (u v : ℕ) → u < v → v < u + 2 ^ 31 → 2 ^ 31 ≤ ahead_of u v
ahead_older u v lt near = omega arith

ahead_newer-wrapped : (u v : ℕ) → ahead_of (wrapped u) (wrapped v) ≡ ahead_of u v
ahead_newer-wrapped u v = omega arith

pub newer-wrapped : (u v : ℕ) → is_newer (wrapped u) (wrapped v) ≡ is_newer u v
unfolding is_newer
newer-wrapped u v = ap half (ahead_newer-wrapped u v)

half_small : (n : ℕ) → 0 < n → n < 2 ^ 31 → half n ≡ true
half_small n some less =
    ap (λ (b : Bool). b && nat_lt n (2 ^ 31)) (lt-ltb 0 n some) ∙ lt-ltb n (2 ^ 31) less

half_large : (n : ℕ) → 2 ^ 31 ≤ n → half n ≡ false
half_large n le = and_right (nat_lt 0 n) (nat_lt n (2 ^ 31)) (le-ltb n (2 ^ 31) le)

newer_near : (u v : ℕ) → (u ≡ v) ⊎ ((u < v) ⊎ (v < u)) → IsNear u v → half (ahead_of u v) ≡ nat_lt v u
unfolding is_newer
newer_near u v (inl e) near =
    subst (λ (x : ℕ). half (ahead_of u x) ≡ nat_lt x u) e (newer-self u ∙ sym (le-ltb u u (omega arith)))
newer_near u v (inr (inl lt)) near =
    half_large (ahead_of u v) (ahead_older u v lt near.back) ∙ sym (le-ltb v u (omega arith))
newer_near u v (inr (inr lt)) near =
    ap half (ahead_newer u v lt near.forth)
    ∙ half_small (u - v) (omega arith) (omega (arith, near.forth)) ∙ sym (lt-ltb v u lt)

newer_unwrapped : (u v : ℕ) → IsNear u v → is_newer u v ≡ nat_lt v u
unfolding is_newer
newer_unwrapped u v near = newer_near u v (cases_order u v) near

-- Of near times the newer timestamp is that of the greater time.
pub newer-near : (u v : ℕ) → IsNear u v → is_newer (wrapped u) (wrapped v) ≡ nat_lt v u
newer-near u v near = newer-wrapped u v ∙ newer_unwrapped u v near

-- Near times of one timestamp are one.
pub same_time : (u v : ℕ) → IsNear u v → wrapped u ≡ wrapped v → u ≡ v
same_time u v near e = same u v near.forth near.back e
  where
    same : (u v : ℕ) → u < v + 2 ^ 31 → v < u + 2 ^ 31 → u % 2 ^ 32 ≡ v % 2 ^ 32 → u ≡ v
    same u v forth back e = omega arith

pub near_back : (u v : ℕ) → IsNear u v → IsNear v u
near_back u v near = record { forth = near.back; back = near.forth }
