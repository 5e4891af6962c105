-- The greatest common divisor, and fractions in lowest terms.
use Rattle.std.proofs.Common.{◌≡◌, ℕ, zero, suc, ◌*◌, ◌/◌, ◌%◌, ◌<◌, ◌≤◌, Bool, true, false, cond}
use Rattle.std.proofs.Common.{eqb, ◌&&◌, refl, sym, ◌∙◌, subst, arith}
use Rattle.std.specs.Int.{IsGcd}
use Rattle.std.proofs.lemmas.Bool.{eqb-true, eq-eqb}
use Prim.Native.Nat.{◌∣◌}
use Rattle.std.proofs.Math.Nat.{pos_of_dvd_of_pos, one-dvd, mul-div_cancel', mul-dvd-mul_left}
use Rattle.std.proofs.Math.Nat.{le_of_mul-le-mul_left, div-le_self}
use Rattle.std.proofs.lemmas.Nat.Gcd.{dvd_of_mod-eq-zero, mod-eq-zero_of_dvd, le_of_dvd}
use Rattle.st_format.specs.Rate.{greatest_up_to, common_divisor}
use Rattle.st_format.specs.Limits.{IsRate}
use Rattle.st_format.proofs.Cells.{both}

pub gcd_pos : (n d g : ℕ) → 0 < d → IsGcd n d g → 0 < g
gcd_pos n d g pos is = pos_of_dvd_of_pos is.1 pos

pos_factor : (g q d : ℕ) → g * q ≡ d → 0 < d → 0 < q
pos_factor g zero d e pos = absurd (omega (arith, e))
pos_factor g (suc q) d e pos = omega arith

-- the search down from a limit above it finds it
greatest_at : (limit n d g : ℕ) (b : Bool) → 0 < d → g ≤ suc limit → IsGcd n d g
    → (eqb (n % suc limit) 0 && eqb (d % suc limit) 0) ≡ b
    → (g ≤ limit → greatest_up_to limit n d ≡ g) → cond b (suc limit) (greatest_up_to limit n d) ≡ g
greatest_at limit n d g true pos le is test rest =
    let t = both (eqb (n % suc limit) 0) (eqb (d % suc limit) 0) test in
    let in_n : suc limit ∣ n = dvd_of_mod-eq-zero (suc limit) (eqb-true (n % suc limit) 0 t.0) in
    let in_d : suc limit ∣ d = dvd_of_mod-eq-zero (suc limit) (eqb-true (d % suc limit) 0 t.1) in
    let below : suc limit ≤ g = le_of_dvd (gcd_pos n d g pos is) (is.2 (suc limit) in_n in_d) in
    omega arith
greatest_at limit n d g false pos le is test rest =
    let other : suc limit ≡ g → ⊥ = λ e.
    let in_n : n % suc limit ≡ 0 =
    mod-eq-zero_of_dvd (suc limit) (subst (λ (k : ℕ). k ∣ n) (sym e) is.0) in
    let in_d : d % suc limit ≡ 0 =
    mod-eq-zero_of_dvd (suc limit) (subst (λ (k : ℕ). k ∣ d) (sym e) is.1) in
    let t : (eqb (n % suc limit) 0 && eqb (d % suc limit) 0) ≡ true =
    rw (eq-eqb (n % suc limit) 0 in_n, eq-eqb (d % suc limit) 0 in_d) refl in
    let no : false ≡ true = sym test ∙ t in cc in
    rest (omega (arith, other))

greatest_is : (limit n d g : ℕ) → 0 < d → g ≤ limit → IsGcd n d g → greatest_up_to limit n d ≡ g
unfolding greatest_up_to
greatest_is zero n d g pos le is = let some : 0 < g = gcd_pos n d g pos is in absurd (omega arith)
greatest_is (suc limit) n d g pos le is =
    greatest_at limit n d g (eqb (n % suc limit) 0 && eqb (d % suc limit) 0) pos le is refl
    (λ less. greatest_is limit n d g pos less is)

-- The greatest common divisor is what the definition finds.
pub common_divisor-is : (n d g : ℕ) → 0 < d → IsGcd n d g → g ≡ common_divisor n d
common_divisor-is n d g pos is = sym (greatest_is d n d g pos (le_of_dvd pos is.1) is)

-- What is left after the division by it has no common divisor but 1.
rest_is : (n d g : ℕ) → 0 < d → IsGcd n d g → IsGcd (n / g) (d / g) 1
rest_is n d g pos is =
    let some : 0 < g = gcd_pos n d g pos is in (
      one-dvd (n / g),
      one-dvd (d / g),
      λ k in_n in_d.
          let whole_n : g * (n / g) ≡ n = mul-div_cancel' g is.0 in
          let whole_d : g * (d / g) ≡ d = mul-div_cancel' g is.1 in
          let kn : g * k ∣ n = subst (λ (m : ℕ). g * k ∣ m) whole_n (mul-dvd-mul_left k g in_n) in
          let kd : g * k ∣ d = subst (λ (m : ℕ). g * k ∣ m) whole_d (mul-dvd-mul_left k g in_d) in
          let below : g * k ≤ g = le_of_dvd some (is.2 (g * k) kn kd) in
          let le : k ≤ 1 = le_of_mul-le-mul_left {k = g} (omega arith) some in
          let pos_d : 0 < d / g = pos_factor g (d / g) d whole_d pos in
          let ge : 0 < k = pos_of_dvd_of_pos in_d pos_d in
          let one : k ≡ 1 = omega arith in
          subst (λ (m : ℕ). m ∣ 1) (sym one) (one-dvd 1),
    )

pub lowest_rest : (n d g : ℕ) → 0 < d → IsGcd n d g → common_divisor (n / g) (d / g) ≡ 1
lowest_rest n d g pos is =
    let some : 0 < g = gcd_pos n d g pos is in
    let whole_d : g * (d / g) ≡ d = mul-div_cancel' g is.1 in
    let pos_d : 0 < d / g = pos_factor g (d / g) d whole_d pos in
    sym (common_divisor-is (n / g) (d / g) 1 pos_d (rest_is n d g pos is))

-- A rate within the limits stays within them.
pub rate_rest : (n d g : ℕ) → IsRate n d → IsGcd n d g → IsRate (n / g) (d / g)
rate_rest n d g rate is =
    let some : 0 < g = gcd_pos n d g rate.some_d is in
    let whole_n : g * (n / g) ≡ n = mul-div_cancel' g is.0 in
    let whole_d : g * (d / g) ≡ d = mul-div_cancel' g is.1 in
    record {
      some_n = pos_factor g (n / g) n whole_n rate.some_n;
      most_n = omega (arith, div-le_self n g, rate.most_n);
      some_d = pos_factor g (d / g) d whole_d rate.some_d;
      most_d = omega (arith, div-le_self d g, rate.most_d);
      at_least_one =
          le_of_mul-le-mul_left {k = g} (omega (arith, whole_n, whole_d, rate.at_least_one)) some;
      at_most_300 =
          le_of_mul-le-mul_left {k = g} (omega (arith, whole_n, whole_d, rate.at_most_300)) some;
    }
