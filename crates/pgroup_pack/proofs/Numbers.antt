-- Bits in octets and in values are the same bits where they make the same number.
use Rattle.std.proofs.Common.{◌≡◌, ℕ, zero, suc, ◌+◌, ◌*◌, ◌/◌, ◌%◌, ◌^◌, ◌<◌, List, [], ◌∷◌, ◌++◌}
use Rattle.std.proofs.Common.{length, refl, sym, ap, ◌∙◌, subst, arith}
use Rattle.std.specs.List.{flat_map, AllByRecursion}
use Rattle.std.proofs.lemmas.Grind.{flat_map-append}
use Rattle.std.proofs.lemmas.Nat.{pow-add, div-mul-add, mul-add-lt}
use Rattle.std.proofs.Math.Nat.{div-div-eq-div-mul, mul_comm}
use Rattle.st_format.proofs.WholeOctets.{AllByRecursion-append, bits-low}
use Rattle.st_format.specs.Samples.{bits, Spells}

-- the number that values make at n bits each
unfoldable pub joined : ℕ → List ℕ → ℕ
joined n [] = 0
joined n (v ∷ vs) = v * 2 ^ (n * length vs) + joined n vs

-- a bit above n is a bit of the upper part
high_bit : (m n a b : ℕ) → b < 2 ^ n → (a * 2 ^ n + b) / 2 ^ (m + n) % 2 ≡ a / 2 ^ m % 2
high_bit m n a b lt =
    let e : 2 ^ (m + n) ≡ 2 ^ n * 2 ^ m = pow-add 2 m n ∙ mul_comm (2 ^ m) (2 ^ n) in
    rw (
      e,
      sym (div-div-eq-div-mul (a * 2 ^ n + b) (2 ^ n) (2 ^ m)),
      div-mul-add a (2 ^ n) b lt,
    ) refl

-- the bits of a number in two parts
pub bits-join : (m n a b : ℕ) → b < 2 ^ n → bits (m + n) (a * 2 ^ n + b) ≡ bits m a ++ bits n b
unfolding bits
bits-join zero n a b lt = let e : 0 + n ≡ n = omega arith in rw e (bits-low n a b)
bits-join (suc m) n a b lt =
    let e : suc m + n ≡ suc (m + n) = omega arith in
    rw e (rw (high_bit m n a b lt, bits-join m n a b lt) refl)

pub joined-lt : (n : ℕ) (vs : List ℕ) → AllByRecursion (λ v. v < 2 ^ n) vs
    → joined n vs < 2 ^ (n * length vs)
unfolding joined
joined-lt n [] fit = let e : n * 0 ≡ 0 = omega arith in rw e (omega arith)
joined-lt n (v ∷ vs) fit =
    let e : n * suc (length vs) ≡ n * length vs + n = omega arith in
    rw (e, pow-add 2 (n * length vs) n)
    (mul-add-lt v (2 ^ (n * length vs)) (joined n vs) (2 ^ n) fit.0 (joined-lt n vs fit.1))

-- all bits, joined, are the bits of the number
pub bits-joined : (n : ℕ) (vs : List ℕ) → AllByRecursion (λ v. v < 2 ^ n) vs
    → flat_map (bits n) vs ≡ bits (n * length vs) (joined n vs)
unfolding joined bits
bits-joined n [] fit = let e : n * 0 ≡ 0 = omega arith in rw e refl
bits-joined n (v ∷ vs) fit =
    let e : n * suc (length vs) ≡ n + n * length vs = omega arith in
    rw e
    (rw (bits-joined n vs fit.1)
    (sym (bits-join n (n * length vs) v (joined n vs) (joined-lt n vs fit.1))))

-- as many bits, and the same number
pub Spells-numbers : (n : ℕ) (octets values : List ℕ) → AllByRecursion (λ v. v < 2 ^ 8) octets
    → AllByRecursion (λ v. v < 2 ^ n) values
    → 8 * length octets ≡ n * length values → joined 8 octets ≡ joined n values
    → Spells n octets values
Spells-numbers n octets values small fit long same = record {
  fit = fit;
  same_bits =
      bits-joined 8 octets small ∙ (λ i. bits (long i) (same i)) ∙ sym (bits-joined n values fit);
}

-- spelt lists, one after the other
pub Spells-append : (n : ℕ) (os ps vs ws : List ℕ) → Spells n os vs → Spells n ps ws
    → Spells n (os ++ ps) (vs ++ ws)
Spells-append n os ps vs ws a b = record {
  fit = AllByRecursion-append (λ v. v < 2 ^ n) vs ws a.fit b.fit;
  same_bits =
      flat_map-append (bits 8) os ps ∙ (λ i. a.same_bits i ++ b.same_bits i)
      ∙ sym (flat_map-append (bits n) vs ws);
}

-- a step of a loop that goes up by whole units
pub Spells-more : (n : ℕ) {os ps us vs ws xs : List ℕ} → os ≡ ps ++ us → vs ≡ ws ++ xs
    → Spells n ps ws → Spells n us xs → Spells n os vs
Spells-more n {os} {ps} {us} {vs} {ws} {xs} e f done unit =
    let all : Spells n (ps ++ us) (ws ++ xs) = Spells-append n ps us ws xs done unit in
    record {
      fit = subst (λ (ys : List ℕ). AllByRecursion (λ v. v < 2 ^ n) ys) (sym f) all.fit;
      same_bits = ap (flat_map (bits 8)) e ∙ all.same_bits ∙ sym (ap (flat_map (bits n)) f);
    }
