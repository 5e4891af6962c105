-- Whole octets spell values, and only these.
use Rattle.std.proofs.Common.{◌≡◌, ℕ, zero, suc, ◌+◌, ◌*◌, ◌/◌, ◌%◌, ◌^◌, ◌<◌, ◌≤◌, List, [], ◌∷◌}
use Rattle.std.proofs.Common.{◌++◌, length, map, take, drop, refl, sym, ap, ◌∙◌, subst, arith}
use Rattle.std.specs.List.{flat_map, AllByRecursion}
use Rattle.std.proofs.lemmas.List.{length-append, length-take-le, length-drop, take-append-drop}
use Rattle.std.proofs.lemmas.Nat.{div-add-mod', pow_pos, pow-add, div-mul-add, mul-add-lt}
use Rattle.std.proofs.Math.Nat.{mod-eq_of_lt, mul-div_right, pow-succ', mul-add-div_right}
use Rattle.std.proofs.Math.Nat.{mul_assoc, mul_comm}
use Rattle.st_format.specs.Samples.{bits, number, pieces, values_in, Spells}
use Rattle.st_format.proofs.Spelled.{length-bits, values_in-spelled, values_in_octets}

-- the low n bits of a number don't see what stands above them
doubled : (n a : ℕ) → a * 2 ^ suc n ≡ (a * 2) * 2 ^ n
doubled n a = ap (λ (k : ℕ). a * k) (pow-succ' 2 n) ∙ sym (mul_assoc a 2 (2 ^ n))

low_head : (n a b : ℕ) → (a * 2 ^ suc n + b) / 2 ^ n % 2 ≡ b / 2 ^ n % 2
low_head n a b =
    rw (doubled n a, mul-add-div_right {m = 2 ^ n} (pow_pos n) (a * 2) b)
    (omega arith)

pub bits-low : (n a b : ℕ) → bits n (a * 2 ^ n + b) ≡ bits n b
unfolding bits
bits-low zero a b = refl
bits-low (suc n) a b =
    let tail : bits n (a * 2 ^ suc n + b) ≡ bits n b = rw (doubled n a) (bits-low n (a * 2) b) in
    rw (low_head n a b, tail) refl

pub AllByRecursion-append : (P : ℕ → Type 0) (xs ys : List ℕ) → AllByRecursion P xs
    → AllByRecursion P ys → AllByRecursion P (xs ++ ys)
AllByRecursion-append P [] ys a b = b
AllByRecursion-append P (x ∷ xs) ys a b = (a.0, AllByRecursion-append P xs ys a.1 b)

abbrev pub Bits : List ℕ → Type 0
Bits bs = AllByRecursion (λ b. b < 2) bs

bits_of_bits : (n v : ℕ) → Bits (bits n v)
unfolding bits
bits_of_bits zero v = tt
bits_of_bits (suc n) v = (omega arith, bits_of_bits n v)

pub all_bits : (n : ℕ) (vs : List ℕ) → Bits (flat_map (bits n) vs)
all_bits n [] = tt
all_bits n (v ∷ vs) =
    AllByRecursion-append (λ b. b < 2) (bits n v) (flat_map (bits n) vs) (bits_of_bits n v)
    (all_bits n vs)

number-lt : (bs : List ℕ) → Bits bs → number bs < 2 ^ length bs
unfolding number
number-lt [] ok = omega arith
number-lt (b ∷ bs) ok =
    let e : suc (length bs) ≡ length bs + 1 = omega arith in
    rw (e, pow-add 2 (length bs) 1)
    (mul-add-lt b (2 ^ length bs) (number bs) 2 ok.0 (number-lt bs ok.1))

-- a number made of bits has these bits
bits-number : (bs : List ℕ) → Bits bs → bits (length bs) (number bs) ≡ bs
unfolding bits number
bits-number [] ok = refl
bits-number (b ∷ bs) ok =
    let e : b % 2 ≡ b = mod-eq_of_lt ok.0 in
    rw (
      div-mul-add b (2 ^ length bs) (number bs) (number-lt bs ok.1),
      e,
      bits-low (length bs) b (number bs),
      bits-number bs ok.1,
    ) refl

pub length-all_bits : (n : ℕ) (vs : List ℕ) → length (flat_map (bits n) vs) ≡ n * length vs
length-all_bits n [] = omega arith
length-all_bits n (v ∷ vs) =
    omega (
      arith,
      length-append (bits n v) (flat_map (bits n) vs),
      length-bits n v,
      length-all_bits n vs,
    )

front : (n : ℕ) (bs : List ℕ) → Bits bs → Bits (take n bs)
front zero bs ok = tt
front (suc n) [] ok = tt
front (suc n) (b ∷ bs) ok = (ok.0, front n bs ok.1)

rest : (n : ℕ) (bs : List ℕ) → Bits bs → Bits (drop n bs)
rest zero bs ok = ok
rest (suc n) [] ok = tt
rest (suc n) (b ∷ bs) ok = rest n bs ok.1

piece : (n : ℕ) (bs : List ℕ) → n ≤ length bs → Bits bs → bits n (number (take n bs)) ≡ take n bs
piece n bs le ok =
    let e : length (take n bs) ≡ n = length-take-le n bs le in
    subst (λ k. bits k (number (take n bs)) ≡ take n bs) e (bits-number (take n bs) (front n bs ok))

pub same_pieces : (n count : ℕ) (bs : List ℕ) → length bs ≡ n * count → Bits bs
    → flat_map (bits n) (map number (pieces n count bs)) ≡ bs
unfolding pieces
same_pieces n zero [] long ok = refl
same_pieces n zero (b ∷ bs) long ok = absurd (omega arith)
same_pieces n (suc count) bs long ok =
    rw (
      piece n bs (omega arith) ok,
      same_pieces n count (drop n bs) (omega (arith, length-drop n bs)) (rest n bs ok),
    )
    (take-append-drop n bs)

fit_pieces : (n count : ℕ) (bs : List ℕ) → n * count ≤ length bs → Bits bs
    → AllByRecursion (λ v. v < 2 ^ n) (map number (pieces n count bs))
unfolding pieces
fit_pieces n zero bs long ok = tt
fit_pieces n (suc count) bs long ok =
    let e : length (take n bs) ≡ n = length-take-le n bs (omega arith) in (
      subst (λ k. number (take n bs) < 2 ^ k) e (number-lt (take n bs) (front n bs ok)),
      fit_pieces n count (drop n bs) (omega (arith, length-drop n bs)) (rest n bs ok),
    )

-- the values that are read from octets have no more bits
pub values_in-fit : (n : ℕ) (octets : List ℕ) → AllByRecursion (λ v. v < 2 ^ n) (values_in n octets)
unfolding values_in
values_in-fit n octets =
    let bs : List ℕ = flat_map (bits 8) octets in
    let count : ℕ = 8 * length octets / n in
    fit_pieces n count bs
    (omega (
      arith,
      div-add-mod' (8 * length octets) n,
      length-all_bits 8 octets,
      mul_comm n count,
    )) (all_bits 8 octets)

-- octets of whole values spell the values that are read from them
pub Spells-values_in : (n : ℕ) (octets : List ℕ) (count : ℕ) → 0 < n
    → 8 * length octets ≡ n * count → Spells n octets (values_in n octets)
unfolding values_in
Spells-values_in n octets count pos whole =
    let bs : List ℕ = flat_map (bits 8) octets in
    let e : 8 * length octets / n ≡ count = ap (λ (k : ℕ). k / n) whole ∙ mul-div_right count pos in
    let long : length bs ≡ n * count = length-all_bits 8 octets ∙ whole in
    rw e
    (record {
      fit = fit_pieces n count bs (omega arith) (all_bits 8 octets);
      same_bits =
          sym (same_pieces n count bs long (all_bits 8 octets));
    })

-- Octets spell one list of values.
pub one_list : (n : ℕ) (octets vs ws : List ℕ) → 0 < n → Spells n octets vs → Spells n octets ws
    → vs ≡ ws
one_list n octets vs ws pos a b =
    sym (values_in-spelled n octets vs pos a) ∙ values_in-spelled n octets ws pos b

-- Values are spelt by one list of octets.
pub one_spelling : (n : ℕ) (os ps vs : List ℕ) → AllByRecursion (λ v. v < 256) os
    → AllByRecursion (λ v. v < 256) ps → Spells n os vs → Spells n ps vs → os ≡ ps
one_spelling n os ps vs small few a b =
    sym (values_in_octets os small)
    ∙ values_in-spelled 8 os ps (omega arith)
    (record { fit = few; same_bits = a.same_bits ∙ sym b.same_bits })
