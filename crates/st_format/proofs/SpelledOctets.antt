-- The octets that values spell are the ones that spell them.
use Rattle.std.proofs.Common.{◌≡◌, ℕ, zero, suc, ◌*◌, ◌/◌, ◌^◌, ◌<◌, List, length, map, drop, refl}
use Rattle.std.proofs.Common.{sym, ap, ◌∙◌, arith}
use Rattle.std.specs.List.{flat_map, AllByRecursion}
use Rattle.std.proofs.Math.Nat.{div-eq_of_eq-mul_right}
use Rattle.st_format.specs.Samples.{bits, number, pieces, octets_in, Spells}
use Rattle.st_format.proofs.Spelled.{numbers_back, pieces_back, joined_length}
use Rattle.st_format.proofs.WholeOctets.{all_bits, same_pieces}

-- as many octets as the bits make
how_many : (n : ℕ) (octets vs : List ℕ) → Spells n octets vs → n * length vs / 8 ≡ length octets
how_many n octets vs spells =
    let pos : 0 < 8 = omega arith in
    div-eq_of_eq-mul_right pos
    (sym (joined_length n vs) ∙ ap length (sym spells.same_bits) ∙ joined_length 8 octets)

-- Octets that spell values are the ones that these spell.
pub octets_in-spelled : (n : ℕ) (octets vs : List ℕ) → AllByRecursion (λ v. v < 256) octets
    → Spells n octets vs → octets_in n vs ≡ octets
unfolding octets_in
octets_in-spelled n octets vs small spells =
    rw (how_many n octets vs spells, sym spells.same_bits, pieces_back 8 octets)
    (numbers_back 8 octets small)

count_is : (n : ℕ) (vs : List ℕ) (count : ℕ) → n * length vs ≡ 8 * count → n * length vs / 8 ≡ count
count_is n vs count whole =
    let pos : 0 < 8 = omega arith in
    div-eq_of_eq-mul_right pos whole

-- Values of whole octets are spelt by the octets that they spell.
pub Spells-octets_in : (n : ℕ) (vs : List ℕ) (count : ℕ) → n * length vs ≡ 8 * count
    → AllByRecursion (λ v. v < 2 ^ n) vs → Spells n (octets_in n vs) vs
unfolding octets_in
Spells-octets_in n vs count whole fit =
    rw (count_is n vs count whole)
    (record {
      fit = fit;
      same_bits =
          same_pieces 8 count (flat_map (bits n) vs) (joined_length n vs ∙ whole) (all_bits n vs);
    })

length-numbers : (n count : ℕ) (bs : List ℕ) → length (map number (pieces n count bs)) ≡ count
unfolding pieces
length-numbers n zero bs = refl
length-numbers n (suc count) bs = ap suc (length-numbers n count (drop n bs))

-- how many they are
pub length-octets_in : (n : ℕ) (vs : List ℕ) (count : ℕ) → n * length vs ≡ 8 * count
    → length (octets_in n vs) ≡ count
unfolding octets_in
length-octets_in n vs count whole =
    rw (count_is n vs count whole) (length-numbers 8 count (flat_map (bits n) vs))
