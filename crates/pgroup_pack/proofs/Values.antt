-- The values that octets spell, one by one.
use Rattle.std.proofs.Common.{◌≡◌, ℕ, zero, suc, ◌+◌, ◌*◌, ◌/◌, ◌%◌, ◌^◌, ◌<◌, ◌≤◌, List, ◌∷◌, ◌++◌}
use Rattle.std.proofs.Common.{length, get_or, map, take, drop, refl, sym, ap, ◌∙◌, arith}
use Rattle.std.proofs.Common.{append_assoc}
use Rattle.std.specs.List.{flat_map}
use Rattle.std.proofs.lemmas.List.{length-take-le, take-append-drop, take-append-le, drop-append-le}
use Rattle.std.proofs.lemmas.List.{drop-drop, drop_at, drop_more}
use Rattle.std.proofs.lemmas.Grind.{flat_map-append}
use Rattle.std.proofs.lemmas.Nat.{pow-add}
use Rattle.std.proofs.Math.Nat.{div-div-eq-div-mul, mul_comm}
use Rattle.st_format.specs.Samples.{bits, number, pieces, values_in, Spells}
use Rattle.st_format.specs.declared.sampling.Depth.{Depth}
use Rattle.st_format.specs.declared.sampling.Depth.TheVariants.{D8, D10, D12, D16}
use Rattle.st_format.specs.Pgroup.{bits_of}
use Rattle.st_format.proofs.WholeOctets.{length-all_bits, Spells-values_in}
use Rattle.st_format.proofs.Spelled.{length-bits, number-bits, values_in-spelled}
use Rattle.pgroup_pack.proofs.Numbers.{bits-join, Spells-append}

-- a value alone
get_or-pieces : (n count : ℕ) (bs : List ℕ) (i : ℕ) → i < count
    → get_or (map number (pieces n count bs)) i 0 ≡ number (take n (drop (n * i) bs))
unfolding pieces
get_or-pieces n zero bs i lt = absurd (omega arith)
get_or-pieces n (suc count) bs zero lt = let e : n * 0 ≡ 0 = omega arith in rw e refl
get_or-pieces n (suc count) bs (suc i) lt =
    let e : n * suc i ≡ n + n * i = omega arith in
    rw (e, ← drop-drop (n * i) n bs) (get_or-pieces n count (drop n bs) i (omega arith))

drop-bits : (r m w : ℕ) → drop r (bits (r + m) w) ≡ bits m w
unfolding bits
drop-bits zero m w = let e : 0 + m ≡ m = omega arith in rw e refl
drop-bits (suc r) m w = let e : suc r + m ≡ suc (r + m) = omega arith in rw e (drop-bits r m w)

take-bits : (n m w : ℕ) → take n (bits (n + m) w) ≡ bits n (w / 2 ^ m)
unfolding bits
take-bits zero m w = refl
take-bits (suc n) m w =
    let e : suc n + m ≡ suc (n + m) = omega arith in
    let p : 2 ^ (n + m) ≡ 2 ^ m * 2 ^ n = pow-add 2 n m ∙ mul_comm (2 ^ n) (2 ^ m) in
    rw (e, p, take-bits n m w, div-div-eq-div-mul w (2 ^ m) (2 ^ n)) refl

-- the bits of octet k and all after it
from_octet : (k r : ℕ) (octets : List ℕ) → k ≤ length octets
    → drop (8 * k + r) (flat_map (bits 8) octets) ≡ drop r (flat_map (bits 8) (drop k octets))
from_octet k r octets le =
    let e : flat_map (bits 8) octets
    ≡ flat_map (bits 8) (take k octets) ++ flat_map (bits 8) (drop k octets)
    = ap (flat_map (bits 8)) (sym (take-append-drop k octets))
    ∙ flat_map-append (bits 8) (take k octets) (drop k octets) in
    let long : length (flat_map (bits 8) (take k octets)) ≡ 8 * k =
    length-all_bits 8 (take k octets) ∙ ap (λ (j : ℕ). 8 * j) (length-take-le k octets le) in
    sym (drop-drop r (8 * k) (flat_map (bits 8) octets))
    ∙ ap (λ (bs : List ℕ). drop r (drop (8 * k) bs)) e
    ∙ ap (drop r)
    (drop_at (flat_map (bits 8) (take k octets)) (flat_map (bits 8) (drop k octets))
    (8 * k) long)

-- n bits of two octets, after the first r
in_word : (n r s a b : ℕ) (bs : List ℕ) → r + (n + s) ≡ 16 → b < 256
    → take n (drop r (bits 8 a ++ (bits 8 b ++ bs))) ≡ bits n ((a * 256 + b) / 2 ^ s)
in_word n r s a b bs all small =
    let word : bits 8 a ++ (bits 8 b ++ bs) ≡ bits (r + (n + s)) (a * 256 + b) ++ bs
    = sym (append_assoc (bits 8 a) (bits 8 b) bs)
    ∙ ap (λ (cs : List ℕ). cs ++ bs)
    (sym (bits-join 8 8 a b small) ∙ ap (λ (k : ℕ). bits k (a * 256 + b)) (sym all)) in
    let long : length (bits (r + (n + s)) (a * 256 + b)) ≡ r + (n + s) =
    length-bits (r + (n + s)) (a * 256 + b) in
    let short : length (bits (n + s) (a * 256 + b)) ≡ n + s = length-bits (n + s) (a * 256 + b) in
    rw (
      word,
      drop-append-le r (bits (r + (n + s)) (a * 256 + b)) bs (omega arith),
      drop-bits r (n + s) (a * 256 + b),
      take-append-le n (bits (n + s) (a * 256 + b)) bs (omega arith),
      take-bits n s (a * 256 + b),
    ) refl

-- value i of n bits lies in octets k and k + 1, after r bits and before s
pub get_or-values_in : (n i k r s : ℕ) (octets : List ℕ) → n * i ≡ 8 * k + r → r + (n + s) ≡ 16
    → k + 1 < length octets → i < 8 * length octets / n
    → get_or octets (k + 1) 0 < 256
    → get_or (values_in n octets) i 0
    ≡ (get_or octets k 0 * 256 + get_or octets (k + 1) 0) / 2 ^ s % 2 ^ n
unfolding values_in
get_or-values_in n i k r s octets at all two lt small =
    let open_two : drop k octets
    ≡ get_or octets k 0 ∷ get_or octets (k + 1) 0 ∷ drop (k + 1 + 1) octets
    = drop_more octets k 0 (omega arith)
    ∙ ap (λ (os : List ℕ). get_or octets k 0 ∷ os) (drop_more octets (k + 1) 0 two) in
    get_or-pieces n (8 * length octets / n) (flat_map (bits 8) octets) i lt
    ∙ ap (λ (j : ℕ). number (take n (drop j (flat_map (bits 8) octets)))) at
    ∙ ap (λ (bs : List ℕ). number (take n bs))
    (from_octet k r octets (omega arith)
    ∙ ap (λ (os : List ℕ). drop r (flat_map (bits 8) os)) open_two)
    ∙ ap number
    (in_word n r s (get_or octets k 0) (get_or octets (k + 1) 0)
    (flat_map (bits 8) (drop (k + 1 + 1) octets)) all small)
    ∙ number-bits n ((get_or octets k 0 * 256 + get_or octets (k + 1) 0) / 2 ^ s)

pub bits_of_pos : (d : Depth) → 0 < bits_of d
bits_of_pos D8 = omega arith
bits_of_pos D10 = omega arith
bits_of_pos D12 = omega arith
bits_of_pos D16 = omega arith

-- what is spelt at a depth is what is read at it
pub spelled_values : (d : Depth) {octets vs : List ℕ} → Spells (bits_of d) octets vs
    → vs ≡ values_in (bits_of d) octets
spelled_values d {octets} {vs} spells =
    sym (values_in-spelled (bits_of d) octets vs (bits_of_pos d) spells)

-- how many values octets spell
length-pieces : (n count : ℕ) (bs : List ℕ) → length (map number (pieces n count bs)) ≡ count
unfolding pieces
length-pieces n zero bs = refl
length-pieces n (suc count) bs = ap suc (length-pieces n count (drop n bs))

pub length-values_in : (n : ℕ) (octets : List ℕ)
    → length (values_in n octets) ≡ 8 * length octets / n
unfolding values_in
length-values_in n octets = length-pieces n (8 * length octets / n) (flat_map (bits 8) octets)

-- octets of whole values, one after the other
pub values_in-append : (n k l : ℕ) (os ps : List ℕ) → 0 < n → 8 * length os ≡ n * k
    → 8 * length ps ≡ n * l
    → values_in n (os ++ ps) ≡ values_in n os ++ values_in n ps
values_in-append n k l os ps pos first second =
    values_in-spelled n (os ++ ps) (values_in n os ++ values_in n ps) pos
    (Spells-append n os ps (values_in n os) (values_in n ps) (Spells-values_in n os k pos first)
    (Spells-values_in n ps l pos second))
