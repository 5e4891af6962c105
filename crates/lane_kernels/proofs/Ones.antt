-- The bits that are set in words under a mask.
use Rattle.std.proofs.Common.{◌≡◌, ℕ, zero, suc, ◌+◌, ◌*◌, ◌<◌, ◌≤◌, List, [], ◌∷◌, ◌++◌, length}
use Rattle.std.proofs.Common.{get_or, take, drop, map, replicate, bit_and, refl, ap, ◌∙◌, arith}
use Rattle.std.proofs.Common.{w16, Fits}
use Rattle.std.specs.Prelude.{count_ones}
use Rattle.std.proofs.Math.Seq.{take-add}
use Rattle.std.proofs.lemmas.Grind.{take_at_read}
use Rattle.std.proofs.lemmas.Nat.{and_le_r, ones_le_self, ones-le}
use Rattle.std.proofs.lemmas.Simd.{Each1-all, Each1-zip2, Each2-splat, fold-sum}
use lib.Lanes.{Each1, zip2, sum_l, fold_l}
use Rattle.lane_kernels.specs.Marks.{ones_under}

ones_fit : (xs : List ℕ) → Each1 (λ x. x < 65536) xs → Each1 (Fits w16) (map count_ones xs)
ones_fit [] h = tt
ones_fit (x ∷ xs) h = (record { fits = omega (arith, ones_le_self x, h.0) }, ones_fit xs h.1)

pub masked_ones_fit : (n m : ℕ) → m < 65536 → (xs : List ℕ)
    → Each1 (Fits w16) (map count_ones (zip2 bit_and xs (replicate n m)))
masked_ones_fit n m small xs =
    ones_fit (zip2 bit_and xs (replicate n m))
    (Each1-zip2 bit_and (λ x. x < 65536) xs (replicate n m)
    (Each2-splat (λ a b. bit_and a b < 65536) xs n m
    (Each1-all _ (λ a. omega (arith, and_le_r a m)) xs)))

pub sum_masked : (n m : ℕ) (v : List ℕ) → length v ≡ n
    → sum_l (map (λ x. x) (map count_ones (zip2 bit_and v (replicate n m)))) ≡ ones_under m v
sum_masked n m [] e = refl
sum_masked zero m (x ∷ v) e = absurd (omega arith)
sum_masked (suc n) m (x ∷ v) e =
    ap (λ s. count_ones (bit_and x m) + s) (sum_masked n m v (omega arith))

pub ones_word : (m : ℕ) → m < 65536 → (x : ℕ) → count_ones (bit_and x m) ≤ 16
ones_word m small x = ones-le 16 (bit_and x m) (omega (arith, and_le_r x m))

pub ones_under-le : (m : ℕ) → m < 65536 → (v : List ℕ) → ones_under m v ≤ 16 * length v
ones_under-le m small [] = omega arith
ones_under-le m small (x ∷ v) = omega (arith, ones_word m small x, ones_under-le m small v)

ones_under-append : (m : ℕ) (xs ys : List ℕ)
    → ones_under m (xs ++ ys) ≡ ones_under m xs + ones_under m ys
ones_under-append m [] ys = omega arith
ones_under-append m (x ∷ xs) ys = omega (arith, ones_under-append m xs ys)

-- the words before i, and n more
pub ones_under-more : (m i n : ℕ) (ws : List ℕ)
    → ones_under m (take (i + n) ws) ≡ ones_under m (take i ws) + ones_under m (take n (drop i ws))
ones_under-more m i n ws =
    ap (ones_under m) (take-add i n ws) ∙ ones_under-append m (take i ws) (take n (drop i ws))

pub ones_under-next : (m i : ℕ) (ws : List ℕ) → i < length ws
    → ones_under m (take (i + 1) ws)
    ≡ ones_under m (take i ws) + count_ones (bit_and (get_or ws i 0) m)
ones_under-next m i ws h = let r =
    take_at_read ws i 0 h in omega
    (arith, ap (ones_under m) r.1, ones_under-append m (take i ws) (get_or ws i 0 ∷ []))

pub fold_masked : (n m : ℕ) (v : List ℕ) → length v ≡ n
    → fold_l (λ s x. s + x) 0 (map (λ x. x) (map count_ones (zip2 bit_and v (replicate n m))))
    ≡ ones_under m v
fold_masked n m v e =
    let xs = map (λ x. x) (map count_ones (zip2 bit_and v (replicate n m))) in
    fold-sum 0 xs ∙ omega (arith, sum_masked n m v e)
