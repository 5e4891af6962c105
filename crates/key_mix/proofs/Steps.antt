-- What holds of the elements that a loop has written, a step of four at a time.
use Rattle.std.proofs.Common.{◌≢◌, ℕ, ◌+◌, ◌*◌, ◌<◌, List, get_or, length, sym, arith, subst}
use Rattle.std.proofs.Common.{below_more}
use Rattle.std.proofs.Math.ListN.{set}
use Rattle.std.proofs.lemmas.List.{get_or-set_other, get_or-set_same, length-set}

-- one more
one_more : (P : ℕ → ℕ → Type 0) (xs : List ℕ) (k v : ℕ) → k < length xs
    → ((j : ℕ) → j < k → P j (get_or xs j 0)) → P k v
    → (j : ℕ) → j < k + 1 → P j (get_or (set xs k v) j 0)
one_more P xs k v room done here =
    below_more (λ j. P j (get_or (set xs k v) j 0)) k
    (λ j h. let other : j ≢ k = omega arith in
    subst (P j) (sym (get_or-set_other xs k j v 0 other)) (done j h))
    (subst (P k) (sym (get_or-set_same xs k v 0 room)) here)

pub four_more : (P : ℕ → ℕ → Type 0) (xs : List ℕ) (q a b c d : ℕ) → 4 * q + 3 < length xs
    → ((j : ℕ) → j < 4 * q → P j (get_or xs j 0))
    → P (4 * q) a → P (4 * q + 1) b → P (4 * q + 2) c → P (4 * q + 3) d
    → (j : ℕ) → j < 4 * (q + 1)
    → P j
    (get_or (set (set (set (set xs (4 * q) a) (4 * q + 1) b) (4 * q + 2) c) (4 * q + 3) d) j 0)
four_more P xs q a b c d room done of_a of_b of_c of_d j h =
    let ys : List ℕ = set xs (4 * q) a in
    let zs : List ℕ = set ys (4 * q + 1) b in
    let ws : List ℕ = set zs (4 * q + 2) c in
    let of_ys = length-set xs (4 * q) a in
    let of_zs = length-set ys (4 * q + 1) b in
    let of_ws = length-set zs (4 * q + 2) c in
    let one = one_more P xs (4 * q) a (omega arith) done of_a in
    let two =
    one_more P ys (4 * q + 1) b (omega (arith, of_ys)) (λ i g. one i (omega arith)) of_b in
    let three =
    one_more P zs (4 * q + 2) c (omega (arith, of_ys, of_zs)) (λ i g. two i (omega arith)) of_c in
    one_more P ws (4 * q + 3) d (omega (arith, of_ys, of_zs, of_ws))
    (λ i g. three i (omega arith)) of_d j (omega arith)
