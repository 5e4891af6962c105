-- Runs of groups of one state, and single groups, in octets.
use Rattle.std.proofs.Common.{◌≡◌, ℕ, zero, suc, ◌+◌, ◌*◌, ◌/◌, ◌<◌, ◌≤◌, List, [], ◌∷◌, ◌++◌}
use Rattle.std.proofs.Common.{length, take, drop, map, get_or, replicate, Some}
use Rattle.std.proofs.Common.{drop-cons, refl, sym, ap, ◌∙◌, subst, arith}
use Rattle.std.proofs.lemmas.List.{drop_at, length-drop, length-map, length-take-le}
use Rattle.std.proofs.lemmas.List.{map-append, take-append-le}
use Rattle.std.proofs.Math.Nat.{mul-div_right}
use Rattle.std.proofs.Math.Seq.{take-add}
use Rattle.pgroup_pack.proofs.Values.{length-values_in, values_in-append}
use Rattle.st_format.specs.declared.cell.Cell.{Cell}
use Rattle.st_format.specs.declared.cell.Cell.TheVariants.{Value}
use Rattle.st_format.specs.Samples.{values_in}
use Rattle.media_file.specs.Groups.{IsShape, Shape, cells_by}
use Rattle.receiver_file.specs.Taking.{AreGroups}
use Rattle.receiver_file.proofs.KnownReads.{octet_is, whole_gives}
use Rattle.receiver_file.proofs.TakenGroups.{groups_alike, groups_both, groups_single}
use Rattle.st_format.proofs.Parsing.{gives_field}
use Rattle.media_file.specs.declared.fault.FileFault.TheVariants.{Truncated}

-- the cells of groups of which each sample has a value
abbrev pub valued_cells : Shape → List ℕ → List Cell
valued_cells s octets = map Value (values_in s.bits octets)

eights : (s : Shape) (n : ℕ) (octets : List ℕ) → IsShape s → length octets ≡ s.octets * n
    → 8 * length octets ≡ s.bits * (s.samples * n)
eights s n octets is long =
    let e : 8 * length octets ≡ (8 * s.octets) * n =
    ap (λ (k : ℕ). 8 * k) long
    ∙ (let z : 8 * (s.octets * n) ≡ (8 * s.octets) * n = omega arith in z) in
    let z : (s.bits * s.samples) * n ≡ s.bits * (s.samples * n) = omega arith in
    e ∙ ap (λ (k : ℕ). k * n) (sym is.octets) ∙ z

pub valued_long : (s : Shape) (n : ℕ) (octets : List ℕ) → IsShape s → length octets ≡ s.octets * n
    → length (valued_cells s octets) ≡ s.samples * n
valued_long s n octets is long =
    length-map (values_in s.bits octets) Value ∙ length-values_in s.bits octets
    ∙ ap (λ (k : ℕ). k / s.bits) (eights s n octets is long)
    ∙ mul-div_right (s.samples * n) is.some_bits

valued_append : (s : Shape) (a b : ℕ) (x y : List ℕ) → IsShape s → length x ≡ s.octets * a
    → length y ≡ s.octets * b → valued_cells s (x ++ y) ≡ valued_cells s x ++ valued_cells s y
valued_append s a b x y is p q =
    ap (map Value)
    (values_in-append s.bits (s.samples * a) (s.samples * b) x y is.some_bits
    (eights s a x is p) (eights s b y is q))
    ∙ map-append Value (values_in s.bits x) (values_in s.bits y)

-- one group of which each sample has a value
whole_single : (s : Shape) (octets : List ℕ) → IsShape s → length octets ≡ s.octets
    → AreGroups s 1 (1 ∷ octets) (valued_cells s octets)
whole_single s octets is long =
    let one : length octets ≡ s.octets * 1 = omega (arith, long) in
    let size : length (valued_cells s octets) ≡ s.samples =
    (let e = valued_long s 1 octets is one in omega (arith, e)) in
    groups_single s (1 ∷ octets) (valued_cells s octets) size
    (λ behind.
    whole_gives s (Some (1 ∷ (octets ++ behind))) (Some (octets ++ behind)) (Some behind) 1 octets
    refl (octet_is 1 (octets ++ behind))
    (gives_field Truncated s.octets (Some (octets ++ behind)) (Some behind) octets long refl))

-- a group more of which each sample has a value
whole_more : (s : Shape) (n : ℕ) (x p o : List ℕ) → IsShape s → length p ≡ s.octets * n
    → length o ≡ s.octets → AreGroups s n x (valued_cells s p)
    → AreGroups s (n + 1) (x ++ 1 ∷ o) (valued_cells s (p ++ o))
whole_more s n x p o is long size h =
    let one : length o ≡ s.octets * 1 = omega (arith, size) in
    let xs : List Cell = valued_cells s p in
    let ys : List Cell = valued_cells s o in
    let all : length xs ≡ s.samples * n = valued_long s n p is long in
    let fits : s.samples * n ≤ length xs = omega (arith, all) in
    subst (AreGroups s (n + 1) (x ++ 1 ∷ o)) (sym (valued_append s n 1 p o is long one))
    (groups_both s n 1 x (1 ∷ o) (xs ++ ys)
    (groups_alike s n x xs (xs ++ ys) (sym (take-append-le (s.samples * n) xs ys fits)) h)
    (subst (AreGroups s 1 (1 ∷ o)) (sym (drop_at xs ys (s.samples * n) all))
    (whole_single s o is size)))

-- the octets of a group more
take_group : (size at : ℕ) (octets : List ℕ) → at + (1 + size) ≤ length octets
    → get_or octets at 0 ≡ 1
    → take (at + (1 + size)) octets ≡ take at octets ++ 1 ∷ take size (drop (at + 1) octets)
take_group size at octets le state =
    let lt : at < length octets = omega (arith, le) in
    let same : suc at ≡ at + 1 = omega arith in
    let next : 1 + size ≡ suc size = omega arith in
    take-add at (1 + size) octets
    ∙ ap (λ (t : List ℕ). take at octets ++ t)
    (ap (λ (n : ℕ). take n (drop at octets)) next
    ∙ ap (take (suc size)) (drop-cons octets at 0 lt)
    ∙ ap (λ (n : ℕ). n ∷ take size (drop (suc at) octets)) state
    ∙ ap (λ (n : ℕ). 1 ∷ take size (drop n octets)) same)

pub whole_next : (s : Shape) (n at : ℕ) (octets p q : List ℕ) → IsShape s
    → length p ≡ s.octets * n → at + (1 + s.octets) ≤ length octets → get_or octets at 0 ≡ 1
    → q ≡ p ++ take s.octets (drop (at + 1) octets)
    → AreGroups s n (take at octets) (valued_cells s p)
    → AreGroups s (n + 1) (take (at + (1 + s.octets)) octets) (valued_cells s q)
whole_next s n at octets p q is long le state e h =
    let o : List ℕ = take s.octets (drop (at + 1) octets) in
    let size : length o ≡ s.octets =
    length-take-le s.octets (drop (at + 1) octets)
    (omega (arith, le, length-drop (at + 1) octets)) in
    subst (λ (t : List ℕ). AreGroups s (n + 1) t (valued_cells s q))
    (sym (take_group s.octets at octets le state))
    (subst (λ (t : List ℕ). AreGroups s (n + 1) (take at octets ++ 1 ∷ o) (valued_cells s t))
    (sym e) (whole_more s n (take at octets) p o is long size h))

-- ---- a group some of whose samples are contested

pub length-cells_by : (m : ℕ) (vs : List ℕ) → length (cells_by m vs) ≡ length vs
unfolding cells_by
length-cells_by m [] = refl
length-cells_by m (v ∷ vs) = ap suc (length-cells_by (m / 2) vs)

-- a missing group more
abbrev zeros : ℕ → List ℕ
zeros n = replicate n 0

zeros_snoc : (n : ℕ) → zeros n ++ zeros 1 ≡ zeros (suc n)
zeros_snoc zero = refl
zeros_snoc (suc n) = ap (λ (t : List ℕ). 0 ∷ t) (zeros_snoc n)

pub zeros_next : (n : ℕ) (octets : List ℕ) → n < length octets → get_or octets n 0 ≡ 0
    → take n octets ≡ replicate n 0 → take (n + 1) octets ≡ replicate (n + 1) 0
zeros_next n octets lt e h =
    let same : suc n ≡ n + 1 = omega arith in
    take-add n 1 octets
    ∙ ap (λ (t : List ℕ). take n octets ++ take 1 t) (drop-cons octets n 0 lt)
    ∙ ap (λ (t : List ℕ). t ++ get_or octets n 0 ∷ []) h
    ∙ ap (λ (x : ℕ). zeros n ++ x ∷ []) e ∙ zeros_snoc n
    ∙ ap (λ (k : ℕ). replicate k 0) same
