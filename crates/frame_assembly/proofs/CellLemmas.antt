-- The cell of a number.
use Rattle.std.proofs.Common.{◌≡◌, ℕ, zero, suc, ◌+◌, ◌*◌, ◌/◌, ◌%◌, ◌<◌, List, [], ◌∷◌, ◌++◌}
use Rattle.std.proofs.Common.{length, get_or, take, drop, sym, ap, ◌∙◌, arith}
use Rattle.std.proofs.lemmas.List.{length-take-le, take-append-drop, get_or-append-add}
use Rattle.std.proofs.Math.ListN.{get_or-append}
use Rattle.std.proofs.Math.Nat.{div-add-mod, div-lt_iff_lt-mul, mod-lt, mul-suc, mul_comm}
use Rattle.st_format.specs.declared.cell.Cell.TheVariants.{Missing}
use Rattle.st_format.specs.Samples.{values_in}
use Rattle.frame_assembly.specs.Packed.{cells_from, marked, packed_cells}
use Rattle.frame_assembly.proofs.PackedLemmas.{AreSizes, both_values, first_long, length-cells_from}
use Rattle.frame_assembly.proofs.PackedLemmas.{one_long, rest_long}

pub get_or-cells_from : (m i : ℕ) (vs : List ℕ) (k : ℕ) → k < length vs
    → get_or (cells_from m i vs) k Missing ≡ marked m (i + k) (get_or vs k 0)
unfolding cells_from
get_or-cells_from m i [] k lt = absurd (omega arith)
get_or-cells_from m i (v ∷ vs) zero lt = let e : i + 0 ≡ i =
    omega arith in ap (λ (j : ℕ). marked m j v) (sym e)
get_or-cells_from m i (v ∷ vs) (suc k) lt =
    let e : i + 1 + k ≡ i + suc k = omega arith in
    get_or-cells_from m (i + 1) vs k (omega arith) ∙ ap (λ (j : ℕ). marked m j (get_or vs k 0)) e

-- sample i of group g
pub get_or-packed_cells : (n size samples g i : ℕ) (marks octets : List ℕ)
    → AreSizes n size samples → length octets ≡ size * length marks → g < length marks → i < samples
    → get_or (packed_cells n size marks octets) (samples * g + i) Missing
    ≡ marked (get_or marks g 0) i (get_or (values_in n octets) (samples * g + i) 0)
unfolding packed_cells
get_or-packed_cells n size samples g i [] octets is long lt inside = absurd (omega arith)
get_or-packed_cells n size samples zero i (m ∷ marks) octets is long lt inside =
    let e : samples * 0 + i ≡ i = omega arith in
    let first : length (take size octets) ≡ size =
    length-take-le size octets (first_long size (length marks) (length octets) long) in
    let one : size ≡ size * 1 = omega arith in
    let vs : List ℕ = values_in n (take size octets) in
    let ws : List ℕ = values_in n (drop size octets) in
    let vs_long : length vs ≡ samples = one_long n size samples (take size octets) is first in
    let within : i < length vs = omega arith in
    let cell_within : i < length (cells_from m 0 vs) = omega (arith, length-cells_from m 0 vs) in
    let zero_is : 0 + i ≡ i = omega arith in
    let values : get_or (values_in n octets) i 0 ≡ get_or vs i 0 =
    ap (λ (os : List ℕ). get_or (values_in n os) i 0) (sym (take-append-drop size octets))
    ∙ ap (λ (xs : List ℕ). get_or xs i 0)
    (both_values n size samples 1 (length marks) (take size octets) (drop size octets) is
    (first ∙ one) (rest_long size (length marks) octets long))
    ∙ get_or-append vs ws 0 i within in
    ap (λ (k : ℕ). get_or
    (cells_from m 0 vs ++ packed_cells n size marks (drop size octets)) k Missing) e
    ∙ get_or-append (cells_from m 0 vs)
    (packed_cells n size marks (drop size octets)) Missing i cell_within
    ∙ get_or-cells_from m 0 vs i within ∙ ap (λ (j : ℕ). marked m j (get_or vs i 0)) zero_is
    ∙ ap (marked m i) (sym values)
    ∙ ap (λ (k : ℕ). marked m i (get_or (values_in n octets) k 0)) (sym e)
get_or-packed_cells n size samples (suc g) i (m ∷ marks) octets is long lt inside =
    let first : length (take size octets) ≡ size =
    length-take-le size octets (first_long size (length marks) (length octets) long) in
    let one : size ≡ size * 1 = omega arith in
    let rest : length (drop size octets) ≡ size * length marks =
    rest_long size (length marks) octets long in
    let vs : List ℕ = values_in n (take size octets) in
    let ws : List ℕ = values_in n (drop size octets) in
    let k : ℕ = samples * g + i in
    let vs_long : length vs ≡ samples = one_long n size samples (take size octets) is first in
    let here_long : length (cells_from m 0 vs) ≡ samples = length-cells_from m 0 vs ∙ vs_long in
    let cells_at : samples * suc g + i ≡ length (cells_from m 0 vs) + k =
    omega (arith, mul-suc samples g) in
    let values_at : samples * suc g + i ≡ length vs + k = omega (arith, mul-suc samples g) in
    let values : get_or (values_in n octets) (samples * suc g + i) 0 ≡ get_or ws k 0 =
    ap (λ (os : List ℕ). get_or (values_in n os) (samples * suc g + i) 0)
    (sym (take-append-drop size octets))
    ∙ ap (λ (xs : List ℕ). get_or xs (samples * suc g + i) 0)
    (both_values n size samples 1 (length marks) (take size octets) (drop size octets) is
    (first ∙ one) rest)
    ∙ ap (λ (j : ℕ). get_or (vs ++ ws) j 0) values_at ∙ get_or-append-add vs ws k 0 in
    ap (λ (j : ℕ). get_or
    (cells_from m 0 vs ++ packed_cells n size marks (drop size octets)) j Missing) cells_at
    ∙ get_or-append-add (cells_from m 0 vs) (packed_cells n size marks (drop size octets)) k Missing
    ∙ get_or-packed_cells n size samples g i marks (drop size octets) is rest (omega arith) inside
    ∙ ap (marked (get_or marks g 0) i) (sym values)

pub group_below : (k samples many : ℕ) → 0 < samples → k < samples * many → k / samples < many
group_below k samples many pos lt =
    let lt_swapped : k < many * samples = omega (arith, mul_comm samples many) in
    (div-lt_iff_lt-mul {k = samples} {x = k} {y = many} pos).1 lt_swapped

-- the sample of a number
pub get_or-number : (n size samples k : ℕ) (marks octets : List ℕ) → AreSizes n size samples
    → length octets ≡ size * length marks → k < samples * length marks
    → get_or (packed_cells n size marks octets) k Missing
    ≡ marked (get_or marks (k / samples) 0) (k % samples) (get_or (values_in n octets) k 0)
get_or-number n size samples k marks octets is long lt =
    let e : samples * (k / samples) + k % samples ≡ k = div-add-mod k samples in
    let group : k / samples < length marks = group_below k samples (length marks) is.some lt in
    ap (λ (j : ℕ). get_or (packed_cells n size marks octets) j Missing) (sym e)
    ∙ get_or-packed_cells n size samples (k / samples) (k % samples) marks octets is long group
    (mod-lt k is.some)
    ∙ ap
    (λ (j : ℕ). marked (get_or marks (k / samples) 0) (k % samples)
    (get_or (values_in n octets) j 0)) e
