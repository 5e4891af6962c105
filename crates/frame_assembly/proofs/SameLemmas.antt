-- One list of marks and octets for each list of cells.
use Rattle.std.proofs.Common.{◌≡◌, ℕ, zero, suc, ◌+◌, ◌*◌, ◌<◌, Bool, true, false, ◌==◌}
use Rattle.std.proofs.Common.{if◌then◌else◌, List, [], ◌∷◌, length, get_or, take, drop, map, refl}
use Rattle.std.proofs.Common.{sym, ap, ◌∙◌, subst, inl, inr, arith}
use Rattle.std.specs.Int.{bit_at}
use Rattle.std.specs.List.{AllByRecursion}
use Rattle.std.proofs.lemmas.Bool.{cases_eq, cases_lt}
use Rattle.std.proofs.lemmas.List.{length-take-le}
use Rattle.std.proofs.lemmas.Nat.Bits.{bit_at-lt, bit_at-zero, same_from_bits_below}
use Rattle.st_format.specs.declared.cell.Cell.{Cell}
use Rattle.st_format.specs.declared.cell.Cell.TheVariants.{Missing, Value, Contested}
use Rattle.st_format.specs.Samples.{Spells, values_in}
use Rattle.st_format.proofs.WholeOctets.{Spells-values_in, one_spelling}
use Rattle.frame_assembly.specs.Packed.{IsMark, IsPacked, cells_from, marked}
use Rattle.st_format.specs.Cell.{known_value}
use Rattle.frame_assembly.specs.Packed.{packed_cells}
use Rattle.frame_assembly.proofs.PackedLemmas.{AreSizes, first_long, first_part, groups_agree}
use Rattle.frame_assembly.proofs.PackedLemmas.{length-cells_from, one_long, rest_long, second_part}
use Rattle.frame_assembly.proofs.CellLemmas.{get_or-cells_from}
use Rattle.frame_assembly.proofs.GroupJoins.{marked_missing, marked_seen, seen}

pub all_below : (bound : ℕ) (xs : List ℕ) → ((i : ℕ) → get_or xs i 0 < bound)
    → AllByRecursion (λ x. x < bound) xs
all_below bound [] each = tt
all_below bound (x ∷ xs) each = (each 0, all_below bound xs (λ i. each (suc i)))

-- ---- the octets

pub same_octets_from : (n size samples : ℕ) (marks octets other_marks others : List ℕ)
    → AreSizes n size samples → IsPacked n size samples marks octets
    → IsPacked n size samples other_marks others
    → AllByRecursion (λ x. x < 256) octets → AllByRecursion (λ x. x < 256) others
    → packed_cells n size marks octets ≡ packed_cells n size other_marks others → octets ≡ others
same_octets_from n size samples marks octets other_marks others is packed other small other_small
    same =
    let spells : Spells n octets (values_in n octets) =
    Spells-values_in n octets (samples * length marks) is.bits
    (ap (λ (x : ℕ). 8 * x) packed.long ∙ groups_agree n size samples (length marks) is) in
    let other_spells : Spells n others (values_in n others) =
    Spells-values_in n others (samples * length other_marks) is.bits
    (ap (λ (x : ℕ). 8 * x) other.long ∙ groups_agree n size samples (length other_marks) is) in
    let values : values_in n octets ≡ values_in n others =
    packed.known ∙ ap (map known_value) same ∙ sym other.known in
    one_spelling n octets others (values_in n octets) small other_small spells
    (subst (Spells n others) (sym values) other_spells)

-- ---- the marks

seen_is : (v : ℕ) (t : Bool) → (if t then Contested else Value v) ≡ Missing → ⊥
seen_is v true e = cc
seen_is v false e = cc

seen_bits : (b c v w : ℕ) → b < 2 → c < 2 → seen b v ≡ seen c w → b ≡ c
seen_bits zero zero v w lb lc e = refl
seen_bits zero (suc zero) v w lb lc e = let f : Value v ≡ Contested = e in cc
seen_bits (suc zero) zero v w lb lc e = let f : Contested ≡ Value w = e in cc
seen_bits (suc zero) (suc zero) v w lb lc e = refl
seen_bits (suc (suc b)) c v w lb lc e = absurd (omega arith)
seen_bits zero (suc (suc c)) v w lb lc e = absurd (omega arith)
seen_bits (suc zero) (suc (suc c)) v w lb lc e = absurd (omega arith)

absent_bit : (m : ℕ) → m ≡ 0 → bit_at m 15 ≡ 0
absent_bit m e = ap (λ (x : ℕ). bit_at x 15) e ∙ bit_at-zero 15

mark_same : (samples m o : ℕ) (vs ws : List ℕ) → 0 < samples → IsMark samples m → IsMark samples o
    → m < 65536 → o < 65536
    → ((i : ℕ) → i < samples → marked m i (get_or vs i 0) ≡ marked o i (get_or ws i 0)) → m ≡ o
unfolding IsMark
mark_same samples m o vs ws some (inl e) (inl f) lm lo same = e ∙ sym f
mark_same samples m o vs ws some (inl e) (inr h) lm lo same =
    absurd (seen_is (get_or ws 0 0) (bit_at o 0 == 1)
    (sym (marked_seen o 0 (get_or ws 0 0) h.0) ∙ sym (same 0 some)
    ∙ marked_missing m 0 (get_or vs 0 0) (absent_bit m e)))
mark_same samples m o vs ws some (inr h) (inl f) lm lo same =
    absurd (seen_is (get_or vs 0 0) (bit_at m 0 == 1)
    (sym (marked_seen m 0 (get_or vs 0 0) h.0) ∙ same 0 some
    ∙ marked_missing o 0 (get_or ws 0 0) (absent_bit o f)))
mark_same samples m o vs ws some (inr h) (inr k) lm lo same =
    same_from_bits_below 16 m o lm lo (λ i lt. elim (cases_lt i samples) [
      | inl inside ↦ seen_bits (bit_at m i) (bit_at o i) (get_or vs i 0) (get_or ws i 0)
          (bit_at-lt m i) (bit_at-lt o i)
          (sym (marked_seen m i (get_or vs i 0) h.0) ∙ same i inside
          ∙ marked_seen o i (get_or ws i 0) k.0)
      | inr beyond ↦ elim (cases_eq i 15) [
        | inl e ↦ ap (bit_at m) e ∙ h.0 ∙ sym k.0 ∙ ap (bit_at o) (sym e)
        | inr ne ↦ h.1 i beyond (omega arith) ∙ sym (k.1 i beyond (omega arith))
      ]
    ])

pub same_marks_from : (n size samples : ℕ) (marks octets other_marks others : List ℕ)
    → AreSizes n size samples → length octets ≡ size * length marks
    → length others ≡ size * length other_marks
    → AllByRecursion (IsMark samples) marks → AllByRecursion (IsMark samples) other_marks
    → AllByRecursion (λ x. x < 65536) marks → AllByRecursion (λ x. x < 65536) other_marks
    → length marks ≡ length other_marks
    → packed_cells n size marks octets ≡ packed_cells n size other_marks others
    → marks ≡ other_marks
unfolding packed_cells
same_marks_from n size samples [] octets [] others is long other_long words other_words small
    other_small alike same = refl
same_marks_from n size samples [] octets
    (o ∷ other_marks) others is long other_long words other_words small other_small alike same =
    absurd (omega arith)
same_marks_from n size samples
    (m ∷ marks) octets [] others is long other_long words other_words small other_small alike
    same = absurd (omega arith)
same_marks_from n size samples (m ∷ marks) octets
    (o ∷ other_marks) others is long other_long words other_words small other_small alike same =
    let vs : List ℕ = values_in n (take size octets) in
    let ws : List ℕ = values_in n (take size others) in
    let vs_long : length vs ≡ samples =
    one_long n size samples (take size octets) is
    (length-take-le size octets (first_long size (length marks) (length octets) long)) in
    let ws_long : length ws ≡ samples =
    one_long n size samples (take size others) is
    (length-take-le size others
    (first_long size (length other_marks) (length others) other_long)) in
    let cs : List Cell = cells_from m 0 vs in
    let ds : List Cell = cells_from o 0 ws in
    let as_long : length cs ≡ length ds =
    length-cells_from m 0 vs ∙ vs_long ∙ sym (length-cells_from o 0 ws ∙ ws_long) in
    let firsts : cs ≡ ds =
    first_part cs (packed_cells n size marks (drop size octets)) ds
    (packed_cells n size other_marks (drop size others)) as_long same in
    let rests =
    second_part cs (packed_cells n size marks (drop size octets)) ds
    (packed_cells n size other_marks (drop size others)) as_long same in
    let first : m ≡ o =
    mark_same samples m o vs ws is.some words.0 other_words.0 small.0 other_small.0 (λ i lt.
    let zero_is : 0 + i ≡ i = omega arith in
    ap (λ (j : ℕ). marked m j (get_or vs i 0)) (sym zero_is)
    ∙ sym (get_or-cells_from m 0 vs i (omega arith))
    ∙ ap (λ (xs : List Cell). get_or xs i Missing) firsts
    ∙ get_or-cells_from o 0 ws i (omega arith)
    ∙ ap (λ (j : ℕ). marked o j (get_or ws i 0)) zero_is) in
    let rest : marks ≡ other_marks =
    same_marks_from n size samples marks (drop size octets) other_marks (drop size others) is
    (rest_long size (length marks) octets long)
    (rest_long size (length other_marks) others other_long)
    words.1 other_words.1 small.1 other_small.1 (omega arith) rests in
    ap (λ (x : ℕ). x ∷ marks) first ∙ ap (λ (xs : List ℕ). o ∷ xs) rest
