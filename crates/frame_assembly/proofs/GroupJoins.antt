-- Groups that are joined at once, and one group.
use Rattle.std.proofs.Common.{◌≡◌, ℕ, zero, suc, ◌+◌, ◌*◌, ◌/◌, ◌^◌, ◌<◌, ◌≤◌, max, Bool, true}
use Rattle.std.proofs.Common.{false, ◌==◌, if◌then◌else◌, List, [], ◌∷◌, ◌++◌, length, get_or, take}
use Rattle.std.proofs.Common.{drop, map, bit_and, bit_or, refl, sym, ap, ◌∙◌, subst, inl, inr}
use Rattle.std.proofs.Common.{arith}
use Rattle.std.specs.Int.{bit_at}
use Rattle.std.specs.List.{AllByRecursion}
use Rattle.std.proofs.lemmas.Bool.{eq-eqb, ne_eqb}
use Rattle.std.proofs.lemmas.List.{append-nil, take_at}
use Rattle.std.proofs.lemmas.Nat.Bits.{bit_at-lt, bit_at-zero, bit_at_or, shr_and_one}
use Rattle.st_format.specs.declared.cell.Cell.{Cell}
use Rattle.st_format.specs.declared.cell.Cell.TheVariants.{Missing, Value, Contested}
use Rattle.st_format.specs.Cell.{join, known_value}
use Rattle.st_format.specs.Raster.{joined_cells}
use Rattle.st_format.specs.Samples.{values_in}
use Rattle.pgroup_pack.specs.Groups.{blanked_samples, blanked_from, differs_at}
use Rattle.pgroup_pack.proofs.GroupLemmas.{past}
use Rattle.frame_assembly.specs.Packed.{IsMark, IsPacked, Joins, cells_from, marked}
use Rattle.frame_assembly.specs.Packed.{packed_cells}
use Rattle.frame_assembly.proofs.PackedLemmas.{AreSizes, length-packed_cells, one_long}

-- ---- groups that are the same

join_same : (c : Cell) → join c c ≡ c
join_same Missing = refl
join_same (Value v) = ap (λ (b : Bool). if b then Value v else Contested) (eq-eqb v v refl)
join_same Contested = refl

joined_same : (cs : List Cell) → joined_cells cs cs ≡ cs
joined_same [] = refl
joined_same (c ∷ cs) = rw (join_same c, joined_same cs) refl

pub same_joined : (n size samples : ℕ) (marks octets other_marks others : List ℕ)
    → IsPacked n size samples marks octets → marks ≡ other_marks → octets ≡ others
    → Joins n size samples marks octets other_marks others marks octets
same_joined n size samples marks octets other_marks others packed same_marks same_octets = record {
  packed = packed;
  long = refl;
  cells =
      sym (ap
      (λ (ms : List ℕ). joined_cells (packed_cells n size marks octets)
      (packed_cells n size ms others))
      (sym same_marks)
      ∙ ap
      (λ (os : List ℕ). joined_cells (packed_cells n size marks octets)
      (packed_cells n size marks os)) (sym same_octets)
      ∙ joined_same (packed_cells n size marks octets));
}

-- ---- groups that are missing

abbrev pub AreMissing : List Cell → Type 0
AreMissing cs = AllByRecursion (λ c. c ≡ Missing) cs

low_bit : (m : ℕ) → m < 32768 → bit_at m 15 ≡ 0
low_bit m lt = omega arith

high_bit : (m : ℕ) → 32768 ≤ m → m < 65536 → bit_at m 15 ≡ 1
high_bit m ge lt = omega arith

pub marked_missing : (m i v : ℕ) → bit_at m 15 ≡ 0 → marked m i v ≡ Missing
unfolding marked
marked_missing m i v e =
    ap (λ (b : ℕ). if b == 1 then (if bit_at m i == 1 then Contested else Value v) else Missing) e

pub cells_missing : (m i : ℕ) (vs : List ℕ) → bit_at m 15 ≡ 0 → AreMissing (cells_from m i vs)
unfolding cells_from
cells_missing m i [] e = tt
cells_missing m i (v ∷ vs) e = (marked_missing m i v e, cells_missing m (i + 1) vs e)

both_missing : (cs ds : List Cell) → AreMissing cs → AreMissing ds → AreMissing (cs ++ ds)
both_missing [] ds a b = b
both_missing (c ∷ cs) ds a b = (a.0, both_missing cs ds a.1 b)

pub packed_missing : (n size : ℕ) (marks octets : List ℕ)
    → ((k : ℕ) → k < length marks → get_or marks k 0 < 32768)
    → AreMissing (packed_cells n size marks octets)
unfolding packed_cells
packed_missing n size [] octets low = tt
packed_missing n size (m ∷ marks) octets low =
    let here : m < 32768 = low 0 (omega arith) in
    both_missing (cells_from m 0 (values_in n (take size octets)))
    (packed_cells n size marks (drop size octets))
    (cells_missing m 0 (values_in n (take size octets)) (low_bit m here))
    (packed_missing n size marks (drop size octets) (λ k lt. low (suc k) (omega arith)))

missing_joined : (cs ds : List Cell) → length cs ≡ length ds → AreMissing cs
    → joined_cells cs ds ≡ ds
missing_joined [] [] long are = refl
missing_joined [] (d ∷ ds) long are = absurd (omega arith)
missing_joined (c ∷ cs) [] long are = absurd (omega arith)
missing_joined (c ∷ cs) (d ∷ ds) long are =
    rw (are.0, missing_joined cs ds (omega arith) are.1) refl

join_missing : (c d : Cell) → d ≡ Missing → join c d ≡ c
join_missing Missing d e = e
join_missing (Value v) d e = ap (join (Value v)) e
join_missing Contested d e = refl

joined_missing : (cs ds : List Cell) → length cs ≡ length ds → AreMissing ds
    → joined_cells cs ds ≡ cs
joined_missing [] ds long are = refl
joined_missing (c ∷ cs) [] long are = absurd (omega arith)
joined_missing (c ∷ cs) (d ∷ ds) long are =
    rw (join_missing c d are.0, joined_missing cs ds (omega arith) are.1) refl

as_long : (n size samples : ℕ) (marks octets other_marks others : List ℕ) → AreSizes n size samples
    → IsPacked n size samples marks octets → IsPacked n size samples other_marks others
    → length other_marks ≡ length marks
    → length (packed_cells n size marks octets) ≡ length (packed_cells n size other_marks others)
as_long n size samples marks octets other_marks others is packed other alike =
    length-packed_cells n size samples marks octets is packed.long
    ∙ ap (λ (k : ℕ). samples * k) (sym alike)
    ∙ sym (length-packed_cells n size samples other_marks others is other.long)

-- what is joined to missing groups is a copy
pub copy_joined : (n size samples : ℕ)
    (marks octets other_marks others new_marks new_octets : List ℕ) → AreSizes n size samples
    → IsPacked n size samples marks octets → IsPacked n size samples other_marks others
    → length other_marks ≡ length marks
    → ((k : ℕ) → k < length marks → get_or marks k 0 < 32768) → new_marks ≡ other_marks
    → new_octets ≡ others
    → Joins n size samples marks octets other_marks others new_marks new_octets
copy_joined n size samples marks octets other_marks others new_marks new_octets is packed other
    alike low same_marks same_octets =
    rw (same_marks, same_octets) (record {
      packed = other;
      long = alike;
      cells =
          sym (missing_joined (packed_cells n size marks octets)
          (packed_cells n size other_marks others)
          (as_long n size samples marks octets other_marks others is packed other alike)
          (packed_missing n size marks octets low));
    })

-- and missing groups leave the others as they were
pub left_joined : (n size samples : ℕ) (marks octets other_marks others : List ℕ)
    → AreSizes n size samples
    → IsPacked n size samples marks octets → IsPacked n size samples other_marks others
    → length other_marks ≡ length marks
    → ((k : ℕ) → k < length other_marks → get_or other_marks k 0 < 32768)
    → Joins n size samples marks octets other_marks others marks octets
left_joined n size samples marks octets other_marks others is packed other alike low = record {
  packed = packed;
  long = refl;
  cells =
      sym (joined_missing (packed_cells n size marks octets)
      (packed_cells n size other_marks others)
      (as_long n size samples marks octets other_marks others is packed other alike)
      (packed_missing n size other_marks others low));
}

-- ---- one group with one that has values too

abbrev pub seen : ℕ → ℕ → Cell
seen b v = if b == 1 then Contested else Value v

pub marked_seen : (m i v : ℕ) → bit_at m 15 ≡ 1 → marked m i v ≡ seen (bit_at m i) v
unfolding marked
marked_seen m i v e = ap (λ (b : ℕ). if b == 1 then seen (bit_at m i) v else Missing) e

join_seen : (b b1 c v w : ℕ) (t : Bool) → b < 2 → b1 < 2 → (v == w) ≡ t
    → c ≡ max (max b b1) (if t then 0 else 1)
    → seen c (if c == 1 then 0 else v) ≡ join (seen b v) (seen b1 w)
join_seen zero zero c v w true lb lb1 e is = rw (is, e) refl
join_seen zero zero c v w false lb lb1 e is = rw (is, e) refl
join_seen zero (suc zero) c v w true lb lb1 e is = rw (is) refl
join_seen zero (suc zero) c v w false lb lb1 e is = rw (is) refl
join_seen (suc zero) zero c v w true lb lb1 e is = rw (is) refl
join_seen (suc zero) zero c v w false lb lb1 e is = rw (is) refl
join_seen (suc zero) (suc zero) c v w true lb lb1 e is = rw (is) refl
join_seen (suc zero) (suc zero) c v w false lb lb1 e is = rw (is) refl
join_seen (suc (suc b)) b1 c v w t lb lb1 e is = absurd (omega arith)
join_seen zero (suc (suc b1)) c v w t lb lb1 e is = absurd (omega arith)
join_seen (suc zero) (suc (suc b1)) c v w t lb lb1 e is = absurd (omega arith)

-- a mark word of both: the contested samples of each, and those that differ
pub record IsBoth (m o c : ℕ) (vs ws : List ℕ) (i : ℕ) : Type 0 where
  pub present : bit_at m 15 ≡ 1
  pub other : bit_at o 15 ≡ 1
  pub both : bit_at c 15 ≡ 1
  pub bits : (k : ℕ)
      → bit_at c (i + k) ≡ max (max (bit_at m (i + k)) (bit_at o (i + k))) (differs_at vs ws k)

cells_both : (m o c i : ℕ) (vs ws : List ℕ) → length vs ≡ length ws → IsBoth m o c vs ws i
    → cells_from c i (blanked_from c i vs) ≡ joined_cells (cells_from m i vs) (cells_from o i ws)
unfolding cells_from
cells_both m o c i [] [] long is = refl
cells_both m o c i [] (w ∷ ws) long is = absurd (omega arith)
cells_both m o c i (v ∷ vs) [] long is = absurd (omega arith)
cells_both m o c i (v ∷ vs) (w ∷ ws) long is =
    let zero_is : i + 0 ≡ i = omega arith in
    let here : bit_at c i ≡ max (max (bit_at m i) (bit_at o i)) (if v == w then 0 else 1) =
    subst (λ (j : ℕ). bit_at c j
    ≡ max (max (bit_at m j) (bit_at o j)) (if v == w then 0 else 1)) zero_is (is.bits 0) in
    let first : marked c i (if bit_at c i == 1 then 0 else v) ≡ join (marked m i v) (marked o i w) =
    marked_seen c i (if bit_at c i == 1 then 0 else v) is.both
    ∙ join_seen (bit_at m i) (bit_at o i) (bit_at c i) v w (v == w) (bit_at-lt m i)
    (bit_at-lt o i) refl here
    ∙ ap (λ (x : Cell). join x (seen (bit_at o i) w)) (sym (marked_seen m i v is.present))
    ∙ ap (join (marked m i v)) (sym (marked_seen o i w is.other)) in
    let rest = cells_both m o c (i + 1) vs ws (omega arith) (record {
      present = is.present;
      other = is.other;
      both = is.both;
      bits = λ k. let e : i + suc k ≡ i + 1 + k = omega arith in
          subst (λ (j : ℕ). bit_at c j
          ≡ max (max (bit_at m j) (bit_at o j)) (differs_at vs ws k)) e (is.bits (suc k));
    }) in
    rw (first, rest) refl

known_seen : (b v : ℕ) (t : Bool) → (b == 1) ≡ t
    → (if b == 1 then 0 else v) ≡ known_value (seen b (if b == 1 then 0 else v))
unfolding known_value
known_seen b v true e = rw e refl
known_seen b v false e = rw e refl

pub known_blanked : (c i : ℕ) (vs : List ℕ) → bit_at c 15 ≡ 1
    → blanked_from c i vs ≡ map known_value (cells_from c i (blanked_from c i vs))
unfolding cells_from
known_blanked c i [] both = refl
known_blanked c i (v ∷ vs) both =
    let x : ℕ = if bit_at c i == 1 then 0 else v in
    let here : x ≡ known_value (marked c i x) =
    known_seen (bit_at c i) v (bit_at c i == 1) refl
    ∙ ap known_value (sym (marked_seen c i x both)) in
    ap (λ (y : ℕ). y ∷ blanked_from c (i + 1) vs) here
    ∙ ap (λ (ys : List ℕ). known_value (marked c i x) ∷ ys) (known_blanked c (i + 1) vs both)

-- one group's cells
pub one_cells : (n size m : ℕ) (octets : List ℕ) → length octets ≡ size
    → packed_cells n size (m ∷ []) octets ≡ cells_from m 0 (values_in n octets)
unfolding packed_cells
one_cells n size m octets long =
    let e : take size octets ≡ octets =
    ap (take size) (sym (append-nil octets)) ∙ take_at octets [] size long in
    append-nil (cells_from m 0 (values_in n (take size octets)))
    ∙ ap (λ (os : List ℕ). cells_from m 0 (values_in n os)) e

same_past : (vs ws : List ℕ) (k : ℕ) → length vs ≤ k → length ws ≤ k → differs_at vs ws k ≡ 0
same_past vs ws k le le1 =
    ap (λ (b : Bool). if b then 0 else 1)
    (eq-eqb (get_or vs k 0) (get_or ws k 0) (past vs k le ∙ sym (past ws k le1)))

high_of_both : (b b1 d : ℕ) → b ≡ 1 → b1 ≡ 1 → d ≡ 0 → max (max b b1) d ≡ 1
high_of_both b b1 d e e1 ed = rw (e, e1, ed) refl

low_of_both : (b b1 d : ℕ) → b ≡ 0 → b1 ≡ 0 → d ≡ 0 → max (max b b1) d ≡ 0
low_of_both b b1 d e e1 ed = rw (e, e1, ed) refl

-- no bit beyond the samples
beyond : (samples m i : ℕ) → IsMark samples m → samples ≤ i → i < 15 → bit_at m i ≡ 0
unfolding IsMark
beyond samples m i (inl e) le lt = ap (λ (x : ℕ). bit_at x i) e ∙ bit_at-zero i
beyond samples m i (inr h) le lt = h.1 i le lt

both_mark : (samples m o c : ℕ) (d : ℕ → ℕ) → IsMark samples m → IsMark samples o → bit_at c 15 ≡ 1
    → ((i : ℕ) → bit_at c i ≡ max (max (bit_at m i) (bit_at o i)) (d i))
    → ((i : ℕ) → samples ≤ i → d i ≡ 0) → IsMark samples c
unfolding IsMark
both_mark samples m o c d is other both bits none =
    inr (
      both,
      λ i le lt. bits i
          ∙ low_of_both (bit_at m i) (bit_at o i) (d i) (beyond samples m i is le lt)
          (beyond samples o i other le lt) (none i le),
    )

-- a word of a group that isn't missing has bit 15
present_bit : (samples m : ℕ) → IsMark samples m → 32768 ≤ m → bit_at m 15 ≡ 1
unfolding IsMark
present_bit samples m (inl e) high = absurd (omega arith)
present_bit samples m (inr h) high = h.0

pub group_contested : (n size samples m o c : ℕ) (octets others new_octets : List ℕ)
    → AreSizes n size samples
    → IsPacked n size samples (m ∷ []) octets → IsPacked n size samples (o ∷ []) others → 32768 ≤ m
    → 32768 ≤ o
    → ((i : ℕ)
    → bit_at c i
    ≡ max (max (bit_at m i) (bit_at o i)) (differs_at (values_in n octets) (values_in n others) i))
    → length new_octets ≡ length octets → values_in n new_octets
    ≡ blanked_samples c (values_in n octets)
    → Joins n size samples (m ∷ []) octets (o ∷ []) others (c ∷ []) new_octets
group_contested n size samples m o c octets others new_octets is packed other high_m high_o bits
    long blank =
    let vs : List ℕ = values_in n octets in
    let ws : List ℕ = values_in n others in
    let size_one : size * 1 ≡ size = omega arith in
    let octets_long : length octets ≡ size = packed.long ∙ size_one in
    let others_long : length others ≡ size = other.long ∙ size_one in
    let new_long : length new_octets ≡ size = long ∙ octets_long in
    let vs_long : length vs ≡ samples = one_long n size samples octets is octets_long in
    let ws_long : length ws ≡ samples = one_long n size samples others is others_long in
    let present : bit_at m 15 ≡ 1 = present_bit samples m packed.words.0 high_m in
    let present_other : bit_at o 15 ≡ 1 = present_bit samples o other.words.0 high_o in
    let few = is.few in
    let both : bit_at c 15 ≡ 1 =
    bits 15
    ∙ high_of_both (bit_at m 15) (bit_at o 15) (differs_at vs ws 15) present present_other
    (same_past vs ws 15 (omega arith) (omega arith)) in
    let are : IsBoth m o c vs ws 0 =
    record {
      present = present;
      other = present_other;
      both = both;
      bits =
          λ k. let e : 0 + k ≡ k =
          omega arith in subst
          (λ (j : ℕ). bit_at c j ≡ max (max (bit_at m j) (bit_at o j)) (differs_at vs ws k)) (sym e)
          (bits k);
    } in
    let cells : packed_cells n size (c ∷ []) new_octets ≡ cells_from c 0 (blanked_samples c vs) =
    one_cells n size c new_octets new_long ∙ ap (cells_from c 0) blank in
    record {
      packed = record {
        long = new_long ∙ sym size_one;
        words = (
          both_mark samples m o c (differs_at vs ws) packed.words.0 other.words.0 both bits
              (λ i le. same_past vs ws i (omega arith) (omega arith)),
          tt,
        );
        known = blank ∙ known_blanked c 0 vs both ∙ ap (map known_value) (sym cells);
      };
      long = refl;
      cells = cells ∙ cells_both m o c 0 vs ws (vs_long ∙ sym ws_long) are
          ∙ ap (λ (cs : List Cell). joined_cells cs (cells_from o 0 ws))
          (sym (one_cells n size m octets octets_long))
          ∙ ap (joined_cells (packed_cells n size (m ∷ []) octets))
          (sym (one_cells n size o others others_long));
    }

pub group_joined : (n size samples m o d : ℕ) (octets others new_octets : List ℕ)
    → AreSizes n size samples
    → IsPacked n size samples (m ∷ []) octets → IsPacked n size samples (o ∷ []) others → 32768 ≤ m
    → 32768 ≤ o
    → ((i : ℕ) → bit_at d i ≡ differs_at (values_in n octets) (values_in n others) i)
    → length new_octets ≡ length octets
    → values_in n new_octets ≡ blanked_samples (bit_or (bit_or m o) d) (values_in n octets)
    → Joins n size samples (m ∷ []) octets (o ∷ []) others (bit_or (bit_or m o) d ∷ []) new_octets
group_joined n size samples m o d octets others new_octets is packed other high_m high_o differ
    long blank =
    group_contested n size samples m o
    (bit_or (bit_or m o) d) octets others new_octets is packed other high_m high_o
    (λ i. bit_at_or (bit_or m o) d i ∙ ap (λ (x : ℕ). max x (bit_at d i)) (bit_at_or m o i)
    ∙ ap (max (max (bit_at m i) (bit_at o i))) (differ i)) long blank

pub only : (m : ℕ) → m < 32768 → (k : ℕ) → k < length (m ∷ []) → get_or (m ∷ []) k 0 < 32768
only m lt zero below = lt
only m lt (suc k) below = absurd (omega arith)

-- ---- the cell of one sample, as the code reads it

pub marked_absent : (m i v : ℕ) → m < 32768 → Missing ≡ marked m i v
marked_absent m i v lt = sym (marked_missing m i v (low_bit m lt))

pub marked_contested : (m i v : ℕ) → 32768 ≤ m → m < 65536 → bit_and (m / 2 ^ i) 1 ≡ 1
    → Contested ≡ marked m i v
marked_contested m i v ge lt e =
    let bit : bit_at m i ≡ 1 = sym (shr_and_one m i) ∙ e in
    sym (marked_seen m i v (high_bit m ge lt) ∙ ap (λ (b : ℕ). seen b v) bit)

pub marked_value : (m i v : ℕ) → 32768 ≤ m → m < 65536 → (bit_and (m / 2 ^ i) 1 ≡ 1 → ⊥)
    → Value v ≡ marked m i v
marked_value m i v ge lt ne =
    let bit : bit_at m i ≡ 1 → ⊥ = λ e. ne (shr_and_one m i ∙ e) in
    sym (marked_seen m i v (high_bit m ge lt)
    ∙ ap (λ (b : Bool). if b then Contested else Value v) (ne_eqb (bit_at m i) 1 bit))
