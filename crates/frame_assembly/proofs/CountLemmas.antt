-- How many cells of groups are of each kind, by the bits of the mark words.
use Rattle.std.proofs.Common.{◌≡◌, ℕ, zero, suc, ◌+◌, ◌-◌, ◌*◌, ◌/◌, ◌%◌, ◌^◌, ◌<◌, ◌≤◌, Bool, true}
use Rattle.std.proofs.Common.{false, cond, ◌==◌, List, [], ◌∷◌, ◌++◌, length, take, drop, map}
use Rattle.std.proofs.Common.{count_by, bit_and, refl, sym, ap, ◌∙◌, subst, inl, inr, arith}
use Rattle.std.specs.Prelude.{count_ones}
use Rattle.std.specs.Int.{bit_at}
use Rattle.std.specs.List.{AllByRecursion}
use Rattle.std.proofs.Math.Nat.{div-div-eq-div-mul, mod-one, mul-add, mul-suc, pow-suc, zero-mod}
use Rattle.std.proofs.lemmas.List.{length-take-le}
use Rattle.std.proofs.lemmas.List.Sums.{sum_by-append, sum_by-cons}
use Rattle.std.proofs.lemmas.Nat.{and_mask, mod-pow-add}
use Rattle.std.proofs.lemmas.Nat.Bits.{and_pow, bit_at-lt}
use Rattle.std.proofs.lemmas.Simd.{ones-mask_l}
use lib.Lanes.{mask_l}
use Rattle.lane_kernels.specs.Marks.{ones_under}
use Rattle.st_format.specs.declared.cell.Cell.{Cell}
use Rattle.st_format.specs.declared.cell.Cell.TheVariants.{Missing, Value, Contested}
use Rattle.st_format.specs.Cell.{is_contested, is_missing, is_present}
use Rattle.st_format.specs.Samples.{values_in}
use Rattle.frame_assembly.specs.Packed.{IsMark, IsPacked, cells_from, marked, packed_cells}
use Rattle.frame_assembly.proofs.PackedLemmas.{AreSizes, first_long, length-cells_from}
use Rattle.frame_assembly.proofs.PackedLemmas.{length-packed_cells, one_long, rest_long}
use Rattle.frame_assembly.proofs.GroupCells.{contested_seen, missing_seen}
use Rattle.frame_assembly.proofs.GroupJoins.{AreMissing, cells_missing, marked_seen}

count_cons : (p : Cell → Bool) (c : Cell) (cs : List Cell)
    → count_by p (c ∷ cs) ≡ cond (p c) 1 0 + count_by p cs
count_cons p c cs = sum_by-cons (λ x. cond (p x) 1 0) c cs

count_both : (p : Cell → Bool) (xs ys : List Cell)
    → count_by p (xs ++ ys) ≡ count_by p xs + count_by p ys
count_both p xs ys = sum_by-append (λ x. cond (p x) 1 0) xs ys

-- a cell is of one kind
one_kind : (c : Cell)
    → cond (is_present c) 1 0 + cond (is_missing c) 1 0 + cond (is_contested c) 1 0 ≡ 1
one_kind Missing = refl
one_kind (Value v) = refl
one_kind Contested = refl

pub all_kinds : (cs : List Cell)
    → count_by is_present cs + count_by is_missing cs + count_by is_contested cs ≡ length cs
all_kinds [] = refl
all_kinds (c ∷ cs) =
    omega (
      arith,
      count_cons is_present c cs,
      count_cons is_missing c cs,
      count_cons is_contested c cs,
      one_kind c,
      all_kinds cs,
    )

-- ---- the contested samples of a group

bit_number : (b : ℕ) → b < 2 → cond (b == 1) 1 0 ≡ b
bit_number zero lt = refl
bit_number (suc zero) lt = refl
bit_number (suc (suc b)) lt = absurd (omega arith)

-- one bit more, at the low end
lower_bit : (m i l : ℕ)
    → cond (bit_at m i == 1) 1 0 + 2 * (m / 2 ^ (i + 1) % 2 ^ l) ≡ m / 2 ^ i % 2 ^ (suc l)
lower_bit m i l =
    let half : m / 2 ^ (i + 1) ≡ m / 2 ^ i / 2 =
    ap (λ (k : ℕ). m / k)
    ((let e : i + 1 ≡ suc i = omega arith in ap (λ (k : ℕ). 2 ^ k) e) ∙ pow-suc 2 i)
    ∙ sym (div-div-eq-div-mul m (2 ^ i) 2) in
    let split : m / 2 ^ i % 2 ^ (l + 1) ≡ (m / 2 ^ i / 2 % 2 ^ l) * 2 + m / 2 ^ i % 2 =
    mod-pow-add (m / 2 ^ i) l 1 in
    let next : m / 2 ^ i % 2 ^ (l + 1) ≡ m / 2 ^ i % 2 ^ (suc l) =
    (let e : l + 1 ≡ suc l = omega arith in ap (λ (k : ℕ). m / 2 ^ i % 2 ^ k) e) in
    omega (
      arith,
      bit_number (bit_at m i) (bit_at-lt m i),
      ap (λ (k : ℕ). k % 2 ^ l) half,
      split,
      next,
    )

contested_bits : (m i : ℕ) (vs : List ℕ) → bit_at m 15 ≡ 1
    → mask_l (map is_contested (cells_from m i vs)) ≡ m / 2 ^ i % 2 ^ length vs
unfolding cells_from
contested_bits m i [] seen = sym (mod-one (m / 2 ^ i))
contested_bits m i (v ∷ vs) seen =
    ap (λ (b : Bool). cond b 1 0 + 2 * mask_l (map is_contested (cells_from m (i + 1) vs)))
    (ap is_contested (marked_seen m i v seen) ∙ contested_seen v (bit_at m i == 1))
    ∙ ap (λ (k : ℕ). cond (bit_at m i == 1) 1 0 + 2 * k) (contested_bits m (i + 1) vs seen)
    ∙ lower_bit m i (length vs)

none_contested : (cs : List Cell) → AreMissing cs → count_by is_contested cs ≡ 0
none_contested [] are = refl
none_contested (c ∷ cs) are =
    omega (
      arith,
      count_cons is_contested c cs,
      ap {B = ℕ} (λ (x : Cell). cond (is_contested x) 1 0) are.0,
      none_contested cs are.1,
    )

group_contested : (samples m : ℕ) (vs : List ℕ) → length vs ≡ samples → IsMark samples m
    → count_by is_contested (cells_from m 0 vs) ≡ count_ones (bit_and m (2 ^ samples - 1))
unfolding IsMark
group_contested samples m vs long (inl e) =
    none_contested (cells_from m 0 vs) (cells_missing m 0 vs (ap (λ (k : ℕ). bit_at k 15) e))
    ∙ sym
    (ap (λ (k : ℕ). count_ones (bit_and k (2 ^ samples - 1))) e
    ∙ ap count_ones (and_mask 0 samples ∙ zero-mod (2 ^ samples))
    ∙ ones-mask_l (λ (b : Bool). b) [])
group_contested samples m vs long (inr h) =
    let whole : m / 2 ^ 0 ≡ m = omega arith in
    sym (ones-mask_l is_contested (cells_from m 0 vs))
    ∙ ap count_ones
    (contested_bits m 0 vs h.0 ∙ ap (λ (k : ℕ). k % 2 ^ length vs) whole
    ∙ ap (λ (k : ℕ). m % 2 ^ k) long ∙ sym (and_mask m samples))

-- ---- the missing samples of a group

all_missing : (cs : List Cell) → AreMissing cs → count_by is_missing cs ≡ length cs
all_missing [] are = refl
all_missing (c ∷ cs) are =
    omega (
      arith,
      count_cons is_missing c cs,
      ap {B = ℕ} (λ (x : Cell). cond (is_missing x) 1 0) are.0,
      all_missing cs are.1,
    )

none_missing : (m i : ℕ) (vs : List ℕ) → bit_at m 15 ≡ 1
    → count_by is_missing (cells_from m i vs) ≡ 0
unfolding cells_from
none_missing m i [] seen = refl
none_missing m i (v ∷ vs) seen =
    count_cons is_missing (marked m i v) (cells_from m (i + 1) vs)
    ∙ ap (λ (b : Bool). cond b 1 0 + count_by is_missing (cells_from m (i + 1) vs))
    (ap is_missing (marked_seen m i v seen) ∙ missing_seen v (bit_at m i == 1))
    ∙ omega (arith, none_missing m (i + 1) vs seen)

-- bit 15 as a word
high_word : (b : ℕ) → b < 2 → count_ones (b * 2 ^ 15) ≡ b
high_word zero lt = ones-mask_l (λ (b : Bool). b) []
high_word (suc zero) lt =
    ones-mask_l (λ (b : Bool). b)
    (false ∷ false ∷ false ∷ false ∷ false ∷ false ∷ false ∷ false ∷ false ∷ false ∷ false
    ∷ false ∷ false ∷ false ∷ false ∷ true ∷ [])
high_word (suc (suc b)) lt = absurd (omega arith)

pub one_seen : (m : ℕ) → count_ones (bit_and m 32768) ≡ bit_at m 15
one_seen m = ap count_ones (and_pow m 15) ∙ high_word (bit_at m 15) (bit_at-lt m 15)

group_missing : (samples m : ℕ) (vs : List ℕ) → length vs ≡ samples → IsMark samples m
    → count_by is_missing (cells_from m 0 vs) + samples * count_ones (bit_and m 32768) ≡ samples
unfolding IsMark
group_missing samples m vs long (inl e) =
    let clear : bit_at m 15 ≡ 0 = ap (λ (k : ℕ). bit_at k 15) e in
    let none : samples * count_ones (bit_and m 32768) ≡ samples * 0 =
    ap (λ (k : ℕ). samples * k) (one_seen m ∙ clear) in
    omega (
      arith,
      none,
      all_missing (cells_from m 0 vs) (cells_missing m 0 vs clear),
      length-cells_from m 0 vs,
    )
group_missing samples m vs long (inr h) =
    let all : samples * count_ones (bit_and m 32768) ≡ samples * 1 =
    ap (λ (k : ℕ). samples * k) (one_seen m ∙ h.0) in
    omega (arith, all, none_missing m 0 vs h.0)

-- ---- all groups

pub counted_contested : (n size samples : ℕ) (marks octets : List ℕ) → AreSizes n size samples
    → length octets ≡ size * length marks → AllByRecursion (IsMark samples) marks
    → count_by is_contested (packed_cells n size marks octets) ≡ ones_under (2 ^ samples - 1) marks
unfolding packed_cells
counted_contested n size samples [] octets is long words = refl
counted_contested n size samples (m ∷ marks) octets is long words =
    let first : length (take size octets) ≡ size =
    length-take-le size octets (first_long size (length marks) (length octets) long) in
    let vs : List ℕ = values_in n (take size octets) in
    omega (
      arith,
      count_both is_contested (cells_from m 0 vs) (packed_cells n size marks (drop size octets)),
      group_contested samples m vs (one_long n size samples (take size octets) is first) words.0,
      counted_contested n size samples marks (drop size octets) is
          (rest_long size (length marks) octets long) words.1,
    )

pub counted_missing : (n size samples : ℕ) (marks octets : List ℕ) → AreSizes n size samples
    → length octets ≡ size * length marks → AllByRecursion (IsMark samples) marks
    → count_by is_missing (packed_cells n size marks octets) + samples * ones_under 32768 marks
    ≡ samples * length marks
unfolding packed_cells
counted_missing n size samples [] octets is long words = omega arith
counted_missing n size samples (m ∷ marks) octets is long words =
    let first : length (take size octets) ≡ size =
    length-take-le size octets (first_long size (length marks) (length octets) long) in
    let vs : List ℕ = values_in n (take size octets) in
    omega (
      arith,
      count_both is_missing (cells_from m 0 vs) (packed_cells n size marks (drop size octets)),
      group_missing samples m vs (one_long n size samples (take size octets) is first) words.0,
      counted_missing n size samples marks (drop size octets) is
          (rest_long size (length marks) octets long) words.1,
      mul-add samples (count_ones (bit_and m 32768)) (ones_under 32768 marks),
      mul-suc samples (length marks),
    )

pub seen_le : (marks : List ℕ) → ones_under 32768 marks ≤ length marks
seen_le [] = omega arith
seen_le (m ∷ marks) = omega (arith, one_seen m, bit_at-lt m 15, seen_le marks)

-- The three numbers of groups, from the two counts of their mark words' bits
pub record AreCounted (n size samples groups contested : ℕ) (marks octets : List ℕ) : Type 0 where
  pub few : groups ≤ length marks
  pub present : count_by is_present (packed_cells n size marks octets) + contested
      ≡ samples * groups
  pub missing : samples * (length marks - groups)
      ≡ count_by is_missing (packed_cells n size marks octets)
  pub contested_is : contested ≡ count_by is_contested (packed_cells n size marks octets)

counted_so : (n size samples : ℕ) (marks octets : List ℕ) → AreSizes n size samples
    → IsPacked n size samples marks octets
    → AreCounted n size samples (ones_under 32768 marks)
    (ones_under (2 ^ samples - 1) marks) marks octets
counted_so n size samples marks octets is packed =
    let cells : List Cell = packed_cells n size marks octets in
    let seen : ℕ = ones_under 32768 marks in
    let missing = counted_missing n size samples marks octets is packed.long packed.words in
    let contested = counted_contested n size samples marks octets is packed.long packed.words in
    let long : length cells ≡ samples * length marks =
    length-packed_cells n size samples marks octets is packed.long in
    let rest : length marks ≡ seen + (length marks - seen) = omega (arith, seen_le marks) in
    let split : samples * length marks ≡ samples * seen + samples * (length marks - seen) =
    ap (λ (k : ℕ). samples * k) rest ∙ mul-add samples seen (length marks - seen) in
    record {
      few = seen_le marks;
      present = omega (arith, missing, contested, long, all_kinds cells);
      missing = omega (arith, missing, split);
      contested_is = sym contested;
    }

pub counted : (n size s samples groups mask contested : ℕ) (marks octets : List ℕ)
    → AreSizes n size s → IsPacked n size s marks octets
    → samples ≡ s → groups ≡ ones_under 32768 marks → mask ≡ 2 ^ samples - 1
    → contested ≡ ones_under mask marks → AreCounted n size samples groups contested marks octets
counted n size s samples groups mask contested marks octets is packed same is_groups is_mask
    is_contested_so =
    let bits : contested ≡ ones_under (2 ^ s - 1) marks =
    is_contested_so ∙ ap (λ (k : ℕ). ones_under k marks)
    (is_mask ∙ ap (λ (k : ℕ). 2 ^ k - 1) same) in
    subst (λ (k : ℕ). AreCounted n size k groups contested marks octets) (sym same)
    (subst (λ (k : ℕ). AreCounted n size s k contested marks octets) (sym is_groups)
    (subst (λ (k : ℕ). AreCounted n size s (ones_under 32768 marks) k marks octets) (sym bits)
    (counted_so n size s marks octets is packed)))
