-- The cells of a part of the groups.
use Rattle.std.proofs.Common.{◌≡◌, ℕ, zero, suc, ◌+◌, ◌-◌, ◌*◌, ◌^◌, ◌<◌, ◌≤◌, Bool, true, false}
use Rattle.std.proofs.Common.{◌==◌, if◌then◌else◌, List, [], ◌∷◌, ◌++◌, length, get_or, take, drop}
use Rattle.std.proofs.Common.{map, refl, sym, ap, ◌∙◌, subst, inl, inr, arith}
use Rattle.std.specs.Int.{bit_at}
use Rattle.std.specs.List.{AllByRecursion}
use Rattle.std.proofs.lemmas.Bool.{cases_lt}
use Rattle.std.proofs.lemmas.List.{drop_at, length-drop, length-take-le, take-append-drop, take_at}
use Rattle.std.proofs.lemmas.Nat.Bits.{bit_at-pow_other, bit_at-zero, bit_at_above, bit_at_cat_low}
use Rattle.st_format.specs.declared.cell.Cell.{Cell}
use Rattle.st_format.specs.declared.cell.Cell.TheVariants.{Missing, Value, Contested}
use Rattle.st_format.specs.Cell.{is_contested, is_missing, is_present, known_value}
use Rattle.st_format.specs.Samples.{Spells, values_in}
use Rattle.st_format.proofs.WholeOctets.{Spells-values_in}
use Rattle.frame_assembly.specs.Packed.{IsMark, IsPacked, cells_from, marked}
use Rattle.frame_assembly.specs.Packed.{packed_cells}
use Rattle.frame_assembly.specs.Rows.{IsMarkOf}
use Rattle.frame_assembly.proofs.PackedLemmas.{AreSizes, groups_agree, length-cells_from}
use Rattle.frame_assembly.proofs.PackedLemmas.{length-packed_cells, one_long, packed_cells-append}
use Rattle.frame_assembly.proofs.CellLemmas.{get_or-cells_from}
use Rattle.frame_assembly.proofs.GroupJoins.{marked_missing, marked_seen, one_cells, seen}
use Rattle.frame_assembly.proofs.Runs.{marks_part, octets_part, first_one, one_octets, packed_first}
use Rattle.frame_assembly.proofs.Runs.{packed_part}

-- the cells before a part, of it, and behind it
pub record AreSplit (n size samples at count : ℕ) (marks octets : List ℕ) : Type 0 where
  pub split : packed_cells n size marks octets
      ≡ packed_cells n size (take at marks) (take (size * at) octets)
      ++ (packed_cells n size (marks_part at count marks)
      (octets_part size at count octets) ++ packed_cells n size (drop count (drop at marks))
      (drop (size * count) (drop (size * at) octets)))
  pub before : length (packed_cells n size (take at marks) (take (size * at) octets)) ≡ samples * at
  pub here : length
      (packed_cells n size (marks_part at count marks) (octets_part size at count octets))
      ≡ samples * count
  pub before_packed : IsPacked n size samples (take at marks) (take (size * at) octets)
  pub behind_packed : IsPacked n size samples (drop count (drop at marks))
      (drop (size * count) (drop (size * at) octets))

pub split_cells : (n size samples at count : ℕ) (marks octets : List ℕ) → AreSizes n size samples
    → at + count ≤ length marks → IsPacked n size samples marks octets
    → AreSplit n size samples at count marks octets
split_cells n size samples at count marks octets is le packed =
    let a = packed_first n size samples at marks octets is (omega arith) packed in
    let bc =
    packed_first n size samples count (drop at marks) (drop (size * at) octets) is
    (omega (arith, length-drop at marks)) a.second in
    let am : List ℕ = take at marks in
    let ao : List ℕ = take (size * at) octets in
    let bm : List ℕ = take count (drop at marks) in
    let bo : List ℕ = take (size * count) (drop (size * at) octets) in
    let cm : List ℕ = drop count (drop at marks) in
    let co : List ℕ = drop (size * count) (drop (size * at) octets) in
    let am_long : length am ≡ at = length-take-le at marks (omega arith) in
    let bm_long : length bm ≡ count =
    length-take-le count (drop at marks) (omega (arith, length-drop at marks)) in
    record {
      split =
          ap (λ (ms : List ℕ). packed_cells n size ms octets) (sym (take-append-drop at marks))
          ∙ ap (packed_cells n size (am ++ drop at marks))
          (sym (take-append-drop (size * at) octets))
          ∙ packed_cells-append n size am ao (drop at marks) (drop (size * at) octets) a.first.long
          ∙ ap (λ (zs : List Cell). packed_cells n size am ao ++ zs)
          (ap (λ (ms : List ℕ). packed_cells n size ms (drop (size * at) octets))
          (sym (take-append-drop count (drop at marks)))
          ∙ ap (packed_cells n size (bm ++ cm))
          (sym (take-append-drop (size * count) (drop (size * at) octets)))
          ∙ packed_cells-append n size bm bo cm co bc.first.long);
      before =
          length-packed_cells n size samples am ao is a.first.long
          ∙ ap (λ (k : ℕ). samples * k) am_long;
      here =
          length-packed_cells n size samples bm bo is bc.first.long
          ∙ ap (λ (k : ℕ). samples * k) bm_long;
      before_packed = a.first;
      behind_packed = bc.second;
    }

pub part_cells : (n size samples at count : ℕ) (marks octets : List ℕ) → AreSizes n size samples
    → at + count ≤ length marks → IsPacked n size samples marks octets
    → packed_cells n size (marks_part at count marks) (octets_part size at count octets)
    ≡ take (samples * count) (drop (samples * at) (packed_cells n size marks octets))
part_cells n size samples at count marks octets is le packed =
    let are = split_cells n size samples at count marks octets is le packed in
    let xs : List Cell = packed_cells n size (take at marks) (take (size * at) octets) in
    let bs : List Cell =
    packed_cells n size (marks_part at count marks) (octets_part size at count octets) in
    let cs : List Cell =
    packed_cells n size (drop count (drop at marks))
    (drop (size * count) (drop (size * at) octets)) in
    sym (ap (λ (zs : List Cell). take (samples * count) (drop (samples * at) zs)) are.split
    ∙ ap (take (samples * count)) (drop_at xs (bs ++ cs) (samples * at) are.before)
    ∙ take_at bs cs (samples * count) are.here)

-- the octets of a part spell its cells' values
pub part_spelled : (n size samples at count : ℕ) (marks octets : List ℕ) → AreSizes n size samples
    → at + count ≤ length marks → IsPacked n size samples marks octets
    → Spells n (octets_part size at count octets)
    (map known_value
    (take (samples * count) (drop (samples * at) (packed_cells n size marks octets))))
part_spelled n size samples at count marks octets is le packed =
    let part = packed_part n size samples at count marks octets is le packed in
    let os : List ℕ = octets_part size at count octets in
    let long : length os ≡ size * count =
    part.long ∙ ap (λ (k : ℕ). size * k)
    (length-take-le count (drop at marks) (omega (arith, length-drop at marks))) in
    subst (Spells n os)
    (part.known ∙ ap (map known_value)
    (part_cells n size samples at count marks octets is le packed))
    (Spells-values_in n os (samples * count) is.bits
    (ap (λ (x : ℕ). 8 * x) long ∙ groups_agree n size samples count is))

-- ---- one group

pub group_cells_are : (n size samples g : ℕ) (marks octets : List ℕ) → AreSizes n size samples
    → g < length marks → IsPacked n size samples marks octets
    → take samples (drop (samples * g) (packed_cells n size marks octets))
    ≡ cells_from (get_or marks g 0) 0 (values_in n (take size (drop (size * g) octets)))
group_cells_are n size samples g marks octets is lt packed =
    let one : samples * 1 ≡ samples = omega arith in
    let one_size : size * 1 ≡ size = omega arith in
    let m : ℕ = get_or marks g 0 in
    let os : List ℕ = take size (drop (size * g) octets) in
    ap (λ (k : ℕ). take k (drop (samples * g) (packed_cells n size marks octets))) (sym one)
    ∙ sym (part_cells n size samples g 1 marks octets is (omega arith) packed)
    ∙ ap (λ (ms : List ℕ). packed_cells n size ms (octets_part size g 1 octets))
    (first_one g marks lt)
    ∙ ap (λ (k : ℕ). packed_cells n size (m ∷ []) (take k (drop (size * g) octets))) one_size
    ∙ one_cells n size m os (one_octets n size samples g marks octets is lt packed)

all_at : (P : ℕ → Type 0) (xs : List ℕ) (k : ℕ) → AllByRecursion P xs → k < length xs
    → P (get_or xs k 0)
all_at P [] k all lt = absurd (omega arith)
all_at P (x ∷ xs) zero all lt = all.0
all_at P (x ∷ xs) (suc k) all lt = all_at P xs k all.1 (omega arith)

pub missing_seen : (v : ℕ) (t : Bool) → is_missing (if t then Contested else Value v) ≡ false
missing_seen v true = refl
missing_seen v false = refl

pub contested_seen : (v : ℕ) (t : Bool) → is_contested (if t then Contested else Value v) ≡ t
contested_seen v true = refl
contested_seen v false = refl

mark_of : (samples m : ℕ) (vs : List ℕ) → length vs ≡ samples → IsMark samples m
    → IsMarkOf m (cells_from m 0 vs)
unfolding IsMark
mark_of samples m vs long (inl e) =
    let clear : (i : ℕ) → bit_at m i ≡ 0 = λ i. ap (λ (x : ℕ). bit_at x i) e ∙ bit_at-zero i in
    let cell : (i : ℕ) → i < length (cells_from m 0 vs)
    → get_or (cells_from m 0 vs) i Missing ≡ Missing =
    λ i lt. get_or-cells_from m 0 vs i (omega (arith, length-cells_from m 0 vs))
    ∙ marked_missing m (0 + i) (get_or vs i 0) (clear 15) in
    record {
      missing = λ i lt. ap is_missing (cell i lt) ∙ ap (λ (b : ℕ). b == 0) (sym (clear 15));
      contested = λ i lt. ap is_contested (cell i lt) ∙ ap (λ (b : ℕ). b == 1) (sym (clear i));
      others = λ i le lt. clear i;
    }
mark_of samples m vs long (inr h) =
    let cell : (i : ℕ) → i < length (cells_from m 0 vs)
    → get_or (cells_from m 0 vs) i Missing ≡ seen (bit_at m i) (get_or vs i 0) =
    λ i lt. let zero_is : 0 + i ≡ i = omega arith in
    get_or-cells_from m 0 vs i (omega (arith, length-cells_from m 0 vs))
    ∙ ap (λ (j : ℕ). marked m j (get_or vs i 0)) zero_is
    ∙ marked_seen m i (get_or vs i 0) h.0 in
    record {
      missing =
          λ i lt. ap is_missing (cell i lt) ∙ missing_seen (get_or vs i 0) (bit_at m i == 1)
          ∙ ap (λ (b : ℕ). b == 0) (sym h.0);
      contested =
          λ i lt. ap is_contested (cell i lt) ∙ contested_seen (get_or vs i 0) (bit_at m i == 1);
      others = λ i le lt. h.1 i (omega (arith, length-cells_from m 0 vs)) lt;
    }

pub group_mark : (n size samples g : ℕ) (marks octets : List ℕ) → AreSizes n size samples
    → g < length marks → IsPacked n size samples marks octets
    → IsMarkOf (get_or marks g 0)
    (take samples (drop (samples * g) (packed_cells n size marks octets)))
group_mark n size samples g marks octets is lt packed =
    let os : List ℕ = take size (drop (size * g) octets) in
    subst (IsMarkOf (get_or marks g 0))
    (sym (group_cells_are n size samples g marks octets is lt packed))
    (mark_of samples (get_or marks g 0) (values_in n os)
    (one_long n size samples os is (one_octets n size samples g marks octets is lt packed))
    (all_at (IsMark samples) marks g packed.words lt))

-- ---- the state of a group

present_else : (c : Cell) → is_missing c ≡ false → is_contested c ≡ false → is_present c ≡ true
present_else Missing e f = let g = e in cc
present_else (Value v) e f = refl
present_else Contested e f = let g = f in cc

pub not_missing : (m : ℕ) (cells : List Cell) → 32768 ≤ m → m < 65536 → IsMarkOf m cells → (i : ℕ)
    → i < length cells → is_missing (get_or cells i Missing) ≡ false
not_missing m cells ge lt is i within =
    let e : bit_at m 15 ≡ 1 = omega arith in
    is.missing i within ∙ ap (λ (b : ℕ). b == 0) e

pub whole : (m : ℕ) (cells : List Cell) → m ≡ 32768 → length cells ≤ 12 → IsMarkOf m cells
    → (i : ℕ) → i < length cells → is_present (get_or cells i Missing) ≡ true
whole m cells e few is i within =
    let clear : bit_at m i ≡ 0 =
    ap (λ (x : ℕ). bit_at x i) e
    ∙ (let ne : i ≡ 15 → ⊥ = λ h. absurd (omega arith) in bit_at-pow_other 15 i ne) in
    present_else (get_or cells i Missing)
    (not_missing m cells (omega arith) (omega arith) is i within)
    (is.contested i within ∙ ap (λ (b : ℕ). b == 1) clear)

-- the bits below bit 15
pub low_bits : (m i : ℕ) → 32768 ≤ m → i < 15 → bit_at (m - 32768) i ≡ bit_at m i
low_bits m i ge lt =
    let e : m ≡ 1 * 2 ^ 15 + (m - 32768) = omega arith in
    sym (ap (λ (x : ℕ). bit_at x i) e ∙ bit_at_cat_low 1 15 (m - 32768) i lt)

pub mixed_contested : (m : ℕ) (cells : List Cell) → 32768 ≤ m → length cells ≤ 12
    → IsMarkOf m cells → (i : ℕ) → i < length cells
    → is_contested (get_or cells i Missing) ≡ (bit_at (m - 32768) i == 1)
mixed_contested m cells ge few is i within =
    is.contested i within ∙ ap (λ (b : ℕ). b == 1) (sym (low_bits m i ge (omega arith)))

pub mixed_others : (m : ℕ) (cells : List Cell) → 32768 ≤ m → m < 65536 → length cells ≤ 12
    → IsMarkOf m cells → (i : ℕ) → length cells ≤ i → bit_at (m - 32768) i ≡ 0
mixed_others m cells ge lt few is i le = elim (cases_lt i 15) [
  | inl below ↦ low_bits m i ge below ∙ is.others i le below
  | inr beyond ↦ bit_at_above (m - 32768) 15 i (omega arith) beyond
]
