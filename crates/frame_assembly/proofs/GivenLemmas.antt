-- One group that is replaced.
use Rattle.std.proofs.Common.{◌≡◌, ℕ, zero, suc, ◌+◌, ◌-◌, ◌*◌, ◌<◌, ◌≤◌, max, ◌==◌, if◌then◌else◌}
use Rattle.std.proofs.Common.{List, [], ◌∷◌, ◌++◌, length, set, take, drop, map, replicate, bit_or}
use Rattle.std.proofs.Common.{refl, sym, ap, ◌∙◌, subst, inr, arith}
use Rattle.std.specs.Int.{bit_at}
use Rattle.std.proofs.lemmas.List.{drop_at, take_at}
use Rattle.std.proofs.lemmas.Nat.Bits.{bit_at-lt, bit_at-pow_other, bit_at_or}
use Rattle.std.proofs.Math.Nat.{mul-add}
use borrow.Rule.Slice.PartMut.{put_mid}
use Rattle.st_format.specs.declared.cell.Cell.{Cell}
use Rattle.st_format.specs.declared.cell.Cell.TheVariants.{Missing}
use Rattle.st_format.specs.Samples.{values_in}
use Rattle.pgroup_pack.specs.Groups.{blanked_samples, blanked_from}
use Rattle.frame_assembly.specs.Packed.{IsMark, IsPacked, cells_from, marked}
use Rattle.st_format.specs.Cell.{known_value}
use Rattle.frame_assembly.specs.Packed.{packed_cells}
use Rattle.frame_assembly.specs.Rows.{given_from, replaced_cells}
use Rattle.frame_assembly.proofs.PackedLemmas.{AreSizes, IsPacked-append, length-packed_cells}
use Rattle.frame_assembly.proofs.PackedLemmas.{one_long, packed_cells-append}
use Rattle.frame_assembly.proofs.GroupJoins.{known_blanked, marked_seen, one_cells, seen}
use Rattle.frame_assembly.proofs.GroupCells.{split_cells}
use Rattle.frame_assembly.proofs.Kept.{zero_cells, zero_packed}
use Rattle.frame_assembly.proofs.Runs.{IsPart, set_split}

-- what one group's replacement leaves
pub record IsReplaced (n size samples at mark : ℕ)
    (from marks octets new_marks new_octets : List ℕ) : Type 0 where
  pub packed : IsPacked n size samples new_marks new_octets
  pub cells : packed_cells n size new_marks new_octets
      ≡ replaced_cells (samples * at) (packed_cells n size (mark ∷ []) from)
      (packed_cells n size marks octets)

replaced_here : (xs new bs cs cells : List Cell) (k : ℕ) → cells ≡ xs ++ (bs ++ cs) → length xs ≡ k
    → length bs ≡ length new → xs ++ (new ++ cs) ≡ replaced_cells k new cells
replaced_here xs new bs cs cells k split long alike =
    let front : take k cells ≡ xs = ap (take k) split ∙ take_at xs (bs ++ cs) k long in
    let back : drop (length new) (drop k cells) ≡ cs =
    ap (λ (zs : List Cell). drop (length new) (drop k zs)) split
    ∙ ap (drop (length new)) (drop_at xs (bs ++ cs) k long)
    ∙ drop_at bs cs (length new) alike in
    sym (ap (λ (zs : List Cell). zs ++ (new ++ drop (length new) (drop k cells))) front
    ∙ ap (λ (zs : List Cell). xs ++ (new ++ zs)) back)

pub group_replaced : (n size samples at mark z : ℕ) (from marks octets part : List ℕ)
    → AreSizes n size samples → at < length marks → IsPacked n size samples marks octets
    → IsPacked n size samples (mark ∷ []) from
    → z ≡ size → part ≡ from
    → IsReplaced n size samples at mark from marks octets (set marks at mark)
    (put_mid (z * at) (z * (at + 1) - z * at) octets part)
group_replaced n size samples at mark z from marks octets part is lt packed one same is_from =
    let are = split_cells n size samples at 1 marks octets is (omega arith) packed in
    let xs : List Cell = packed_cells n size (take at marks) (take (size * at) octets) in
    let bs : List Cell =
    packed_cells n size (take 1 (drop at marks)) (take (size * 1) (drop (size * at) octets)) in
    let cs : List Cell =
    packed_cells n size (drop 1 (drop at marks)) (drop (size * 1) (drop (size * at) octets)) in
    let new : List Cell = packed_cells n size (mark ∷ []) from in
    let count : size * (at + 1) - size * at ≡ size * 1 = omega (arith, mul-add size at 1) in
    let new_long : length new ≡ samples * 1 =
    length-packed_cells n size samples (mark ∷ []) from is one.long in
    let tail : IsPacked n size samples (mark ∷ drop 1 (drop at marks))
    (from ++ drop (size * 1) (drop (size * at) octets)) =
    IsPacked-append n size samples (mark ∷ []) from (drop 1 (drop at marks))
    (drop (size * 1) (drop (size * at) octets)) is one are.behind_packed in
    let here : IsReplaced n size samples at mark from marks octets
    (take at marks ++ mark ∷ drop 1 (drop at marks))
    (take (size * at) octets ++ (from ++ drop (size * 1) (drop (size * at) octets))) = record {
      packed =
          IsPacked-append n size samples (take at marks) (take (size * at) octets)
          (mark ∷ drop 1 (drop at marks))
          (from ++ drop (size * 1) (drop (size * at) octets)) is are.before_packed tail;
      cells =
          packed_cells-append n size (take at marks) (take (size * at) octets)
          (mark ∷ drop 1 (drop at marks))
          (from ++ drop (size * 1) (drop (size * at) octets)) are.before_packed.long
          ∙ ap (λ (zs : List Cell). xs ++ zs)
          (packed_cells-append n size (mark ∷ []) from (drop 1 (drop at marks))
          (drop (size * 1) (drop (size * at) octets)) one.long)
          ∙ replaced_here xs new bs cs (packed_cells n size marks octets)
          (samples * at) are.split are.before (are.here ∙ sym new_long);
    } in
    subst (λ (ms : List ℕ). IsReplaced n size samples at mark from marks octets ms
    (put_mid (z * at) (z * (at + 1) - z * at) octets part)) (set_split at marks mark lt)
    (subst (λ (y : ℕ). IsReplaced n size samples at mark from marks octets
    (take at marks ++ mark ∷ drop 1 (drop at marks))
    (put_mid (y * at) (y * (at + 1) - y * at) octets part)) (sym same)
    (subst (λ (k : ℕ). IsReplaced n size samples at mark from marks octets
    (take at marks ++ mark ∷ drop 1 (drop at marks)) (put_mid (size * at) k octets part))
    (sym count)
    (subst (λ (os : List ℕ). IsReplaced n size samples at mark from marks octets
    (take at marks ++ mark ∷ drop 1 (drop at marks))
    (put_mid (size * at) (size * 1) octets os)) (sym is_from) here)))

-- ---- groups that are replaced

-- what the replacement of groups by those of given marks and octets leaves
pub record AreReplaced (n size samples at : ℕ)
    (given from marks octets new_marks new_octets : List ℕ) : Type 0 where
  pub packed : IsPacked n size samples new_marks new_octets
  pub cells : packed_cells n size new_marks new_octets
      ≡ replaced_cells (samples * at) (packed_cells n size given from)
      (packed_cells n size marks octets)

replaced_run : (n size samples at count : ℕ) (given from marks octets : List ℕ)
    → AreSizes n size samples → at + count ≤ length marks → length given ≡ count
    → IsPacked n size samples marks octets → IsPacked n size samples given from
    → AreReplaced n size samples at given from marks octets (put_mid at count marks given)
    (put_mid (size * at) (size * count) octets from)
replaced_run n size samples at count given from marks octets is le long packed new_packed =
    let are = split_cells n size samples at count marks octets is le packed in
    let am : List ℕ = take at marks in
    let ao : List ℕ = take (size * at) octets in
    let cm : List ℕ = drop count (drop at marks) in
    let co : List ℕ = drop (size * count) (drop (size * at) octets) in
    let xs : List Cell = packed_cells n size am ao in
    let bs : List Cell =
    packed_cells n size (take count (drop at marks))
    (take (size * count) (drop (size * at) octets)) in
    let cs : List Cell = packed_cells n size cm co in
    let new : List Cell = packed_cells n size given from in
    let new_long : length new ≡ samples * count =
    length-packed_cells n size samples given from is new_packed.long
    ∙ ap (λ (k : ℕ). samples * k) long in
    let tail : IsPacked n size samples (given ++ cm) (from ++ co) =
    IsPacked-append n size samples given from cm co is new_packed are.behind_packed in
    record {
      packed =
          IsPacked-append n size samples am ao (given ++ cm) (from ++ co) is
          are.before_packed tail;
      cells =
          packed_cells-append n size am ao (given ++ cm) (from ++ co) are.before_packed.long
          ∙ ap (λ (zs : List Cell). xs ++ zs)
          (packed_cells-append n size given from cm co new_packed.long)
          ∙ replaced_here xs new bs cs (packed_cells n size marks octets) (samples * at)
          are.split are.before (are.here ∙ sym new_long);
    }

-- the same in the numbers of the code's slices, and of what was written to them
pub run_replaced : (n size samples at count a c oa oc : ℕ)
    (given from marks octets part_marks part_octets : List ℕ)
    → IsPart size at count a c oa oc → AreSizes n size samples → at + count ≤ length marks
    → length given ≡ count → IsPacked n size samples marks octets
    → IsPacked n size samples given from → part_marks ≡ given → part_octets ≡ from
    → AreReplaced n size samples at given from marks octets (put_mid a c marks part_marks)
    (put_mid oa oc octets part_octets)
run_replaced n size samples at count a c oa oc given from marks octets part_marks part_octets here
    is le long packed new_packed same_marks same_octets =
    rw (
      here.marks_at_is,
      here.marks_count_is,
      here.octets_at_is,
      here.octets_count_is,
      same_marks,
      same_octets,
    )
    (replaced_run n size samples at count given from marks octets is le long packed new_packed)

-- ---- a group of given values

pub high_of_or : (k : ℕ) → bit_at (bit_or 32768 k) 15 ≡ 1
high_of_or k =
    let e : bit_at k 15 < 2 = bit_at-lt k 15 in
    bit_at_or 32768 k 15 ∙ (let f : max 1 (bit_at k 15) ≡ 1 = omega arith in f)

pub low_of_or : (k i : ℕ) → i < 15 → bit_at (bit_or 32768 k) i ≡ bit_at k i
low_of_or k i lt =
    let ne : i ≡ 15 → ⊥ = λ e. absurd (omega arith) in
    bit_at_or 32768 k i ∙ ap (λ (b : ℕ). max b (bit_at k i)) (bit_at-pow_other 15 i ne)
    ∙ (let f : max 0 (bit_at k i) ≡ bit_at k i = omega arith in f)

given_seen : (k i : ℕ) (vs : List ℕ) → i + length vs ≤ 15
    → cells_from (bit_or 32768 k) i vs ≡ given_from k i vs
unfolding cells_from given_from
given_seen k i [] le = refl
given_seen k i (v ∷ vs) le =
    let here : marked (bit_or 32768 k) i v ≡ seen (bit_at k i) v =
    marked_seen (bit_or 32768 k) i v (high_of_or k)
    ∙ ap (λ (b : ℕ). seen b v) (low_of_or k i (omega arith)) in
    let rest : cells_from (bit_or 32768 k) (i + 1) vs ≡ given_from k (i + 1) vs =
    given_seen k (i + 1) vs (omega arith) in
    rw (here, rest) refl

blanked_low : (k i : ℕ) (vs : List ℕ) → i + length vs ≤ 15
    → blanked_from (bit_or 32768 k) i vs ≡ blanked_from k i vs
blanked_low k i [] le = refl
blanked_low k i (v ∷ vs) le =
    ap (λ (b : ℕ). (if b == 1 then 0 else v) ∷ blanked_from (bit_or 32768 k) (i + 1) vs)
    (low_of_or k i (omega arith))
    ∙ ap (λ (xs : List ℕ). (if bit_at k i == 1 then 0 else v) ∷ xs)
    (blanked_low k (i + 1) vs (omega arith))

given_mark : (samples k : ℕ) → ((i : ℕ) → samples ≤ i → bit_at k i ≡ 0)
    → IsMark samples (bit_or 32768 k)
unfolding IsMark
given_mark samples k none = inr (high_of_or k, λ i le lt. low_of_or k i lt ∙ none i le)

pub given_packed : (n size samples k : ℕ) (from : List ℕ) → AreSizes n size samples
    → length from ≡ size → ((i : ℕ) → samples ≤ i → bit_at k i ≡ 0)
    → values_in n from ≡ blanked_samples k (values_in n from)
    → IsPacked n size samples (bit_or 32768 k ∷ []) from
given_packed n size samples k from is long none blank =
    let m : ℕ = bit_or 32768 k in
    let vs : List ℕ = values_in n from in
    let vs_long : length vs ≡ samples = one_long n size samples from is long in
    let few = is.few in
    let same : vs ≡ blanked_samples m vs = blank ∙ sym (blanked_low k 0 vs (omega arith)) in
    record {
      long = long ∙ (let e : size ≡ size * 1 = omega arith in e);
      words = (given_mark samples k none, tt);
      known =
          same ∙ known_blanked m 0 vs (high_of_or k)
          ∙ ap (λ (xs : List ℕ). map known_value (cells_from m 0 xs)) (sym same)
          ∙ ap (map known_value) (sym (one_cells n size m from long));
    }

pub given_is : (n size samples k : ℕ) (from : List ℕ) → AreSizes n size samples
    → length from ≡ size
    → packed_cells n size (bit_or 32768 k ∷ []) from ≡ given_from k 0 (values_in n from)
given_is n size samples k from is long =
    let vs_long : length (values_in n from) ≡ samples = one_long n size samples from is long in
    let few = is.few in
    one_cells n size (bit_or 32768 k) from long ∙ given_seen k 0 (values_in n from) (omega arith)

-- ---- a missing group

take_zeros : (c k : ℕ) → c ≤ k → take {A = ℕ} c (replicate k 0) ≡ replicate c 0
take_zeros zero k le = refl
take_zeros (suc c) zero le = absurd (omega arith)
take_zeros (suc c) (suc k) le = ap (λ (xs : List ℕ). 0 ∷ xs) (take_zeros c k (omega arith))

pub none_from : (z size : ℕ) → z ≡ size → size ≤ 15
    → take {A = ℕ} z (replicate 15 0) ≡ replicate (size * 1) 0
none_from z size same le = let e : z ≡ size * 1 =
    omega arith in ap (λ (k : ℕ). take {A = ℕ} k (replicate 15 0)) e
    ∙ take_zeros (size * 1) 15 (omega arith)

pub missing_packed : (n size samples : ℕ) (from : List ℕ) → AreSizes n size samples
    → from ≡ replicate (size * 1) 0 → IsPacked n size samples (0 ∷ []) from
missing_packed n size samples from is e =
    subst (IsPacked n size samples (0 ∷ [])) (sym e) (zero_packed n size samples 1 is)

pub missing_is : (n size samples : ℕ) (from given : List ℕ) → AreSizes n size samples
    → from ≡ replicate (size * 1) 0 → length given ≡ size
    → packed_cells n size (0 ∷ []) from ≡ replicate (length (values_in n given)) Missing
missing_is n size samples from given is e long =
    ap (packed_cells n size (0 ∷ [])) e ∙ zero_cells n size samples 1 is
    ∙ ap (λ (k : ℕ). replicate {A = Cell} k Missing)
    ((let f : samples * 1 ≡ samples = omega arith in f)
    ∙ sym (one_long n size samples given is long))
