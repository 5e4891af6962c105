-- Groups without a missing sample that are contested all at once: the joins of their cells.
use Rattle.std.proofs.Common.{◌≡◌, ℕ, suc, ◌+◌, ◌*◌, ◌<◌, ◌≤◌, List, [], ◌∷◌, ◌++◌, length, get_or}
use Rattle.std.proofs.Common.{take, drop, max, bit_or, refl, sym, ap, subst, ◌∙◌, arith}
use Rattle.std.specs.Int.{bit_at}
use Rattle.std.proofs.lemmas.List.{length-take-le, nil_from_length, take-append-drop, take_at}
use Rattle.std.proofs.lemmas.Nat.Bits.{bit_at_or}
use Rattle.std.proofs.Math.Nat.{mul-suc}
use Rattle.std.proofs.Math.Seq.{drop-append-add}
use Rattle.st_format.specs.Samples.{values_in}
use Rattle.pgroup_pack.specs.Groups.{AreContested, blanked_samples, differs_at, samples_of}
use Rattle.frame_assembly.specs.Packed.{IsPacked, Joins, packed_cells}
use Rattle.frame_assembly.proofs.PackedLemmas.{AreParts, AreSizes, IsPacked-parts, Joins-append}
use Rattle.frame_assembly.proofs.PackedLemmas.{both_values, first_long, rest_long, one_long}
use Rattle.frame_assembly.proofs.GroupJoins.{group_contested}

-- two runs of groups without a missing sample, their words in one, and what contesting them made of
-- these
pub record AreBoth (n size samples : ℕ)
    (marks octets other_marks others both new_marks new_octets : List ℕ) : Type 0 where
  pub packed : IsPacked n size samples marks octets
  pub other : IsPacked n size samples other_marks others
  pub alike : length other_marks ≡ length marks
  pub both_long : length both ≡ length marks
  pub new_long : length new_marks ≡ length marks
  pub octets_long : length new_octets ≡ length octets
  pub ors : (k : ℕ) → k < length marks
      → get_or both k 0 ≡ bit_or (get_or marks k 0) (get_or other_marks k 0)
  pub high : (k : ℕ) → k < length marks → 32768 ≤ get_or marks k 0
  pub high_other : (k : ℕ) → k < length marks → 32768 ≤ get_or other_marks k 0
  pub contested : AreContested samples (values_in n octets) (values_in n others) both new_marks
      (values_in n new_octets)

-- the samples of the first group, and of those behind it
first_samples : (samples : ℕ) (vs ws : List ℕ) → length vs ≡ samples
    → samples_of samples 0 (vs ++ ws) ≡ vs
first_samples samples vs ws long =
    let none : samples * 0 ≡ 0 = omega arith in
    ap (λ (k : ℕ). take samples (drop k (vs ++ ws))) none ∙ take_at vs ws samples long

next_samples : (samples group : ℕ) (vs ws : List ℕ) → length vs ≡ samples
    → samples_of samples (suc group) (vs ++ ws) ≡ samples_of samples group ws
next_samples samples group vs ws long =
    let at : samples * suc group ≡ length vs + samples * group =
    omega (arith, mul-suc samples group) in
    ap (λ (k : ℕ). take samples (drop k (vs ++ ws))) at
    ∙ ap (take samples) (drop-append-add vs ws (samples * group))

rest_contested : (samples : ℕ) (v1 v2 w1 w2 x1 x2 : List ℕ) (b c : ℕ) (both marks : List ℕ)
    → length v1 ≡ samples → length w1 ≡ samples → length x1 ≡ samples
    → AreContested samples (v1 ++ v2) (w1 ++ w2) (b ∷ both) (c ∷ marks) (x1 ++ x2)
    → AreContested samples v2 w2 both marks x2
rest_contested samples v1 v2 w1 w2 x1 x2 b c both marks v_long w_long x_long all = record {
  bits = λ group lt i.
      all.bits (suc group) (omega arith) i
      ∙ (λ j. max (bit_at (get_or both group 0) i)
      (differs_at (next_samples samples group v1 v2 v_long j)
      (next_samples samples group w1 w2 w_long j) i));
  blank = λ group lt.
      sym (next_samples samples group x1 x2 x_long) ∙ all.blank (suc group) (omega arith)
      ∙ ap (blanked_samples (get_or marks group 0)) (next_samples samples group v1 v2 v_long);
}

-- the values of the first group, and of those behind it
values_split : (n size samples k : ℕ) (octets : List ℕ) → AreSizes n size samples
    → length octets ≡ size * suc k
    → values_in n octets ≡ values_in n (take size octets) ++ values_in n (drop size octets)
values_split n size samples k octets is long =
    let one : size ≡ size * 1 = omega arith in
    ap (values_in n) (sym (take-append-drop size octets))
    ∙ both_values n size samples 1 k (take size octets) (drop size octets) is
    (length-take-le size octets (first_long size k (length octets) long) ∙ one)
    (rest_long size k octets long)

nothing_joined : (n size samples : ℕ) (octets others new_octets : List ℕ)
    → IsPacked n size samples [] octets → length new_octets ≡ length octets
    → Joins n size samples [] octets [] others [] new_octets
unfolding packed_cells
nothing_joined n size samples octets others new_octets packed long =
    let empty : size * 0 ≡ 0 = omega arith in
    let nil : octets ≡ [] = nil_from_length octets (packed.long ∙ empty) in
    let new_nil : new_octets ≡ [] = nil_from_length new_octets (long ∙ packed.long ∙ empty) in
    record {
      packed = subst (IsPacked n size samples []) (nil ∙ sym new_nil) packed;
      long = refl;
      cells = refl;
    }

pub contested_joined : (n size samples : ℕ)
    (marks other_marks both new_marks octets others new_octets : List ℕ) → AreSizes n size samples
    → AreBoth n size samples marks octets other_marks others both new_marks new_octets
    → Joins n size samples marks octets other_marks others new_marks new_octets
contested_joined n size samples [] [] [] [] octets others new_octets is are =
    nothing_joined n size samples octets others new_octets are.packed are.octets_long
contested_joined n size samples [] (o ∷ os) both new octets others new_octets is are =
    absurd (omega (arith, are.alike))
contested_joined n size samples [] [] (b ∷ bs) new octets others new_octets is are =
    absurd (omega (arith, are.both_long))
contested_joined n size samples [] [] [] (c ∷ cs) octets others new_octets is are =
    absurd (omega (arith, are.new_long))
contested_joined n size samples (m ∷ ms) [] both new octets others new_octets is are =
    absurd (omega (arith, are.alike))
contested_joined n size samples (m ∷ ms) (o ∷ os) [] new octets others new_octets is are =
    absurd (omega (arith, are.both_long))
contested_joined n size samples (m ∷ ms) (o ∷ os) (b ∷ bs) [] octets others new_octets is are =
    absurd (omega (arith, are.new_long))
contested_joined n size samples (m ∷ ms) (o ∷ os) (b ∷ bs)
    (c ∷ cs) octets others new_octets is are =
    let k : ℕ = length ms in
    let os_k : length os ≡ k = omega (arith, are.alike) in
    let one : size ≡ size * 1 = omega arith in
    let others_long : length others ≡ size * suc k =
    are.other.long ∙ ap (λ (j : ℕ). size * suc j) os_k in
    let new_long : length new_octets ≡ size * suc k = are.octets_long ∙ are.packed.long in
    let o1 : List ℕ = take size octets in
    let o2 : List ℕ = drop size octets in
    let p1 : List ℕ = take size others in
    let p2 : List ℕ = drop size others in
    let q1 : List ℕ = take size new_octets in
    let q2 : List ℕ = drop size new_octets in
    let o1_long : length o1 ≡ size =
    length-take-le size octets (first_long size k (length octets) are.packed.long) in
    let p1_long : length p1 ≡ size =
    length-take-le size others (first_long size k (length others) others_long) in
    let q1_long : length q1 ≡ size =
    length-take-le size new_octets (first_long size k (length new_octets) new_long) in
    let q2_long : length q2 ≡ length o2 =
    rest_long size k new_octets new_long ∙ sym (rest_long size k octets are.packed.long) in
    let mine : AreParts n size samples (m ∷ []) o1 ms o2 =
    IsPacked-parts n size samples (m ∷ []) o1 ms o2 is (o1_long ∙ one)
    (subst (IsPacked n size samples (m ∷ ms))
    (sym (take-append-drop size octets)) are.packed) in
    let theirs : AreParts n size samples (o ∷ []) p1 os p2 =
    IsPacked-parts n size samples (o ∷ []) p1 os p2 is (p1_long ∙ one)
    (subst (IsPacked n size samples (o ∷ os)) (sym (take-append-drop size others)) are.other) in
    let v1 : List ℕ = values_in n o1 in
    let w1 : List ℕ = values_in n p1 in
    let x1 : List ℕ = values_in n q1 in
    let v1_long : length v1 ≡ samples = one_long n size samples o1 is o1_long in
    let w1_long : length w1 ≡ samples = one_long n size samples p1 is p1_long in
    let x1_long : length x1 ≡ samples = one_long n size samples q1 is q1_long in
    let all : AreContested samples (v1 ++ values_in n o2) (w1 ++ values_in n p2) (b ∷ bs) (c ∷ cs)
    (x1 ++ values_in n q2) =
    subst (λ (xs : List ℕ). AreContested samples (v1 ++ values_in n o2) (w1 ++ values_in n p2)
    (b ∷ bs) (c ∷ cs) xs) (values_split n size samples k new_octets is new_long)
    (subst (λ (xs : List ℕ). AreContested samples (v1 ++ values_in n o2) xs (b ∷ bs) (c ∷ cs)
    (values_in n new_octets)) (values_split n size samples k others is others_long)
    (subst (λ (xs : List ℕ). AreContested samples xs (values_in n others) (b ∷ bs) (c ∷ cs)
    (values_in n new_octets))
    (values_split n size samples k octets is are.packed.long) are.contested)) in
    let b_is : b ≡ bit_or m o = are.ors 0 (omega arith) in
    let here : (i : ℕ) → bit_at c i ≡ max (max (bit_at m i) (bit_at o i)) (differs_at v1 w1 i) =
    λ i. all.bits 0 (omega arith) i
    ∙ (λ j. max (bit_at (b_is j) i)
    (differs_at (first_samples samples v1 (values_in n o2) v1_long j)
    (first_samples samples w1 (values_in n p2) w1_long j) i))
    ∙ ap (λ (y : ℕ). max y (differs_at v1 w1 i)) (bit_at_or m o i) in
    let blank : x1 ≡ blanked_samples c v1 =
    sym (first_samples samples x1 (values_in n q2) x1_long) ∙ all.blank 0 (omega arith)
    ∙ ap (blanked_samples c) (first_samples samples v1 (values_in n o2) v1_long) in
    let first : Joins n size samples (m ∷ []) o1 (o ∷ []) p1 (c ∷ []) q1 =
    group_contested n size samples m o c o1 p1 q1 is mine.first theirs.first
    (are.high 0 (omega arith)) (are.high_other 0 (omega arith)) here
    (q1_long ∙ sym o1_long) blank in
    let rest : Joins n size samples ms o2 os p2 cs q2 =
    contested_joined n size samples ms os bs cs o2 p2 q2 is (record {
      packed = mine.second;
      other = theirs.second;
      alike = os_k;
      both_long = omega (arith, are.both_long);
      new_long = omega (arith, are.new_long);
      octets_long = q2_long;
      ors = λ j lt. are.ors (suc j) (omega arith);
      high = λ j lt. are.high (suc j) (omega arith);
      high_other = λ j lt. are.high_other (suc j) (omega arith);
      contested =
          rest_contested samples v1 (values_in n o2) w1 (values_in n p2) x1
          (values_in n q2) b c bs cs v1_long w1_long x1_long all;
    }) in
    let joins : Joins n size samples (m ∷ ms) (o1 ++ o2) (o ∷ os) (p1 ++ p2) (c ∷ cs) (q1 ++ q2) =
    Joins-append n size samples (m ∷ []) o1 (o ∷ []) p1 (c ∷ []) q1 ms o2 os p2 cs q2 is
    (o1_long ∙ one) (p1_long ∙ one) refl first rest in
    subst (λ (xs : List ℕ). Joins n size samples (m ∷ ms) octets (o ∷ os) others (c ∷ cs) xs)
    (take-append-drop size new_octets)
    (subst (λ (xs : List ℕ). Joins n size samples (m ∷ ms) octets (o ∷ os) xs (c ∷ cs) (q1 ++ q2))
    (take-append-drop size others)
    (subst (λ (xs : List ℕ). Joins n size samples (m ∷ ms) xs (o ∷ os) (p1 ++ p2) (c ∷ cs)
    (q1 ++ q2)) (take-append-drop size octets) joins))
