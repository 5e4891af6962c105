-- Samples that are compared, marked and blanked many at once.
use Rattle.std.proofs.Common.{◌≡◌, ℕ, zero, suc, ◌+◌, ◌-◌, ◌*◌, ◌/◌, ◌%◌, ◌^◌, ◌<◌, ◌≤◌, Bool, true}
use Rattle.std.proofs.Common.{false, not, cond, ◌==◌, if◌then◌else◌, List, [], ◌∷◌, ◌++◌, length}
use Rattle.std.proofs.Common.{get_or, set, take, drop, map, max, min, nat_lt, bit_and, bit_or}
use Rattle.std.proofs.Common.{replicate, length-append, refl, sym, ap, subst, ◌∙◌, inl, inr, arith}
use Rattle.std.proofs.Common.{w16}
use Rattle.std.specs.Int.{bit_at}
use Rattle.std.specs.List.{range_with_len}
use Rattle.std.proofs.lemmas.Bool.{eq-eqb, ne_eqb, cases_eq, cases_lt}
use Rattle.std.proofs.lemmas.List.{ext_get_or, get_or-set_same, get_or-set_other, length-take-le}
use Rattle.std.proofs.lemmas.List.{take_at, get_or_append_left, get_or-take, drop-append-le}
use Rattle.std.proofs.lemmas.List.{take-append-le, length-drop, get_or-append_right}
use Rattle.std.proofs.lemmas.List.FromFn.{get_or-map-range_with_len}
use Rattle.std.proofs.lemmas.Nat.{pow_pos, shr-shr, shr_split, one_shl, mul-le}
use Rattle.std.proofs.lemmas.Nat.Bits.{bit_at-zero, bit_at-lt, bit_at_and, bit_at_or, bit_at_ones}
use Rattle.std.proofs.lemmas.Nat.Bits.{bit_at_ones_above, bit_at_above, bit_at_cat_low}
use Rattle.std.proofs.lemmas.Nat.Bits.{bit_at_cat_high, and_pow}
use Rattle.std.proofs.lemmas.Simd.{get_or-put_chunk_at, get_or-put_chunk_above}
use Rattle.std.proofs.lemmas.Simd.{get_or-put_chunk_below, get_or-sel_l, get_or-zip2}
use Rattle.std.proofs.lemmas.Simd.{get_or-replicate, get_or-chunk, length-chunk, length-zip2}
use Rattle.std.proofs.lemmas.Simd.{length-sel_l, tops_compared, mask_l-lt}
use Rattle.std.proofs.lemmas.Simd.{mask_l-mod, bit_mask_l}
use Rattle.std.proofs.Math.ListN.{length-set}
use Rattle.std.proofs.Math.Seq.{drop-append-add}
use Rattle.std.proofs.Math.Nat.{mul-add, mul-le-mul_left, mul_assoc, mul-div_cancel_left, mod-lt}
use borrow.Author.Tests.{lt-ltb, ltb-true}
use lib.Lanes.{chunk, put_chunk, zip2, sel_l, top, mask_l}
use Rattle.st_format.specs.declared.sampling.Sampling.{Sampling}
use Rattle.st_format.specs.declared.sampling.Sampling.TheVariants.{Ycc422, Ycc444, Rgb}
use Rattle.st_format.specs.declared.sampling.Depth.{Depth}
use Rattle.st_format.specs.declared.sampling.Depth.TheVariants.{D8, D10, D12, D16}
use Rattle.st_format.specs.Pgroup.{bits_of, pixel_group}
use Rattle.st_format.specs.Samples.{values_in}
use Rattle.pgroup_pack.proofs.Values.{length-values_in, values_in-append}
use Rattle.pgroup_pack.specs.Groups.{differs_at, blanked_samples, blanked_from, AreContested}
use Rattle.pgroup_pack.specs.Groups.{samples_of}
use Rattle.pgroup_pack.proofs.GroupLemmas.{length-blanked_from, past}

-- ---- bits of shifted numbers

bit_of_rest : (n k : ℕ) → k < 64 → bit_at (n % 2 ^ 64) k ≡ bit_at n k
bit_of_rest n k lt =
    sym (bit_at_cat_low (n / 2 ^ 64) 64 (n % 2 ^ 64) k lt)
    ∙ ap (λ (m : ℕ). bit_at m k) (shr_split n 64)

raised_is : (x a : ℕ) → x * 2 ^ a ≡ x * 2 ^ a + 0
raised_is x a = omega arith

bit_of_raised_low : (x a k : ℕ) → k < a → k < 64 → bit_at (x * 2 ^ a % 2 ^ 64) k ≡ 0
bit_of_raised_low x a k lt room =
    bit_of_rest (x * 2 ^ a) k room ∙ ap (λ (m : ℕ). bit_at m k) (raised_is x a)
    ∙ bit_at_cat_low x a 0 k lt ∙ bit_at-zero k

bit_of_raised_high : (x a k : ℕ) → a ≤ k → k < 64 → bit_at (x * 2 ^ a % 2 ^ 64) k ≡ bit_at x (k - a)
bit_of_raised_high x a k le room =
    bit_of_rest (x * 2 ^ a) k room ∙ ap (λ (m : ℕ). bit_at m k) (raised_is x a)
    ∙ bit_at_cat_high x a 0 k (pow_pos a) le

bit_of_raised_out : (x a k : ℕ) → 64 ≤ k → bit_at (x * 2 ^ a % 2 ^ 64) k ≡ 0
bit_of_raised_out x a k out =
    bit_at_above (x * 2 ^ a % 2 ^ 64) 64 k (mod-lt (x * 2 ^ a) (pow_pos 64)) out

bit_of_lowered : (x a k : ℕ) → bit_at (x / 2 ^ a) k ≡ bit_at x (a + k)
bit_of_lowered x a k = ap (λ (m : ℕ). m % 2) (shr-shr x a k)

max_zero : (b : ℕ) → max b 0 ≡ b
max_zero b = omega arith

zero_max : (b : ℕ) → max 0 b ≡ b
zero_max b = omega arith

min_one : (b : ℕ) → b < 2 → min b 1 ≡ b
min_one zero lt = refl
min_one (suc zero) lt = refl
min_one (suc (suc b)) lt = absurd (omega arith)

min_zero : (b : ℕ) → min b 0 ≡ 0
min_zero b = omega arith

-- the lowest bits of a number, as the code takes them
abbrev pub low_bits : ℕ → ℕ
low_bits samples = 1 * 2 ^ samples % 18446744073709551616 - 1

low_bits_are : (samples : ℕ) → samples ≤ 12 → low_bits samples ≡ 2 ^ samples - 1
low_bits_are samples few = ap (λ (m : ℕ). m - 1) (one_shl samples 64 (omega arith))

low_bit : (x samples i : ℕ) → samples ≤ 12 → i < samples
    → bit_at (bit_and x (low_bits samples)) i ≡ bit_at x i
low_bit x samples i few lt =
    ap (λ (m : ℕ). bit_at (bit_and x m) i) (low_bits_are samples few)
    ∙ bit_at_and x (2 ^ samples - 1) i ∙ ap (min (bit_at x i)) (bit_at_ones samples i lt)
    ∙ min_one (bit_at x i) (bit_at-lt x i)

no_low_bit : (x samples i : ℕ) → samples ≤ 12 → samples ≤ i
    → bit_at (bit_and x (low_bits samples)) i ≡ 0
no_low_bit x samples i few le =
    ap (λ (m : ℕ). bit_at (bit_and x m) i) (low_bits_are samples few)
    ∙ bit_at_and x (2 ^ samples - 1) i ∙ ap (min (bit_at x i)) (bit_at_ones_above samples i le)
    ∙ min_zero (bit_at x i)

-- ---- words that are marked one after the other

not_below : (a b : ℕ) → b ≤ a → nat_lt a b ≡ false
not_below a b le = elim (nat_lt a b) as (λ t. nat_lt a b ≡ t → nat_lt a b ≡ false) [
  | true ↦ λ e. let lt : a < b = ltb-true a b e in absurd (omega arith)
  | false ↦ λ e. e
] refl

-- the words below a number have the bits of the samples that differ, and the bits of all of their
-- samples are gathered
pub record Marked (samples differ : ℕ) (old : List ℕ) (at : ℕ) (marks : List ℕ)
    (bits : ℕ) : Type 0 where
  pub long : length marks ≡ length old
  pub before : (k : ℕ) → k < at → (i : ℕ)
      → bit_at (get_or marks k 0) i
      ≡ max (bit_at (get_or old k 0) i)
      (if nat_lt i samples then bit_at differ (samples * k + i) else 0)
  pub behind : (k : ℕ) → at ≤ k → get_or marks k 0 ≡ get_or old k 0
  pub gathered : (k : ℕ) → k < at → (i : ℕ) → i < samples
      → bit_at bits (samples * k + i) ≡ bit_at (get_or marks k 0) i
  pub above : (k : ℕ) → samples * at ≤ k → bit_at bits k ≡ 0

pub none_marked : (samples differ : ℕ) (old : List ℕ) → Marked samples differ old 0 old 0
none_marked samples differ old = record {
  long = refl;
  before = λ k lt. absurd (omega arith);
  behind = λ k le. refl;
  gathered = λ k lt. absurd (omega arith);
  above = λ k le. bit_at-zero k;
}

mark_bit : (samples differ at old i : ℕ) → samples ≤ 12
    → bit_at (bit_or old (bit_and (differ / 2 ^ (samples * at)) (low_bits samples))) i
    ≡ max (bit_at old i) (if nat_lt i samples then bit_at differ (samples * at + i) else 0)
mark_bit samples differ at old i few =
    let x : ℕ = differ / 2 ^ (samples * at) in
    bit_at_or old (bit_and x (low_bits samples)) i
    ∙ ap (max (bit_at old i)) (elim (cases_lt i samples) [
      | inl lt ↦ low_bit x samples i few lt ∙ bit_of_lowered differ (samples * at) i
          ∙ sym
          (ap (λ (t : Bool). if t then bit_at differ (samples * at + i) else 0)
          (lt-ltb i samples lt))
      | inr ge ↦ no_low_bit x samples i few ge
          ∙ sym
          (ap (λ (t : Bool). if t then bit_at differ (samples * at + i) else 0)
          (not_below i samples ge))
    ])

times_next : (samples k : ℕ) → samples * (k + 1) ≡ samples * k + samples
times_next samples k = let e : samples * 1 ≡ samples =
    omega arith in mul-add samples k 1 ∙ ap (λ (m : ℕ). samples * k + m) e

-- a sample of a group before
before_group : (samples k at i : ℕ) → k < at → i < samples → samples * k + i < samples * at
before_group samples k at i lt inside =
    let le : samples * (k + 1) ≤ samples * at =
    mul-le-mul_left samples (let up : k + 1 ≤ at = omega arith in up) in
    omega (arith, times_next samples k)

one_marked : (samples differ : ℕ) (old : List ℕ) (at : ℕ) (marks : List ℕ) (bits mark : ℕ)
    → samples ≤ 12 → samples * length old ≤ 48 → at < length old
    → Marked samples differ old at marks bits
    → mark ≡ bit_or (get_or marks at 0) (bit_and (differ / 2 ^ (samples * at)) (low_bits samples))
    → Marked samples differ old (at + 1) (set marks at mark)
    (bit_or bits (bit_and mark (low_bits samples) * 2 ^ (samples * at) % 2 ^ 64))
one_marked samples differ old at marks bits mark few room lt so_far is =
    let p : ℕ = samples * at in
    let x : ℕ = bit_and mark (low_bits samples) in
    let raised : ℕ = x * 2 ^ p % 2 ^ 64 in
    let next : samples * (at + 1) ≡ p + samples = times_next samples at in
    let end : samples * (at + 1) ≤ samples * length old =
    mul-le-mul_left samples (let up : at + 1 ≤ length old = omega arith in up) in
    let here : get_or (set marks at mark) at 0 ≡ mark =
    get_or-set_same marks at mark 0 (omega (arith, so_far.long)) in
    let new_mark : (i : ℕ)
    → bit_at mark i
    ≡ max (bit_at (get_or old at 0) i) (if nat_lt i samples then bit_at differ (p + i) else 0) =
    λ i. ap (λ (m : ℕ). bit_at m i) is ∙ mark_bit samples differ at (get_or marks at 0) i few
    ∙ ap (λ (m : ℕ). max (bit_at m i) (if nat_lt i samples then bit_at differ (p + i) else 0))
    (so_far.behind at (omega arith)) in
    record {
      long = length-set marks at mark ∙ so_far.long;
      before = λ k below i. elim (cases_eq k at) [
        | inl e ↦ ap (λ (j : ℕ). bit_at (get_or (set marks at mark) j 0) i) e
            ∙ ap (λ (m : ℕ). bit_at m i) here ∙ new_mark i
            ∙ sym
            (ap (λ (j : ℕ). max (bit_at (get_or old j 0) i)
            (if nat_lt i samples then bit_at differ (samples * j + i) else 0)) e)
        | inr ne ↦ ap (λ (m : ℕ). bit_at m i) (get_or-set_other marks at k mark 0 ne)
            ∙ so_far.before k (omega arith) i
      ];
      behind = λ k le. let ne : k ≡ at
          → ⊥ =
          λ e. absurd (omega arith) in get_or-set_other marks at k mark 0 ne
          ∙ so_far.behind k (omega arith);
      gathered = λ k below i inside. elim (cases_eq k at) [
        | inl e ↦
            let inside_word : p + i < 64 = omega arith in
            let from : p ≤ p + i = omega arith in
            let back : p + i - p ≡ i = omega arith in
            ap (λ (j : ℕ). bit_at (bit_or bits raised) (samples * j + i)) e
            ∙ bit_at_or bits raised (p + i)
            ∙ ap (λ (b : ℕ). max b (bit_at raised (p + i))) (so_far.above (p + i) from)
            ∙ zero_max (bit_at raised (p + i))
            ∙ bit_of_raised_high x p (p + i) from inside_word ∙ ap (bit_at x) back
            ∙ low_bit mark samples i few inside
            ∙ sym (ap (λ (m : ℕ). bit_at m i) here)
            ∙ sym (ap (λ (j : ℕ). bit_at (get_or (set marks at mark) j 0) i) e)
        | inr ne ↦
            let earlier : k < at = omega arith in
            let low : samples * k + i < p = before_group samples k at i earlier inside in
            bit_at_or bits raised (samples * k + i)
            ∙ ap (max (bit_at bits (samples * k + i)))
            (bit_of_raised_low x p (samples * k + i) low (omega arith))
            ∙ max_zero (bit_at bits (samples * k + i)) ∙ so_far.gathered k earlier i inside
            ∙ sym (ap (λ (m : ℕ). bit_at m i) (get_or-set_other marks at k mark 0 ne))
      ];
      above = λ k le.
          bit_at_or bits raised k
          ∙ ap (λ (b : ℕ). max b (bit_at raised k)) (so_far.above k (omega arith))
          ∙ zero_max (bit_at raised k)
          ∙ elim (cases_lt k 64) [
            | inl lt1 ↦ bit_of_raised_high x p k (omega arith) lt1
                ∙ no_low_bit mark samples (k - p) few (omega arith)
            | inr out ↦ bit_of_raised_out x p k out
          ];
    }

-- the same where the word is read back
pub marked_more : (samples differ : ℕ) (old : List ℕ) (at : ℕ) (marks : List ℕ) (bits mark : ℕ)
    → samples ≤ 12 → samples * length old ≤ 48 → at < length old
    → Marked samples differ old at marks bits
    → mark ≡ bit_or (get_or marks at 0) (bit_and (differ / 2 ^ (samples * at)) (low_bits samples))
    → Marked samples differ old (at + 1) (set marks at mark)
    (bit_or bits
    (bit_and (get_or (set marks at mark) at 0) (low_bits samples) * 2 ^ (samples * at) % 2 ^ 64))
marked_more samples differ old at marks bits mark few room lt so_far is =
    subst (λ (m : ℕ). Marked samples differ old (at + 1) (set marks at mark)
    (bit_or bits (bit_and m (low_bits samples) * 2 ^ (samples * at) % 2 ^ 64)))
    (sym (get_or-set_same marks at mark 0 (omega (arith, so_far.long))))
    (one_marked samples differ old at marks bits mark few room lt so_far is)

-- ---- lanes

differs_is : (b : Bool) → ◌≡◌ {A = ℕ} (cond (not b) 1 0) (if b then 0 else 1)
differs_is true = refl
differs_is false = refl

whole : (n : ℕ) (xs : List ℕ) → length xs ≡ n → take n xs ≡ xs
whole n xs long = ap (take n) (sym (nothing_more xs)) ∙ take_at xs [] n long where
  nothing_more : (ys : List ℕ) → ys ++ [] ≡ ys
  nothing_more [] = refl
  nothing_more (y ∷ ys) = ap (λ (zs : List ℕ). y ∷ zs) (nothing_more ys)

-- the bits of a comparison, as the code takes them
abbrev pub compared : List ℕ → List ℕ → List Bool
compared xs ys = map (top 15) (zip2 (λ (a b : ℕ). cond (not (a == b)) 65535 0) xs ys)

compared_are : (xs ys : List ℕ) → compared xs ys ≡ zip2 (λ (a b : ℕ). not (a == b)) xs ys
compared_are xs ys = tops_compared w16 (λ (a b : ℕ). not (a == b)) xs ys

compared_long : (xs ys : List ℕ) → length xs ≡ 16 → length ys ≡ 16 → length (compared xs ys) ≡ 16
compared_long xs ys long long1 =
    ap length (compared_are xs ys)
    ∙ length-zip2 (λ (a b : ℕ). not (a == b)) xs ys (long ∙ sym long1) ∙ long

pub lanes_differ : (xs ys : List ℕ) → length xs ≡ 16 → length ys ≡ 16 → (k : ℕ) → k < 16
    → bit_at (mask_l (compared (take 16 xs) (take 16 ys)) % 2 ^ 64) k ≡ differs_at xs ys k
lanes_differ xs ys long long1 k lt =
    let same : compared (take 16 xs) (take 16 ys) ≡ compared xs ys =
    (λ i. compared (whole 16 xs long i) (whole 16 ys long1 i)) in
    let long_all : length (compared xs ys) ≡ 16 = compared_long xs ys long long1 in
    ap (λ (bs : List Bool). bit_at (mask_l bs % 2 ^ 64) k) same
    ∙ ap (λ (m : ℕ). bit_at m k) (mask_l-mod (compared xs ys) 64 (omega arith))
    ∙ bit_mask_l (compared xs ys) k
    ∙ ap (λ (bs : List Bool). cond (get_or bs k false) 1 0) (compared_are xs ys)
    ∙ ap (λ (b : Bool). cond b 1 0)
    (get_or-zip2 (λ (a b : ℕ). not (a == b)) xs ys k 0 0 false (omega arith) (omega arith))
    ∙ differs_is (get_or xs k 0 == get_or ys k 0)

pub lanes_most : (xs ys : List ℕ) → length xs ≡ 16 → length ys ≡ 16
    → mask_l (compared (take 16 xs) (take 16 ys)) % 2 ^ 64 < 65536
lanes_most xs ys long long1 =
    let same : compared (take 16 xs) (take 16 ys) ≡ compared xs ys =
    (λ i. compared (whole 16 xs long i) (whole 16 ys long1 i)) in
    let long_all : length (compared xs ys) ≡ 16 = compared_long xs ys long long1 in
    let few : mask_l (compared xs ys) < 2 ^ length (compared xs ys) = mask_l-lt (compared xs ys) in
    let below : mask_l (compared xs ys) < 2 ^ 16 =
    subst (λ (n : ℕ). mask_l (compared xs ys) < 2 ^ n) long_all few in
    subst (λ (m : ℕ). m < 65536)
    (sym (ap (λ (bs : List Bool). mask_l bs % 2 ^ 64) same
    ∙ mask_l-mod (compared xs ys) 64 (omega arith))) below

-- a part of both
pub part_differs : (xs ys : List ℕ) (a n m k : ℕ) → k < n → k < m
    → differs_at (take n (drop a xs)) (take m (drop a ys)) k ≡ differs_at xs ys (a + k)
part_differs xs ys a n m k lt lt1 =
    (λ i. if get_or-chunk a n xs k 0 lt i == get_or-chunk a m ys k 0 lt1 i then 0 else 1)

-- three words as one
pub three_words : (f : ℕ → ℕ) (first second third : ℕ) → first < 65536 → second < 65536
    → ((k : ℕ) → k < 16 → bit_at first k ≡ f k) → ((k : ℕ) → k < 16 → bit_at second k ≡ f (16 + k))
    → ((k : ℕ) → k < 16 → bit_at third k ≡ f (32 + k))
    → (k : ℕ) → k < 48 → bit_at ((third * 65536 + second) * 65536 + first) k ≡ f k
three_words f first second third small small1 a b c k lt = elim (cases_lt k 16) [
  | inl low ↦ bit_at_cat_low (third * 65536 + second) 16 first k low ∙ a k low
  | inr ge ↦ bit_at_cat_high (third * 65536 + second) 16 first k small ge
      ∙ elim (cases_lt (k - 16) 16) [
        | inl low ↦ let e : 16 + (k - 16) ≡ k = omega arith in
            bit_at_cat_low third 16 second (k - 16) low ∙ b (k - 16) low ∙ ap f e
        | inr ge1 ↦ let e : 32 + (k - 16 - 16) ≡ k = omega arith in
            bit_at_cat_high third 16 second (k - 16) small1 ge1 ∙ c (k - 16 - 16) (omega arith)
            ∙ ap f e
      ]
]

-- ---- blanking

-- the bit of each lane
abbrev pub weights : List ℕ
weights =
    1 ∷ 2 ∷ 4 ∷ 8 ∷ 16 ∷ 32 ∷ 64 ∷ 128 ∷ 256 ∷ 512 ∷ 1024 ∷ 2048 ∷ 4096 ∷ 8192 ∷ 16384 ∷ 32768 ∷ []

weights_are : weights ≡ map (λ k. 2 ^ k) (range_with_len 0 16)
weights_are = refl

get_or-weights : (k : ℕ) → k < 16 → get_or weights k 0 ≡ 2 ^ k
get_or-weights k lt =
    ap (λ (ws : List ℕ). get_or ws k 0) weights_are
    ∙ get_or-map-range_with_len (λ k. 2 ^ k) 0 16 k k 0 (omega arith) (omega arith)

-- the lanes that are kept, as the code takes them
abbrev pub unset : ℕ → List Bool
unset bits =
    map (top 15)
    (zip2 (λ (a b : ℕ). cond (a == b) 65535 0) (zip2 bit_and (replicate 16 bits) weights)
    (replicate 16 0))

kept_lane : (b p x : ℕ) → b < 2 → 0 < p → cond (b * p == 0) x 0 ≡ (if b == 1 then 0 else x)
kept_lane zero p x lt some = let e : 0 * p ≡ 0 =
    omega arith in ap (λ (t : Bool). cond t x 0) (eq-eqb (0 * p) 0 e)
kept_lane (suc zero) p x lt some = let ne : 1 * p ≡ 0
    → ⊥ = λ e. absurd (omega arith) in ap (λ (t : Bool). cond t x 0) (ne_eqb (1 * p) 0 ne)
kept_lane (suc (suc b)) p x lt some = absurd (omega arith)

-- the lanes from number at on, blanked as the code blanks them
abbrev pub blank_part : ℕ → ℕ → List ℕ → List ℕ
blank_part bits at xs = sel_l (unset bits) (take 16 (drop at xs)) (replicate 16 0)

blank_part_is : (bits at : ℕ) (xs : List ℕ)
    → blank_part bits at xs
    ≡ sel_l
    (zip2 (λ (a b : ℕ). a == b) (zip2 bit_and (replicate 16 bits) weights) (replicate 16 0))
    (chunk at 16 xs) (replicate 16 0)
blank_part_is bits at xs =
    ap (λ (test : List Bool). sel_l test (chunk at 16 xs) (replicate 16 0))
    (tops_compared w16 (λ (a b : ℕ). a == b) (zip2 bit_and (replicate 16 bits) weights)
    (replicate 16 0))

pub length-blank_part : (bits at : ℕ) (xs : List ℕ) → at + 16 ≤ length xs
    → length (blank_part bits at xs) ≡ 16
length-blank_part bits at xs room =
    let test : List Bool =
    zip2 (λ (a b : ℕ). a == b) (zip2 bit_and (replicate 16 bits) weights) (replicate 16 0) in
    let long : length (chunk at 16 xs) ≡ 16 = length-chunk at 16 xs room in
    ap length (blank_part_is bits at xs)
    ∙ length-sel_l test (chunk at 16 xs) (replicate 16 0) (sym long) refl

get_or-blank_part : (bits at : ℕ) (xs : List ℕ) → at + 16 ≤ length xs → (k : ℕ) → k < 16
    → get_or (blank_part bits at xs) k 0 ≡ (if bit_at bits k == 1 then 0 else get_or xs (at + k) 0)
get_or-blank_part bits at xs room k lt =
    let t : ℕ → ℕ → Bool = λ a b. a == b in
    let ands : List ℕ = zip2 bit_and (replicate 16 bits) weights in
    let test : List Bool = zip2 t ands (replicate 16 0) in
    let long : length (chunk at 16 xs) ≡ 16 = length-chunk at 16 xs room in
    let lane : get_or ands k 0 ≡ bit_at bits k * 2 ^ k =
    get_or-zip2 bit_and (replicate 16 bits) weights k 0 0 0 lt lt
    ∙ (λ i. bit_and (get_or-replicate 16 k bits 0 lt i) (get_or-weights k lt i))
    ∙ and_pow bits k in
    ap (λ (ys : List ℕ). get_or ys k 0) (blank_part_is bits at xs)
    ∙ get_or-sel_l test (chunk at 16 xs) (replicate 16 0) k 0 lt (omega arith) lt
    ∙ (λ i. cond (get_or-zip2 t ands (replicate 16 0) k 0 0 false lt lt i)
    (get_or-chunk at 16 xs k 0 lt i) (get_or-replicate 16 k 0 0 lt i))
    ∙ (λ i. cond (lane i == get_or-replicate 16 k 0 0 lt i) (get_or xs (at + k) 0) 0)
    ∙ kept_lane (bit_at bits k) (2 ^ k) (get_or xs (at + k) 0) (bit_at-lt bits k) (pow_pos k)

pub blank_inside : (bits at : ℕ) (xs : List ℕ) → at + 16 ≤ length xs → (k : ℕ) → k < 16
    → get_or (put_chunk at xs (blank_part bits at xs)) (at + k) 0
    ≡ (if bit_at bits k == 1 then 0 else get_or xs (at + k) 0)
blank_inside bits at xs room k lt =
    let long = length-blank_part bits at xs room in
    get_or-put_chunk_at at xs (blank_part bits at xs) k 0 (omega arith) (omega arith)
    ∙ get_or-blank_part bits at xs room k lt

pub blank_behind : (bits at : ℕ) (xs : List ℕ) → at + 16 ≤ length xs → (k : ℕ) → at + 16 ≤ k
    → get_or (put_chunk at xs (blank_part bits at xs)) k 0 ≡ get_or xs k 0
blank_behind bits at xs room k le =
    let long = length-blank_part bits at xs room in
    get_or-put_chunk_above at xs (blank_part bits at xs) k 0 (omega arith)

pub blank_before : (bits at : ℕ) (xs : List ℕ) (k : ℕ) → k < at
    → get_or (put_chunk at xs (blank_part bits at xs)) k 0 ≡ get_or xs k 0
blank_before bits at xs k lt = get_or-put_chunk_below at xs (blank_part bits at xs) k 0 lt

-- three words of a number
low_word : (bits k : ℕ) → k < 16 → bit_at (bits % 65536) k ≡ bit_at bits k
low_word bits k lt =
    sym (bit_at_cat_low (bits / 2 ^ 16) 16 (bits % 2 ^ 16) k lt)
    ∙ ap (λ (m : ℕ). bit_at m k) (shr_split bits 16)

-- what is blanked at numbers 0, 16 and 32 in turn
pub record IsBlankedAt (bits at : ℕ) (xs ys : List ℕ) : Type 0 where
  pub inside : (k : ℕ) → k < 16
      → get_or ys (at + k) 0 ≡ (if bit_at bits k == 1 then 0 else get_or xs (at + k) 0)
  pub before : (k : ℕ) → k < at → get_or ys k 0 ≡ get_or xs k 0
  pub behind : (k : ℕ) → at + 16 ≤ k → get_or ys k 0 ≡ get_or xs k 0

pub three_blanked : (bits : ℕ) (xs first second now : List ℕ)
    → IsBlankedAt (bits % 65536) 0 xs first → IsBlankedAt (bits / 65536 % 65536) 16 first second
    → IsBlankedAt (bits / 65536 / 65536 % 65536) 32 second now
    → (k : ℕ) → k < 48 → get_or now k 0 ≡ (if bit_at bits k == 1 then 0 else get_or xs k 0)
three_blanked bits xs first second now a b c k lt = elim (cases_lt k 16) [
  | inl low ↦
      let e : 0 + k ≡ k = omega arith in
      c.before k (omega arith) ∙ b.before k (omega arith)
      ∙ subst (λ (j : ℕ). get_or first j 0 ≡ (if bit_at bits k == 1 then 0 else get_or xs j 0)) e
      (a.inside k low
      ∙ ap (λ (d : ℕ). if d == 1 then 0 else get_or xs (0 + k) 0) (low_word bits k low))
  | inr ge ↦ elim (cases_lt k 32) [
    | inl low ↦
        let j : ℕ = k - 16 in
        let e : 16 + j ≡ k = omega arith in
        let under : j < 16 = omega arith in
        c.before k low
        ∙ subst
        (λ (i : ℕ). get_or second i 0 ≡ (if bit_at bits i == 1 then 0 else get_or first i 0)) e
        (b.inside j under
        ∙ ap (λ (d : ℕ). if d == 1 then 0 else get_or first (16 + j) 0)
        (low_word (bits / 65536) j under ∙ bit_of_lowered bits 16 j))
        ∙ ap (λ (x : ℕ). if bit_at bits k == 1 then 0 else x) (a.behind k (omega arith))
    | inr ge1 ↦
        let j : ℕ = k - 32 in
        let e : 32 + j ≡ k = omega arith in
        let under : j < 16 = omega arith in
        let far : 16 + (16 + j) ≡ 32 + j = omega arith in
        subst (λ (i : ℕ). get_or now i 0 ≡ (if bit_at bits i == 1 then 0 else get_or second i 0)) e
        (c.inside j under ∙ ap (λ (d : ℕ). if d == 1 then 0 else get_or second (32 + j) 0)
        (low_word (bits / 65536 / 65536) j under ∙ bit_of_lowered (bits / 65536) 16 j
        ∙ bit_of_lowered bits 16 (16 + j) ∙ ap (bit_at bits) far))
        ∙ ap (λ (x : ℕ). if bit_at bits k == 1 then 0 else x)
        (b.behind k (omega arith) ∙ a.behind k (omega arith))
  ]
]

-- ---- groups that are contested

get_or-blanked_from : (mask i : ℕ) (vs : List ℕ) (k : ℕ) → k < length vs
    → get_or (blanked_from mask i vs) k 0 ≡ (if bit_at mask (i + k) == 1 then 0 else get_or vs k 0)
get_or-blanked_from mask i [] k lt = absurd (omega arith)
get_or-blanked_from mask i (v ∷ vs) zero lt = let e : i ≡ i + 0 =
    omega arith in ap (λ (j : ℕ). if bit_at mask j == 1 then 0 else v) e
get_or-blanked_from mask i (v ∷ vs) (suc k) lt =
    let e : i + 1 + k ≡ i + suc k = omega arith in
    get_or-blanked_from mask (i + 1) vs k (omega arith)
    ∙ ap (λ (j : ℕ). if bit_at mask j == 1 then 0 else get_or vs k 0) e

-- a group's samples stand within those of all groups
group_within : (samples count group groups : ℕ) → count ≡ samples * groups → group < groups
    → samples * group + samples ≤ count
group_within samples count group groups is lt =
    let le : samples * (group + 1) ≤ samples * groups =
    mul-le-mul_left samples (let up : group + 1 ≤ groups = omega arith in up) in
    omega (arith, times_next samples group)

-- whether sample i of a group differs, by the bits of all
group_differs : (samples differ group i : ℕ) (vs ws left right : List ℕ)
    → samples * group + samples ≤ length vs → length ws ≡ length vs → length vs ≤ 48
    → ((k : ℕ) → k < 48 → bit_at differ k ≡ differs_at (vs ++ left) (ws ++ right) k)
    → (if nat_lt i samples then bit_at differ (samples * group + i) else 0)
    ≡ differs_at (samples_of samples group vs) (samples_of samples group ws) i
group_differs samples differ group i vs ws left right room long few bits =
    elim (cases_lt i samples) [
      | inl lt ↦
          let k : ℕ = samples * group + i in
          let k_lt : k < length vs = omega arith in
          ap (λ (t : Bool). if t then bit_at differ k else 0) (lt-ltb i samples lt)
          ∙ bits k (omega arith)
          ∙ (λ j. if get_or_append_left vs left 0 k k_lt j == get_or_append_left ws right 0 k
          (omega arith) j then 0 else 1)
          ∙ (λ j. if sym (get_or-chunk (samples * group) samples vs i 0 lt) j == sym
          (get_or-chunk (samples * group) samples ws i 0 lt) j then 0 else 1)
      | inr ge ↦
          let short : length (samples_of samples group vs) ≡ samples =
          length-chunk (samples * group) samples vs room in
          let short1 : length (samples_of samples group ws) ≡ samples =
          length-chunk (samples * group) samples ws (omega arith) in
          ap (λ (t : Bool). if t then bit_at differ (samples * group + i) else 0)
          (not_below i samples ge)
          ∙ sym
          (ap (λ (t : Bool). if t then 0 else 1)
          (eq-eqb (get_or (samples_of samples group vs) i 0)
          (get_or (samples_of samples group ws) i 0)
          (past (samples_of samples group vs) i (omega arith)
          ∙ sym (past (samples_of samples group ws) i (omega arith)))))
    ]

pub few_contested : (samples count : ℕ) (vs ws left right marks new_marks now new : List ℕ)
    (differ bits : ℕ)
    → count ≡ samples * length marks → count ≤ 48 → length vs ≡ count → length ws ≡ count
    → length now ≡ 48
    → ((k : ℕ) → k < 48 → bit_at differ k ≡ differs_at (vs ++ left) (ws ++ right) k)
    → ((group : ℕ) → group < length marks → (i : ℕ)
    → bit_at (get_or new_marks group 0) i
    ≡ max (bit_at (get_or marks group 0) i)
    (if nat_lt i samples then bit_at differ (samples * group + i) else 0))
    → ((group : ℕ) → group < length marks → (i : ℕ) → i < samples
    → bit_at bits (samples * group + i) ≡ bit_at (get_or new_marks group 0) i)
    → ((k : ℕ) → k < 48
    → get_or now k 0 ≡ (if bit_at bits k == 1 then 0 else get_or (vs ++ left) k 0))
    → take count now ≡ new
    → AreContested samples vs ws marks new_marks new
few_contested samples count vs ws left right marks new_marks now new differ bits counted few long
    long1 now_long differ_is marked gathered blank packed =
    let new_long : length new ≡ count =
    sym (ap length packed) ∙ length-take-le count now (omega arith) in
    record {
      bits = λ group lt i.
          let room : samples * group + samples ≤ count =
          group_within samples count group (length marks) counted lt in
          marked group lt i
          ∙ ap (max (bit_at (get_or marks group 0) i))
          (group_differs samples differ group i vs ws left right (omega arith) (omega arith)
          (omega arith) differ_is);
      blank = λ group lt.
          let room : samples * group + samples ≤ count =
          group_within samples count group (length marks) counted lt in
          let mark : ℕ = get_or new_marks group 0 in
          let old : List ℕ = samples_of samples group vs in
          let old_long : length old ≡ samples =
          length-chunk (samples * group) samples vs (omega arith) in
          let long2 : length (samples_of samples group new) ≡ samples =
          length-chunk (samples * group) samples new (omega arith) in
          ext_get_or 0 (samples_of samples group new) (blanked_samples mark old)
          (long2 ∙ sym (length-blanked_from mark 0 old ∙ old_long)) (λ i below.
          let lt1 : i < samples = omega arith in
          let k : ℕ = samples * group + i in
          let e : 0 + i ≡ i = omega arith in
          get_or-chunk (samples * group) samples new i 0 lt1
          ∙ sym (ap (λ (xs : List ℕ). get_or xs k 0) packed)
          ∙ get_or-take count now k 0 (omega arith)
          ∙ blank k (omega arith)
          ∙ ap (λ (x : ℕ). if bit_at bits k == 1 then 0 else x)
          (get_or_append_left vs left 0 k (omega arith))
          ∙ ap (λ (b : ℕ). if b == 1 then 0 else get_or vs k 0) (gathered group lt i lt1)
          ∙ sym
          (get_or-blanked_from mark 0 old i (omega arith)
          ∙ (λ j. if bit_at mark (e j) == 1 then 0
          else get_or-chunk (samples * group) samples vs i 0 lt1 j)));
    }

-- ---- groups in two parts

samples_first : (samples group : ℕ) (vs ws : List ℕ) → samples * group + samples ≤ length vs
    → samples_of samples group (vs ++ ws) ≡ samples_of samples group vs
samples_first samples group vs ws room =
    ap (take samples) (drop-append-le (samples * group) vs ws (omega arith))
    ∙ take-append-le samples (drop (samples * group) vs) ws
    (omega (arith, length-drop (samples * group) vs))

samples_second : (samples first group : ℕ) (vs ws : List ℕ) → length vs ≡ samples * first
    → first ≤ group → samples_of samples group (vs ++ ws) ≡ samples_of samples (group - first) ws
samples_second samples first group vs ws long le =
    let at : samples * group ≡ samples * first + samples * (group - first) =
    ap (λ (g : ℕ). samples * g) (let e : group ≡ first + (group - first) = omega arith in e)
    ∙ mul-add samples first (group - first) in
    ap (take samples)
    (ap (λ (k : ℕ). drop k (vs ++ ws))
    (at ∙ ap (λ (k : ℕ). k + samples * (group - first)) (sym long))
    ∙ drop-append-add vs ws (samples * (group - first)))

pub AreContested-append : (samples : ℕ)
    (vs1 ws1 marks1 new_marks1 new1 vs2 ws2 marks2 new_marks2 new2 : List ℕ)
    → length vs1 ≡ samples * length marks1 → length ws1 ≡ samples * length marks1
    → length new1 ≡ samples * length marks1 → length new_marks1 ≡ length marks1
    → AreContested samples vs1 ws1 marks1 new_marks1 new1
    → AreContested samples vs2 ws2 marks2 new_marks2 new2
    → AreContested samples (vs1 ++ vs2) (ws1 ++ ws2) (marks1 ++ marks2) (new_marks1 ++ new_marks2)
    (new1 ++ new2)
AreContested-append samples vs1 ws1 marks1 new_marks1 new1 vs2 ws2 marks2 new_marks2 new2 vs_long
    ws_long new_long marks_long a b =
    let first : ℕ = length marks1 in
    record {
      bits = λ group lt i. elim (cases_lt group first) [
        | inl below ↦
            let room = group_within samples (samples * first) group first refl below in
            (λ j. bit_at (get_or_append_left new_marks1 new_marks2 0 group (omega arith) j) i)
            ∙ a.bits group below i
            ∙ (λ j. max (bit_at (sym (get_or_append_left marks1 marks2 0 group below) j) i)
            (differs_at (sym (samples_first samples group vs1 vs2 (omega arith)) j)
            (sym (samples_first samples group ws1 ws2 (omega arith)) j) i))
        | inr from ↦
            let rest : group - first < length marks2 = omega (arith, length-append marks1 marks2) in
            (λ j. bit_at
            (get_or-append_right new_marks1 new_marks2 first group 0 marks_long from j) i)
            ∙ b.bits (group - first) rest i
            ∙ (λ j. max
            (bit_at (sym (get_or-append_right marks1 marks2 first group 0 refl from) j) i)
            (differs_at (sym (samples_second samples first group vs1 vs2 vs_long from) j)
            (sym (samples_second samples first group ws1 ws2 ws_long from) j) i))
      ];
      blank = λ group lt. elim (cases_lt group first) [
        | inl below ↦
            let room = group_within samples (samples * first) group first refl below in
            samples_first samples group new1 new2 (omega arith) ∙ a.blank group below
            ∙ (λ j. blanked_samples
            (sym (get_or_append_left new_marks1 new_marks2 0 group (omega arith)) j)
            (sym (samples_first samples group vs1 vs2 (omega arith)) j))
        | inr from ↦
            let rest : group - first < length marks2 = omega (arith, length-append marks1 marks2) in
            samples_second samples first group new1 new2 new_long from
            ∙ b.blank (group - first) rest
            ∙ (λ j. blanked_samples
            (sym (get_or-append_right new_marks1 new_marks2 first group 0 marks_long from) j)
            (sym (samples_second samples first group vs1 vs2 vs_long from) j))
      ];
    }

pub group_agrees : (s : Sampling) (d : Depth)
    → 8 * (pixel_group s d).octets ≡ bits_of d * (pixel_group s d).samples
group_agrees Ycc422 D8 = refl
group_agrees Ycc422 D10 = refl
group_agrees Ycc422 D12 = refl
group_agrees Ycc422 D16 = refl
group_agrees Ycc444 D8 = refl
group_agrees Ycc444 D10 = refl
group_agrees Ycc444 D12 = refl
group_agrees Ycc444 D16 = refl
group_agrees Rgb D8 = refl
group_agrees Rgb D10 = refl
group_agrees Rgb D12 = refl
group_agrees Rgb D16 = refl

some_bits : (d : Depth) → 0 < bits_of d
some_bits D8 = omega arith
some_bits D10 = omega arith
some_bits D12 = omega arith
some_bits D16 = omega arith

-- how many samples a group has
pub sample_bounds : (s : Sampling) (d : Depth)
    → (0 < (pixel_group s d).samples) × ((pixel_group s d).samples ≤ 12)
sample_bounds Ycc422 D8 = (omega arith, omega arith)
sample_bounds Ycc422 D10 = (omega arith, omega arith)
sample_bounds Ycc422 D12 = (omega arith, omega arith)
sample_bounds Ycc422 D16 = (omega arith, omega arith)
sample_bounds Ycc444 D8 = (omega arith, omega arith)
sample_bounds Ycc444 D10 = (omega arith, omega arith)
sample_bounds Ycc444 D12 = (omega arith, omega arith)
sample_bounds Ycc444 D16 = (omega arith, omega arith)
sample_bounds Rgb D8 = (omega arith, omega arith)
sample_bounds Rgb D10 = (omega arith, omega arith)
sample_bounds Rgb D12 = (omega arith, omega arith)
sample_bounds Rgb D16 = (omega arith, omega arith)

-- octets of whole groups beside the first of the samples that lie in a list
pub first_samples : (s : Sampling) (d depth : Depth) (samples : ℕ) (octets marks xs : List ℕ)
    → depth ≡ d → samples ≡ (pixel_group s d).samples
    → length octets ≡ (pixel_group s d).octets * length marks → samples * length marks ≤ length xs
    → 8 * length octets ≡ bits_of depth * length (take (samples * length marks) xs)
first_samples s d depth samples octets marks xs same count long few =
    let k : ℕ = length marks in
    let group : ℕ = (pixel_group s d).samples in
    ap (λ (n : ℕ). 8 * n) long ∙ sym (mul_assoc 8 (pixel_group s d).octets k)
    ∙ ap (λ (n : ℕ). n * k) (group_agrees s d) ∙ mul_assoc (bits_of d) group k
    ∙ ap (λ (n : ℕ). bits_of d * (n * k)) (sym count)
    ∙ ap (λ (e : Depth). bits_of e * (samples * k)) (sym same)
    ∙ ap (λ (n : ℕ). bits_of depth * n) (sym (length-take-le (samples * k) xs few))

-- the values of groups in two parts
values_of_parts : (s : Sampling) (d : Depth) (octets others : List ℕ) (k l : ℕ)
    → length octets ≡ (pixel_group s d).octets * k → length others ≡ (pixel_group s d).octets * l
    → values_in (bits_of d) (octets ++ others)
    ≡ values_in (bits_of d) octets ++ values_in (bits_of d) others
values_of_parts s d octets others k l long long1 =
    let n : ℕ = bits_of d in
    let size : ℕ = (pixel_group s d).octets in
    let samples : ℕ = (pixel_group s d).samples in
    let bits : (groups : ℕ) → 8 * (size * groups) ≡ n * (samples * groups) =
    λ groups. sym (mul_assoc 8 size groups) ∙ ap (λ (x : ℕ). x * groups) (group_agrees s d)
    ∙ mul_assoc n samples groups in
    values_in-append n (samples * k) (samples * l) octets others (some_bits d)
    (ap (λ (x : ℕ). 8 * x) long ∙ bits k) (ap (λ (x : ℕ). 8 * x) long1 ∙ bits l)

pub length-group_values : (s : Sampling) (d : Depth) (octets : List ℕ) (k : ℕ)
    → length octets ≡ (pixel_group s d).octets * k
    → length (values_in (bits_of d) octets) ≡ (pixel_group s d).samples * k
length-group_values s d octets k long =
    let n : ℕ = bits_of d in
    let size : ℕ = (pixel_group s d).octets in
    let samples : ℕ = (pixel_group s d).samples in
    length-values_in n octets ∙ ap (λ (x : ℕ). 8 * x / n) long
    ∙ ap (λ (x : ℕ). x / n)
    (sym (mul_assoc 8 size k) ∙ ap (λ (x : ℕ). x * k) (group_agrees s d)
    ∙ mul_assoc n samples k) ∙ mul-div_cancel_left (samples * k) (some_bits d)

-- the octets of all groups behind the first four
pub other_octets : (size : ℕ) (octets a b marks l m : List ℕ) → octets ≡ a ++ b → marks ≡ l ++ m
    → length octets ≡ size * length marks → length a ≡ size * 4 → length l ≡ 4
    → length b ≡ size * length m
other_octets size octets a b marks l m is_octets is_marks long long_a long_l =
    let sum : size * length marks ≡ size * 4 + size * length m =
    ap (λ (k : ℕ). size * k)
    (ap length is_marks ∙ length-append l m ∙ ap (λ (k : ℕ). k + length m) long_l)
    ∙ mul-add size 4 (length m) in
    omega (arith, long, long_a, sum, ap length is_octets ∙ length-append a b)

-- more samples than are compared at once are of four groups at least
pub many_groups : (s : Sampling) (d : Depth) (samples groups : ℕ)
    → samples ≡ (pixel_group s d).samples → 48 < samples * groups → 4 ≤ groups
many_groups s d samples groups same many = elim (cases_lt groups 4) [
  | inl few ↦ omega (
    arith,
    many,
    mul-le samples groups 12 3
        (subst (λ (n : ℕ). n ≤ 12) (sym same) (sample_bounds s d).1) (omega arith),
  )
  | inr all ↦ all
]

-- groups of which the first four and the others were contested apart
pub parts_contested : (s : Sampling) (d : Depth)
    (octets a b others p q marks l m new_a new_b new_l new_m : List ℕ)
    → octets ≡ a ++ b → others ≡ p ++ q → marks ≡ l ++ m
    → length octets ≡ (pixel_group s d).octets * length marks → length others ≡ length octets
    → length a ≡ (pixel_group s d).octets * 4 → length p ≡ length a → length l ≡ 4
    → length new_a ≡ length a → length new_b ≡ length b → length new_l ≡ length l
    → AreContested (pixel_group s d).samples (values_in (bits_of d) a) (values_in (bits_of d) p)
    l new_l (values_in (bits_of d) new_a)
    → AreContested (pixel_group s d).samples (values_in (bits_of d) b) (values_in (bits_of d) q)
    m new_m (values_in (bits_of d) new_b)
    → AreContested (pixel_group s d).samples (values_in (bits_of d) octets)
    (values_in (bits_of d) others) marks (new_l ++ new_m) (values_in (bits_of d) (new_a ++ new_b))
parts_contested s d octets a b others p q marks l m new_a new_b new_l new_m is_octets is_others
    is_marks long alike long_a long_p long_l new_long_a new_long_b new_long_l first second =
    let n : ℕ = bits_of d in
    let size : ℕ = (pixel_group s d).octets in
    let samples : ℕ = (pixel_group s d).samples in
    let long_b : length b ≡ size * length m =
    other_octets size octets a b marks l m is_octets is_marks long long_a long_l in
    let long_q : length q ≡ size * length m =
    other_octets size others p q marks l m is_others is_marks (alike ∙ long) (long_p ∙ long_a)
    long_l in
    let by_four : samples * 4 ≡ samples * length l =
    ap (λ (k : ℕ). samples * k) (sym long_l) in
    let both : AreContested samples (values_in n a ++ values_in n b)
    (values_in n p ++ values_in n q) (l ++ m) (new_l ++ new_m)
    (values_in n new_a ++ values_in n new_b) =
    AreContested-append samples (values_in n a) (values_in n p) l new_l (values_in n new_a)
    (values_in n b) (values_in n q) m new_m (values_in n new_b)
    (length-group_values s d a 4 long_a ∙ by_four)
    (length-group_values s d p 4 (long_p ∙ long_a) ∙ by_four)
    (length-group_values s d new_a 4 (new_long_a ∙ long_a) ∙ by_four)
    new_long_l first second in
    let vs : values_in n a ++ values_in n b ≡ values_in n octets =
    sym (ap (values_in n) is_octets ∙ values_of_parts s d a b 4 (length m) long_a long_b) in
    let ws : values_in n p ++ values_in n q ≡ values_in n others =
    sym (ap (values_in n) is_others
    ∙ values_of_parts s d p q 4 (length m) (long_p ∙ long_a) long_q) in
    let new : values_in n new_a ++ values_in n new_b ≡ values_in n (new_a ++ new_b) =
    sym (values_of_parts s d new_a new_b 4 (length m) (new_long_a ∙ long_a)
    (new_long_b ∙ long_b)) in
    let now_marks : List ℕ = new_l ++ new_m in
    let now : List ℕ = values_in n (new_a ++ new_b) in
    subst (λ (xs : List ℕ). AreContested samples xs (values_in n others) marks now_marks now) vs
    (subst (λ (xs : List ℕ). AreContested samples (values_in n a ++ values_in n b) xs marks
    now_marks now) ws
    (subst (λ (xs : List ℕ). AreContested samples (values_in n a ++ values_in n b)
    (values_in n p ++ values_in n q) xs now_marks now) (sym is_marks)
    (subst (λ (xs : List ℕ). AreContested samples (values_in n a ++ values_in n b)
    (values_in n p ++ values_in n q) (l ++ m) now_marks xs) new both)))
