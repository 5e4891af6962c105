-- Flags that are kept as bits of words.
use Rattle.std.proofs.Common.{◌≡◌, ℕ, zero, suc, ◌*◌, ◌/◌, ◌%◌, ◌^◌, ◌<◌, ◌≤◌, max, Bool, true}
use Rattle.std.proofs.Common.{false, ◌==◌, ◌||◌, List, ◌++◌, length, get_or, set, take, drop}
use Rattle.std.proofs.Common.{replicate, bit_or, refl, sym, ap, ◌∙◌, inl, inr, arith, w64}
use Rattle.std.specs.Int.{bit_at}
use Rattle.std.specs.List.{zip}
use Rattle.std.proofs.lemmas.Bool.{eq-eqb, ne_eqb, cases_eq, cases_lt}
use Rattle.std.proofs.lemmas.List.{same_lists, length-map, length-set, length-replicate}
use Rattle.std.proofs.lemmas.List.{get_or-replicate, get_or-set_same, get_or-set_other, get_or-map}
use Rattle.std.proofs.lemmas.List.{get_or_past, take_at}
use Rattle.std.proofs.lemmas.List.FromFn.{length-map-range_with_len, get_or-map-range_with_len}
use Rattle.std.proofs.lemmas.Slice.Zip.{length-zip, get_or-zip}
use Rattle.std.proofs.lemmas.Nat.Bits.{bit_at-zero, bit_at_or, bit_at-lt, bit_at_set_same}
use Rattle.std.proofs.lemmas.Nat.Bits.{bit_at_set_other}
use Rattle.packet_numbers.specs.BitList.{flag_at, flags_of, union_of_flags}

pub length-flags_of : (words : List ℕ) (count : ℕ) → length (flags_of words count) ≡ count
length-flags_of words count = length-map-range_with_len (flag_at words) 0 count

pub get_or-flags_of : (words : List ℕ) (count k : ℕ) (d : Bool) → k < count
    → get_or (flags_of words count) k d ≡ flag_at words k
get_or-flags_of words count k d below =
    get_or-map-range_with_len (flag_at words) 0 count k k d below (omega arith)

-- ---- none is set

zero_at : (n i : ℕ) → get_or {A = ℕ} (replicate n 0) i 0 ≡ 0
zero_at n i = elim (cases_lt i n) [
  | inl lt ↦ get_or-replicate {A = ℕ} n i 0 0 lt
  | inr ge ↦ get_or_past {X = ℕ} (replicate n 0) i 0 (omega (arith, length-replicate {A = ℕ} n 0))
]

none_set : (n k : ℕ) → flag_at (replicate n 0) k ≡ false
none_set n k =
    ap (λ (w : ℕ). bit_at w (k % 64) == 1) (zero_at n (k / 64))
    ∙ ap (λ (b : ℕ). b == 1) (bit_at-zero (k % 64))

pub flags_of-none : (n count : ℕ) → flags_of (replicate n 0) count ≡ replicate count false
flags_of-none n count =
    same_lists (flags_of (replicate n 0) count) (replicate count false)
    (length-flags_of (replicate n 0) count ∙ sym (length-replicate count false)) (λ k d below.
    let within : k < count = omega (arith, length-flags_of (replicate n 0) count) in
    get_or-flags_of (replicate n 0) count k d within ∙ none_set n k
    ∙ sym (get_or-replicate count k false d within))

-- ---- one is set

abbrev set_in : List ℕ → ℕ → List ℕ
set_in words place =
    set words (place / 64) (bit_or (get_or words (place / 64) 0) (1 * 2 ^ (place % 64) % 2 ^ 64))

pub flag_at_set : (words : List ℕ) (place k : ℕ) → place < 64 * length words
    → flag_at (set_in words place) k ≡ (k == place || flag_at words k)
flag_at_set words place k within =
    let w : ℕ = place / 64 in
    let i : ℕ = place % 64 in
    let lt : w < length words = omega arith in
    let bit : i < 64 = omega arith in
    let old : ℕ = get_or words w 0 in
    let new : ℕ = bit_or old (1 * 2 ^ i % 2 ^ 64) in
    elim (cases_eq (k / 64) w) [
      | inl same ↦
          let read : get_or (set words w new) (k / 64) 0 ≡ new =
          ap (λ (x : ℕ). get_or (set words w new) x 0) same
          ∙ get_or-set_same words w new 0 lt in
          let as_new : flag_at (set_in words place) k ≡ (bit_at new (k % 64) == 1) =
          ap (λ (x : ℕ). bit_at x (k % 64) == 1) read in
          elim (cases_eq (k % 64) i) [
            | inl here ↦
                let is : k ≡ place = omega arith in
                as_new ∙ ap (λ (x : ℕ). bit_at new x == 1) here
                ∙ ap (λ (x : ℕ). x == 1) (bit_at_set_same w64 old i bit)
                ∙ ap (λ (b : Bool). b || flag_at words k) (sym (eq-eqb k place is))
            | inr there ↦
                let is : k ≡ place → ⊥ = λ (e : k ≡ place). there (ap (λ (x : ℕ). x % 64) e) in
                as_new ∙ ap (λ (x : ℕ). x == 1) (bit_at_set_other w64 old i bit (k % 64) there)
                ∙ ap (λ (x : ℕ). bit_at (get_or words x 0) (k % 64) == 1) (sym same)
                ∙ ap (λ (b : Bool). b || flag_at words k) (sym (ne_eqb k place is))
          ]
      | inr other ↦
          let is : k ≡ place → ⊥ = λ (e : k ≡ place). other (ap (λ (x : ℕ). x / 64) e) in
          ap (λ (x : ℕ). bit_at x (k % 64) == 1) (get_or-set_other words w (k / 64) new 0 other)
          ∙ ap (λ (b : Bool). b || flag_at words k) (sym (ne_eqb k place is))
    ]

pub flags_of_set : (words news : List ℕ) (count place : ℕ) → place < count
    → ((k : ℕ) → flag_at news k ≡ (k == place || flag_at words k))
    → flags_of news count ≡ set (flags_of words count) place true
flags_of_set words news count place below is =
    let long : length (set (flags_of words count) place true) ≡ count =
    length-set (flags_of words count) place true ∙ length-flags_of words count in
    same_lists (flags_of news count) (set (flags_of words count) place true)
    (length-flags_of news count ∙ sym long) (λ k d lt.
    let within : k < count = omega (arith, length-flags_of news count) in
    let room : place < length (flags_of words count) = omega (arith, length-flags_of words count) in
    let at : get_or (flags_of news count) k d ≡ (k == place || flag_at words k) =
    get_or-flags_of news count k d within ∙ is k in
    elim (cases_eq k place) [
      | inl e ↦ at ∙ ap (λ (b : Bool). b || flag_at words k) (eq-eqb k place e)
          ∙ sym
          (ap (λ (x : ℕ). get_or (set (flags_of words count) place true) x d) e
          ∙ get_or-set_same (flags_of words count) place true d room)
      | inr ne ↦ at ∙ ap (λ (b : Bool). b || flag_at words k) (ne_eqb k place ne)
          ∙ sym
          (get_or-set_other (flags_of words count) place k true d ne
          ∙ get_or-flags_of words count k d within)
    ])

-- ---- a word at a time

either_bit : (a b : ℕ) → a < 2 → b < 2 → (max a b == 1) ≡ (a == 1 || b == 1)
either_bit zero zero la lb = refl
either_bit zero (suc zero) la lb = refl
either_bit (suc zero) zero la lb = refl
either_bit (suc zero) (suc zero) la lb = refl
either_bit zero (suc (suc b)) la lb = absurd (omega arith)
either_bit (suc zero) (suc (suc b)) la lb = absurd (omega arith)
either_bit (suc (suc a)) b la lb = absurd (omega arith)

pub flag_at_or : (words others news : List ℕ) (k : ℕ)
    → get_or news (k / 64) 0 ≡ bit_or (get_or words (k / 64) 0) (get_or others (k / 64) 0)
    → flag_at news k ≡ (flag_at words k || flag_at others k)
flag_at_or words others news k e =
    let a : ℕ = get_or words (k / 64) 0 in
    let b : ℕ = get_or others (k / 64) 0 in
    ap (λ (x : ℕ). bit_at x (k % 64) == 1) e ∙ ap (λ (x : ℕ). x == 1) (bit_at_or a b (k % 64))
    ∙ either_bit (bit_at a (k % 64)) (bit_at b (k % 64)) (bit_at-lt a (k % 64))
    (bit_at-lt b (k % 64))

pub length-union : (xs ys : List Bool) → length xs ≡ length ys
    → length (union_of_flags xs ys) ≡ length xs
length-union xs ys e =
    length-map (zip xs ys) (λ p. p.0 || p.1) ∙ (let n = length-zip xs ys in omega (arith, n))

pub get_or-union : (xs ys : List Bool) (k : ℕ) (d : Bool) → length xs ≡ length ys → k < length xs
    → get_or (union_of_flags xs ys) k d ≡ (get_or xs k d || get_or ys k d)
get_or-union xs ys k d e lt =
    let n = length-zip xs ys in
    get_or-map (λ (p : Bool × Bool). p.0 || p.1) (zip xs ys) k (d, d) d (omega (arith, n))
    ∙ ap (λ (p : Bool × Bool). p.0 || p.1) (get_or-zip xs ys k (d, d) lt (omega arith))

pub flags_of_union : (words others news : List ℕ) (count : ℕ)
    → ((k : ℕ) → k < count → flag_at news k ≡ (flag_at words k || flag_at others k))
    → flags_of news count ≡ union_of_flags (flags_of words count) (flags_of others count)
flags_of_union words others news count is =
    let xs : List Bool = flags_of words count in
    let ys : List Bool = flags_of others count in
    let alike : length xs ≡ length ys =
    length-flags_of words count ∙ sym (length-flags_of others count) in
    same_lists (flags_of news count) (union_of_flags xs ys)
    (length-flags_of news count ∙ sym (length-union xs ys alike ∙ length-flags_of words count))
    (λ k d lt.
    let within : k < count = omega (arith, length-flags_of news count) in
    get_or-flags_of news count k d within ∙ is k within
    ∙ sym (get_or-union xs ys k d alike (omega (arith, length-flags_of words count))
    ∙ ap (λ (b : Bool). b || get_or ys k d) (get_or-flags_of words count k d within)
    ∙ ap (λ (b : Bool). flag_at words k || b) (get_or-flags_of others count k d within)))

-- ---- through the vector that keeps the words

back : (len : ℕ) (items new : List ℕ) → length new ≡ len
    → take len (new ++ drop (length new) items) ≡ new
back len items new long = take_at new (drop (length new) items) len long

pub set_back : (len count place : ℕ) (view : List Bool) (items cells new : List ℕ)
    → flags_of items count ≡ view → cells ≡ items → length new ≡ len → place < length view
    → ((k : ℕ) → flag_at new k ≡ (k == place || flag_at cells k))
    → flags_of (take len (new ++ drop (length new) items)) count ≡ set view place true
set_back len count place view items cells new is_view same long below is =
    let n : length view ≡ count = ap length (sym is_view) ∙ length-flags_of items count in
    ap (λ (ws : List ℕ). flags_of ws count) (back len items new long)
    ∙ flags_of_set items new count place (omega arith)
    (λ k. is k ∙ ap (λ (ws : List ℕ). k == place || flag_at ws k) same)
    ∙ ap (λ (xs : List Bool). set xs place true) is_view

pub union_back : (len count : ℕ) (view other : List Bool) (items cells others new : List ℕ)
    → flags_of items count ≡ view → flags_of others count ≡ other → cells ≡ items
    → length new ≡ len → count ≤ 64 * length items
    → ((k : ℕ) → k < 64 * length cells → flag_at new k ≡ (flag_at cells k || flag_at others k))
    → flags_of (take len (new ++ drop (length new) items)) count ≡ union_of_flags view other
union_back len count view other items cells others new is_view is_other same long room is =
    let e : length cells ≡ length items = ap length same in
    ap (λ (ws : List ℕ). flags_of ws count) (back len items new long)
    ∙ flags_of_union items others new count
    (λ k lt. is k (omega arith) ∙ ap (λ (ws : List ℕ). flag_at ws k || flag_at others k) same)
    ∙ ap (λ (xs : List Bool). union_of_flags xs (flags_of others count)) is_view
    ∙ ap (λ (xs : List Bool). union_of_flags view xs) is_other
