-- What is spelled is read again.
use Rattle.std.proofs.Common.{◌≡◌, ℕ, ◌^◌, ◌<◌, ◌≤◌, Bool, true, false, cond, not, ◌&&◌, List, []}
use Rattle.std.proofs.Common.{◌∷◌, ◌++◌, length, Some, None, refl, ap, ◌∙◌, sym, arith, rules, lit<}
use Rattle.std.specs.Prelude.{◌==◌, nat_le}
use Rattle.std.specs.List.{list_all}
use Rattle.std.specs.Char.{is_ascii_digit}
use Rattle.std.specs.Fmt.{decimal}
use Rattle.std.specs.Str.Parse.{digits_value}
use Rattle.std.proofs.lemmas.Bool.Decides.{nat_tests}
use Rattle.std.proofs.lemmas.Str.Parse.{IsNumeralModel, numerals_by_value}
use Rattle.std.proofs.lemmas.Fmt.{digits_decimal, digits_value-decimal, decimal_nonempty}
use Rattle.std.proofs.lemmas.Fmt.{length-decimal-le}
use Rattle.sdp_format.specs.Bytes.{is_space, trim_front, trim_end, unless_spaces, trimmed}
use Rattle.st_format.specs.Words.{number}
use Rattle.sdp_format.specs.Bytes.{front, behind, split}
use Rattle.st_format.specs.Words.{is_number}
use Rattle.st_format.proofs.Decimals.{and_parts}
use Rattle.sdp_format.proofs.Parts.{front_here, front_later, behind_here, behind_later}

pub own : IsNumeralModel (λ ds. list_all is_ascii_digit ds ≡ true) (digits_value 10)
own = numerals_by_value _ (search rules)

and_true : (a b : Bool) → a ≡ true → b ≡ true → (a && b) ≡ true
and_true a b e f = rw (e, f) refl

le_true : (m n : ℕ) → m ≤ n → nat_le m n ≡ true
le_true m n h = grind (arith, nat_tests)

-- a number as it is printed
pub number_decimal : (n : ℕ) → n < 2 ^ 32 → number (decimal n) ≡ Some n
unfolding number
number_decimal n small =
    let wide : n < 2 ^ 64 = omega arith in
    let value : digits_value 10 (decimal n) ≡ n = digits_value-decimal own n wide in
    let some : 0 < length (decimal n) = decimal_nonempty n wide in
    let few : length (decimal n) ≤ 10 = length-decimal-le 10 n (lit< tt) (omega arith) wide in
    let ok : is_number (decimal n) ≡ true =
    and_true (nat_le 1 (length (decimal n)) && nat_le (length (decimal n)) 10
    && list_all is_ascii_digit (decimal n)) (nat_le (digits_value 10 (decimal n)) 4294967295)
    (and_true (nat_le 1 (length (decimal n)) && nat_le (length (decimal n)) 10)
    (list_all is_ascii_digit (decimal n))
    (and_true (nat_le 1 (length (decimal n))) (nat_le (length (decimal n)) 10)
    (le_true 1 (length (decimal n)) (omega arith)) (le_true (length (decimal n)) 10 few))
    (digits_decimal own n wide))
    (le_true (digits_value 10 (decimal n)) 4294967295 (omega arith)) in
    ap (λ t. cond t (Some (digits_value 10 (decimal n))) None) ok ∙ ap Some value

-- Bytes that stand in a name or a value
abbrev pub is_word : ℕ → Bool
is_word b = not (is_space b) && not (b == 59)

pub not_true : (a : Bool) → not a ≡ true → a ≡ false
not_true true e = sym e
not_true false e = refl

pub trim_end_word : (xs : List ℕ) → list_all is_word xs ≡ true → trim_end xs ≡ xs
trim_end_word [] e = refl
trim_end_word (x ∷ xs) e =
    let h : (is_word x ≡ true) × (list_all is_word xs ≡ true) =
    and_parts (is_word x) (list_all is_word xs) e in
    let s : is_space x ≡ false =
    not_true (is_space x) (and_parts (not (is_space x)) (not (x == 59)) h.0).0 in
    ap (unless_spaces x) (trim_end_word xs h.1) ∙ unless_word x xs s
  where
    unless_word : (x : ℕ) (xs : List ℕ) → is_space x ≡ false → unless_spaces x xs ≡ x ∷ xs
    unless_word x [] s = rw s
    unless_word x (y ∷ ys) s = refl

trim_front_word : (xs : List ℕ) → list_all is_word xs ≡ true → trim_front xs ≡ xs
trim_front_word [] e = refl
trim_front_word (x ∷ xs) e =
    let h : (is_word x ≡ true) × (list_all is_word xs ≡ true) =
    and_parts (is_word x) (list_all is_word xs) e in
    let s : is_space x ≡ false =
    not_true (is_space x) (and_parts (not (is_space x)) (not (x == 59)) h.0).0 in
    rw s

pub trimmed_word : (xs : List ℕ) → list_all is_word xs ≡ true → trimmed xs ≡ xs
unfolding trimmed
trimmed_word xs e = ap trim_end (trim_front_word xs e) ∙ trim_end_word xs e

pub trimmed_space : (xs : List ℕ) → trimmed (32 ∷ xs) ≡ trimmed xs
unfolding trimmed
trimmed_space xs = refl

-- a text split at the semicolon behind words
pub split_word : (xs ys : List ℕ) → list_all (λ b. not (b == 59)) xs ≡ true
    → split 59 (xs ++ 59 ∷ ys) ≡ xs ∷ split 59 ys
split_word [] ys e = refl
split_word (x ∷ xs) ys e =
    let h : (not (x == 59) ≡ true) × (list_all (λ b. not (b == 59)) xs ≡ true) =
    and_parts (not (x == 59)) (list_all (λ b. not (b == 59)) xs) e in
    rw (not_true (x == 59) h.0, split_word xs ys h.1) refl

pub split_last : (xs : List ℕ) → list_all (λ b. not (b == 59)) xs ≡ true → split 59 xs ≡ xs ∷ []
split_last [] e = refl
split_last (x ∷ xs) e =
    let h : (not (x == 59) ≡ true) × (list_all (λ b. not (b == 59)) xs ≡ true) =
    and_parts (not (x == 59)) (list_all (λ b. not (b == 59)) xs) e in
    rw (not_true (x == 59) h.0, split_last xs h.1) refl

-- a text cut behind bytes that are not the one looked for
pub cut_at : (b : ℕ) (xs ys : List ℕ) → list_all (λ c. not (c == b)) xs ≡ true → (b == b) ≡ true
    → (front b (xs ++ b ∷ ys) ≡ xs) × (behind b (xs ++ b ∷ ys) ≡ Some ys)
cut_at b [] ys e r = (front_here b b ys r, behind_here b b ys r)
cut_at b (x ∷ xs) ys e r =
    let h : (not (x == b) ≡ true) × (list_all (λ c. not (c == b)) xs ≡ true) =
    and_parts (not (x == b)) (list_all (λ c. not (c == b)) xs) e in
    let n : (x == b) ≡ false = not_true (x == b) h.0 in
    let i : (front b (xs ++ b ∷ ys) ≡ xs) × (behind b (xs ++ b ∷ ys) ≡ Some ys) =
    cut_at b xs ys h.1 r in (
      front_later b x (xs ++ b ∷ ys) n ∙ ap (λ zs. x ∷ zs) i.0,
      behind_later b x (xs ++ b ∷ ys) n
          ∙ i.1,
    )
