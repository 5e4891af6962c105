-- Texts of decimal numbers and separators, taken apart again.
use Rattle.std.proofs.Common.{◌≡◌, ◌≢◌, ℕ, suc, ◌+◌, ◌^◌, ◌<◌, ◌≤◌, Bool, true, false, cond, ◌&&◌}
use Rattle.std.proofs.Common.{eqb, ltb, List, []}
use Rattle.std.proofs.Common.{◌∷◌, ◌++◌, length, get_or, take, drop, not, Option, Some, None}
use Rattle.std.proofs.Common.{append_assoc}
use Rattle.std.proofs.Common.{refl, sym, ap, ◌∙◌, lit<, arith, decimal}
use Rattle.std.specs.Int.{IsInRange}
use Rattle.std.specs.List.{AllByRecursion, list_all, onto_first, position_or_len}
use Rattle.std.specs.Str.Parse.{digits_value}
use Rattle.std.proofs.lemmas.Bool.{eq-eqb, eqb-false, lt-ltb, ne_eqb}
use Rattle.std.proofs.lemmas.Fmt.{decimal_nonempty, digits_decimal, digits_value-decimal}
use Rattle.std.proofs.lemmas.Fmt.{length-decimal-le}
use Rattle.std.proofs.lemmas.List.{drop_at, length-append, take_at}
use Rattle.std.proofs.lemmas.Str.Parse.{not_in_digits}
use Rattle.st_format.specs.Text.{parted}
use Rattle.st_format.specs.Words.{IsNumber, number}
use Rattle.st_format.proofs.Decimals.{digits, passes}
use Rattle.picture_forms.specs.Heads.{words}

-- a text without an octet
abbrev pub Without : ℕ → List ℕ → Type 0
Without c text = AllByRecursion (λ o. o ≢ c) text

pub without_both : (c : ℕ) (xs ys : List ℕ) → Without c xs → Without c ys → Without c (xs ++ ys)
without_both c [] ys p q = q
without_both c (x ∷ xs) ys p q = (p.0, without_both c xs ys p.1 q)

-- by a test
abbrev pub lacks : ℕ → List ℕ → Bool
lacks c text = list_all (λ o. not (eqb o c)) text

not_both : (a b : Bool) → (not a && b) ≡ true → (a ≡ false) × (b ≡ true)
not_both true b e = (cc, cc)
not_both false b e = (refl, e)

pub without_by : (c : ℕ) (text : List ℕ) → lacks c text ≡ true → Without c text
without_by c [] e = tt
without_by c (x ∷ text) e =
    let p = not_both (eqb x c) (lacks c text) e in
    (eqb-false x c p.0, without_by c text p.1)

from_each : (P : ℕ → Type 0) (xs : List ℕ) → ((k : ℕ) → k < length xs → P (get_or xs k 0))
    → AllByRecursion P xs
from_each P [] h = tt
from_each P (x ∷ xs) h =
    (h 0 (omega arith), from_each P xs (λ k lt. h (suc k) (omega (arith, lt))))

-- no octet but digits stands in a number
pub decimal_without : (c n : ℕ) → n < 2 ^ 64 → (IsInRange 48 57 c → ⊥) → Without c (decimal n)
decimal_without c n wide out =
    from_each (λ o. o ≢ c) (decimal n)
    (λ k lt. not_in_digits digits (decimal n) c (digits_decimal digits n wide) out k lt)

pub number_again : (n : ℕ) → n < 2 ^ 32 → number (decimal n) ≡ Some n
unfolding number
number_again n small =
    let wide : n < 2 ^ 64 = omega arith in
    let value : digits_value 10 (decimal n) ≡ n = digits_value-decimal digits n wide in
    let is : IsNumber (decimal n) = record {
      digits = digits.to (decimal n) (digits_decimal digits n wide);
      some = decimal_nonempty n wide;
      few = length-decimal-le 10 n (lit< tt) (omega arith) wide;
      fits = omega (arith, value);
    } in
    ap (λ (t : Bool). cond t (Some (digits_value 10 (decimal n))) None) (passes (decimal n) is)
    ∙ ap (λ (k : ℕ). let r : Option ℕ = Some k in r) value

pub decimal_short : (n : ℕ) → n < 2 ^ 32 → length (decimal n) ≤ 10
decimal_short n small = length-decimal-le 10 n (lit< tt) (omega arith) (omega arith)

-- ---- separators

before_sep : (c : ℕ) (xs ys : List ℕ) → Without c xs
    → position_or_len (λ octet. eqb octet c) (xs ++ c ∷ ys) ≡ length xs
before_sep c [] ys p =
    let same : eqb c c ≡ true = eq-eqb c c refl in
    rw same refl
before_sep c (x ∷ xs) ys p =
    let other : eqb x c ≡ false = ne_eqb x c p.0 in
    let more : position_or_len (λ octet. eqb octet c) (xs ++ c ∷ ys) ≡ length xs =
    before_sep c xs ys p.1 in
    rw other (omega (arith, more))

pub parted_at : (c : ℕ) (xs ys : List ℕ) → Without c xs → parted c (xs ++ c ∷ ys) ≡ Some (xs, ys)
parted_at c xs ys p =
    let all : List ℕ = xs ++ c ∷ ys in
    let n : position_or_len (λ octet. eqb octet c) all ≡ length xs = before_sep c xs ys p in
    let within : ltb (length xs) (length all) ≡ true =
    lt-ltb (length xs) (length all) (omega (arith, length-append xs (c ∷ ys))) in
    let front : take (length xs) all ≡ xs = take_at xs (c ∷ ys) (length xs) refl in
    let back : drop (length xs + 1) all ≡ ys =
    ap (drop (length xs + 1)) (sym (append_assoc xs (c ∷ []) ys))
    ∙ drop_at (xs ++ c ∷ []) ys (length xs + 1) (length-append xs (c ∷ []) ∙ omega arith) in
    rw (n, within, front, back) refl

-- the first word, and those behind it
pub words_at : (word more : List ℕ) → Without 32 word
    → words (word ++ 32 ∷ more) ≡ word ∷ words more
words_at [] more p = refl
words_at (x ∷ word) more p =
    let other : eqb x 32 ≡ false = ne_eqb x 32 p.0 in
    rw other (ap (onto_first x) (words_at word more p.1))
