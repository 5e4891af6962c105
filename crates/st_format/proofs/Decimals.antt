-- Decimal numbers: the relation and the test are the same.
use Rattle.std.proofs.Common.{◌≡◌, ℕ, ◌≤◌, Bool, true, false, cond, ◌&&◌, List, length}
use Rattle.std.proofs.Common.{Option, Some, None, refl, sym, ap, ◌∙◌, arith, rules}
use Rattle.std.specs.Prelude.{nat_le}
use Rattle.std.specs.List.{list_all}
use Rattle.std.specs.Char.{is_ascii_digit}
use Rattle.std.specs.Option.{SomeIff}
use Rattle.std.specs.Str.Parse.{digits_value}
use Rattle.std.proofs.lemmas.Bool.Decides.{nat_tests}
use Rattle.std.proofs.lemmas.Str.Parse.{IsNumeralModel, numerals_by_value}
use Rattle.st_format.specs.Words.{IsNumber, is_number, number}

pub digits : IsNumeralModel (λ ds. list_all is_ascii_digit ds ≡ true) (digits_value 10)
digits = numerals_by_value _ (search rules)

and_true : (a b : Bool) → a ≡ true → b ≡ true → (a && b) ≡ true
and_true a b e f = rw (e, f) refl

pub and_parts : (a b : Bool) → (a && b) ≡ true → (a ≡ true) × (b ≡ true)
and_parts true b e = (refl, e)
and_parts false b e = (cc, cc)

le_true : (m n : ℕ) → m ≤ n → nat_le m n ≡ true
le_true m n h = grind (arith, nat_tests)

le_from : (m n : ℕ) → nat_le m n ≡ true → m ≤ n
le_from m n h = grind (arith, nat_tests)

pub passes : (text : List ℕ) → IsNumber text → is_number text ≡ true
passes text is =
    let some : 1 ≤ length text = omega (arith, is.some) in
    let fits : digits_value 10 text ≤ 4294967295 = omega (arith, is.fits) in
    let front = nat_le 1 (length text) && nat_le (length text) 10 in
    and_true (front && list_all is_ascii_digit text) (nat_le (digits_value 10 text) 4294967295)
    (and_true front (list_all is_ascii_digit text)
    (and_true (nat_le 1 (length text)) (nat_le (length text) 10)
    (le_true 1 (length text) some) (le_true (length text) 10 is.few))
    (digits.from text is.digits))
    (le_true (digits_value 10 text) 4294967295 fits)

passed : (text : List ℕ) → is_number text ≡ true → IsNumber text
passed text e =
    let front = nat_le 1 (length text) && nat_le (length text) 10 in
    let a =
    and_parts (front && list_all is_ascii_digit text)
    (nat_le (digits_value 10 text) 4294967295) e in
    let b = and_parts front (list_all is_ascii_digit text) a.0 in
    let c = and_parts (nat_le 1 (length text)) (nat_le (length text) 10) b.0 in
    let some : 1 ≤ length text = le_from 1 (length text) c.0 in
    let fits : digits_value 10 text ≤ 4294967295 =
    le_from (digits_value 10 text) 4294967295 a.1 in
    record {
      digits = digits.to text b.1;
      some = omega (arith, some);
      few = le_from (length text) 10 c.1;
      fits = omega (arith, fits);
    }

none_at : (b : Bool) (v : ℕ) → (b ≡ true → ⊥) → cond b (Some v) None ≡ None
none_at true v h = absurd (h refl)
none_at false v h = refl

-- what answers as the relation says answers the test's value
pub same_number : (text : List ℕ) (r : Option ℕ)
    → SomeIff r (IsNumber text) (digits_value 10 text) → r ≡ number text
unfolding number
same_number text None none =
    sym (none_at (is_number text) (digits_value 10 text) (λ e. none (passed text e)))
same_number text (Some x) found =
    ap Some found.1
    ∙ sym (ap (λ t. cond t (Some (digits_value 10 text)) None) (passes text found.0))
