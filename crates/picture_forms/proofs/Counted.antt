-- The text of a number is read as its value, and what is read as a value is such a text.
use Rattle.std.proofs.Common.{◌≡◌, ℕ, zero, suc, ◌+◌, ◌-◌, ◌*◌, ◌<◌, ◌≤◌, Bool, true, false}
use Rattle.std.proofs.Common.{eqb, ltb, not, List, [], ◌∷◌, ◌++◌, length, Option, None, Some}
use Rattle.std.proofs.Common.{Result, Ok, Err, append_assoc, refl, sym, ap, ◌∙◌, arith, rules}
use Rattle.std.specs.Char.{is_ascii_digit}
use Rattle.std.specs.List.{list_all}
use Rattle.std.specs.Option.{option_map}
use Rattle.std.proofs.lemmas.Bool.{and_from, and_parts, cond-false, cond-true, lt-ltb}
use Rattle.std.proofs.lemmas.Bool.{ltb-true}
use Rattle.std.proofs.lemmas.Bool.Decides.{nat_tests}
use Rattle.std.proofs.lemmas.List.{length_push}
use Rattle.std.proofs.lemmas.Str.Parse.{IsNumeralModel, numerals_by_fold}
use Rattle.picture_forms.specs.declared.fault.FormFault.{FormFault}
use Rattle.picture_forms.specs.declared.fault.FormFault.TheVariants.{BadHeader, Truncated}
use Rattle.picture_forms.specs.declared.number_part.NumberPart.{NumberPart}
use Rattle.picture_forms.specs.declared.number_part.NumberStep.TheVariants.{More, Done, Wrong}
use Rattle.picture_forms.specs.declared.number_part.Stage.{Stage}
use Rattle.picture_forms.specs.declared.number_part.Stage.TheVariants.{Front, Gap, Digits}
use Rattle.picture_forms.specs.Numbers.{IsGapOf, IsPixmapNumber, count_at, digit_step, ends_comment}
use Rattle.picture_forms.specs.Numbers.{is_white, number_by, number_step}
use Rattle.picture_forms.specs.Numbers.{uncommented, value_step, white_step}
use Rattle.picture_forms.proofs.Numbered.{none_on, one_on, over_on}
use Rattle.picture_forms.proofs.Walked.{same_value}

-- ---- digits

abbrev pub AreDigits : List ℕ → Type 0
AreDigits ds = list_all is_ascii_digit ds ≡ true

-- the number that digits write behind those of another
abbrev after : ℕ → List ℕ → ℕ
after n [] = n
after n (c ∷ cs) = after (n * 10 + (c - 48)) cs

own : IsNumeralModel (λ ds. list_all is_ascii_digit ds ≡ true) (after 0)
own = numerals_by_fold _ (search rules) after (search rules)

after_grows : (n : ℕ) (ds : List ℕ) → n ≤ after n ds
after_grows n [] = omega arith
after_grows n (c ∷ cs) = omega (arith, after_grows (n * 10 + (c - 48)) cs)

white_no_mark : (o : ℕ) → is_white o ≡ true → eqb o 35 ≡ false
white_no_mark o w = grind (arith, nat_tests)

digit_no_mark : (o : ℕ) → is_ascii_digit o ≡ true → eqb o 35 ≡ false
digit_no_mark o d = grind (arith, nat_tests)

digit_not_white : (o : ℕ) → is_ascii_digit o ≡ true → is_white o ≡ false
digit_not_white o d = grind (arith, nat_tests)

digit_low : (o : ℕ) → is_ascii_digit o ≡ true → o - 48 ≤ 9
digit_low o d = grind (arith, nat_tests)

-- ---- a step

abbrev part_of : Bool → Stage → ℕ → NumberPart
part_of c s x = record { is_comment = c; stage = s; value = x }

mark_step : (s : Stage) (x o : ℕ) → eqb o 35 ≡ true
    → number_step (part_of false s x) o ≡ More (part_of true s x)
mark_step s x o m = rw m refl

white_here : (s : Stage) (x o : ℕ) → is_white o ≡ true
    → number_step (part_of false s x) o ≡ white_step s x
white_here s x o w = rw (white_no_mark o w, w) refl

digit_here : (s : Stage) (x o : ℕ) → is_ascii_digit o ≡ true
    → number_step (part_of false s x) o ≡ digit_step s x (o - 48)
digit_here s x o d = rw (digit_no_mark o d, digit_not_white o d, d) refl

other_here : (s : Stage) (x o : ℕ) → eqb o 35 ≡ false → is_white o ≡ false
    → is_ascii_digit o ≡ false → number_step (part_of false s x) o ≡ Wrong
other_here s x o m w d = rw (m, w, d) refl

value_more : (x d : ℕ) → ltb x 10000 ≡ true
    → value_step x d ≡ More (part_of false Digits (x * 10 + d))
value_more x d t = rw t refl

value_over : (x d : ℕ) → ltb x 10000 ≡ false → value_step x d ≡ Wrong
value_over x d t = rw t refl

-- white space and digits, by where a text stands
abbrev Stands : Stage → List ℕ → List ℕ → Type 0
Stands Front gap digits = (0 < length gap) × (0 < length digits)
Stands Gap gap digits = 0 < length digits
Stands Digits gap digits = gap ≡ []

abbrev Answer : Type 0
Answer = Result (ℕ × List ℕ) FormFault

abbrev read : ℕ → List ℕ → Answer
read v behind = Ok (v, behind)

-- ---- a text is read as what it says

-- the octet behind the digits
last_read : (k : ℕ) (s : Stage) (x : ℕ) (gap digits : List ℕ) (last v : ℕ) (behind : List ℕ)
    → [] ≡ gap ++ digits → Stands s gap digits → after x digits ≡ v → is_white last ≡ true
    → number_by (suc k) (part_of false s x) (last ∷ behind) ≡ Ok (v, behind)
last_read k s x (g ∷ gs) digits last v behind e is value w = absurd cc
last_read k s x [] (d ∷ ds) last v behind e is value w = absurd cc
last_read k Front x [] [] last v behind e is value w = absurd (omega (arith, is.0))
last_read k Gap x [] [] last v behind e is value w = absurd (omega (arith, is))
last_read k Digits x [] [] last v behind e is value w =
    one_on k (part_of false Digits x) (Done x) last behind (white_here Digits x last w)
    ∙ ap (λ (n : ℕ). read n behind) value

-- what is read behind the first octet, whatever that is
abbrev Rest : ℕ → List ℕ → ℕ → List ℕ → ℕ → Type 0
Rest k front last behind v =
    (c : Bool) (s : Stage) (x : ℕ) (gap digits : List ℕ)
    → uncommented front c ≡ Some (gap ++ digits) → list_all is_white gap ≡ true
    → Stands s gap digits → AreDigits digits → after x digits ≡ v
    → number_by k (part_of c s x) (front ++ last ∷ behind) ≡ Ok (v, behind)

module _ (k : ℕ) (front : List ℕ) (last : ℕ) (behind : List ℕ) (v : ℕ) (small : v < 100000)
    (rest : Rest k front last behind v)
  where
    digit_read : (s : Stage) (x o : ℕ) (ds : List ℕ)
        → digit_step s x (o - 48) ≡ value_step x (o - 48) → uncommented front false ≡ Some ds
        → AreDigits (o ∷ ds) → after x (o ∷ ds) ≡ v
        → number_by (suc k) (part_of false s x) (o ∷ (front ++ last ∷ behind)) ≡ Ok (v, behind)
    digit_read s x o ds step plain all value =
        let parts = and_parts (is_ascii_digit o) (list_all is_ascii_digit ds) all in
        let y : ℕ = x * 10 + (o - 48) in
        let grows : y ≤ after y ds = after_grows y ds in
        let is : after y ds ≡ v = value in
        let low : x < 10000 = omega (arith, grows, is, small) in
        one_on k (part_of false s x) (More (part_of false Digits (x * 10 + (o - 48)))) o
        (front ++ last ∷ behind)
        (digit_here s x o parts.0 ∙ step ∙ value_more x (o - 48) (lt-ltb x 10000 low))
        ∙ rest false Digits (x * 10 + (o - 48)) [] ds plain refl refl parts.1 value

    white_read : (s : Stage) (x o : ℕ) (gap digits : List ℕ)
        → white_step s x ≡ More (part_of false Gap x)
        → uncommented front false ≡ Some (gap ++ digits) → list_all is_white (o ∷ gap) ≡ true
        → 0 < length digits → AreDigits digits → after x digits ≡ v
        → number_by (suc k) (part_of false s x) (o ∷ (front ++ last ∷ behind)) ≡ Ok (v, behind)
    white_read s x o gap digits step plain white some all value =
        let parts = and_parts (is_white o) (list_all is_white gap) white in
        one_on k (part_of false s x) (More (part_of false Gap x)) o (front ++ last ∷ behind)
        (white_here s x o parts.0 ∙ step)
        ∙ rest false Gap x gap digits plain parts.1 some all value

    -- an octet outside of comments
    octet_read : (s : Stage) (x o : ℕ) (u : Option (List ℕ)) (gap digits : List ℕ)
        → uncommented front false ≡ u → option_map (λ plain. o ∷ plain) u ≡ Some (gap ++ digits)
        → list_all is_white gap ≡ true → Stands s gap digits → AreDigits digits
        → after x digits ≡ v
        → number_by (suc k) (part_of false s x) (o ∷ (front ++ last ∷ behind)) ≡ Ok (v, behind)
    octet_read s x o None gap digits u e white is all value = absurd cc
    octet_read s x o (Some t) [] [] u e white is all value = absurd cc
    octet_read Front x o (Some t) [] (d ∷ ds) u e white is all value =
        absurd (omega (arith, is.0))
    octet_read Gap x o (Some t) [] (d ∷ ds) u e white is all value =
        let here : o ≡ d = cc in
        let more : uncommented front false ≡ Some ds = cc in
        rw here (digit_read Gap x d ds refl more all value)
    octet_read Digits x o (Some t) [] (d ∷ ds) u e white is all value =
        let here : o ≡ d = cc in
        let more : uncommented front false ≡ Some ds = cc in
        rw here (digit_read Digits x d ds refl more all value)
    octet_read Front x o (Some t) (h ∷ gap) digits u e white is all value =
        let here : o ≡ h = cc in
        let more : uncommented front false ≡ Some (gap ++ digits) = cc in
        rw here (white_read Front x h gap digits refl more white is.1 all value)
    octet_read Gap x o (Some t) (h ∷ gap) digits u e white is all value =
        let here : o ≡ h = cc in
        let more : uncommented front false ≡ Some (gap ++ digits) = cc in
        rw here (white_read Gap x h gap digits refl more white is all value)
    octet_read Digits x o (Some t) (h ∷ gap) digits u e white is all value = absurd cc

    -- the first octet where no comment goes on, by whether one begins
    first_read : (s : Stage) (x o : ℕ) (t : Bool) (gap digits : List ℕ) → eqb o 35 ≡ t
        → uncommented (o ∷ front) false ≡ Some (gap ++ digits) → list_all is_white gap ≡ true
        → Stands s gap digits → AreDigits digits → after x digits ≡ v
        → number_by (suc k) (part_of false s x) (o ∷ (front ++ last ∷ behind)) ≡ Ok (v, behind)
    first_read s x o true gap digits m plain white is all value =
        let more : uncommented front true ≡ Some (gap ++ digits) =
        sym (cond-true (eqb o 35) (uncommented front true)
        (option_map (λ p. o ∷ p) (uncommented front false)) m) ∙ plain in
        one_on k (part_of false s x) (More (part_of true s x)) o (front ++ last ∷ behind)
        (mark_step s x o m)
        ∙ rest true s x gap digits more white is all value
    first_read s x o false gap digits m plain white is all value =
        let more : option_map (λ p. o ∷ p) (uncommented front false) ≡ Some (gap ++ digits) =
        sym (cond-false (eqb o 35) (uncommented front true)
        (option_map (λ p. o ∷ p) (uncommented front false)) m) ∙ plain in
        octet_read s x o (uncommented front false) gap digits refl more white is all value

says_read : (front : List ℕ) (k : ℕ) (c : Bool) (s : Stage) (x : ℕ) (gap digits : List ℕ)
    (last : ℕ) (behind : List ℕ) (v : ℕ) → v < 100000
    → uncommented front c ≡ Some (gap ++ digits) → list_all is_white gap ≡ true
    → Stands s gap digits → AreDigits digits → after x digits ≡ v → is_white last ≡ true
    → length front < k
    → number_by k (part_of c s x) (front ++ last ∷ behind) ≡ Ok (v, behind)
says_read front zero c s x gap digits last behind v small plain white is all value w few =
    absurd (omega (arith, few))
says_read [] (suc k) true s x gap digits last behind v small plain white is all value w few =
    absurd cc
says_read [] (suc k) false s x gap digits last behind v small plain white is all value w few =
    let none : [] ≡ gap ++ digits = cc in
    last_read k s x gap digits last v behind none is value w
says_read (o ∷ front) (suc k) true s x gap digits last behind v small plain white is all value w
    few =
    one_on k (part_of true s x) (More (part_of (not (ends_comment o)) s x)) o
    (front ++ last ∷ behind) refl
    ∙ says_read front k (not (ends_comment o)) s x gap digits last behind v small plain white is
    all value w (omega (arith, few))
says_read (o ∷ front) (suc k) false s x gap digits last behind v small plain white is all value w
    few =
    let less : length front < k = omega (arith, few) in
    first_read k front last behind v small
    (λ c y z gs ds p q r t u. says_read front k c y z gs ds last behind v small p q r t u w less)
    s x o (eqb o 35) gap digits refl plain white is all value

-- ---- what is read is such a text

record Found (c : Bool) (s : Stage) (x k : ℕ) (octets rest : List ℕ) (v : ℕ) : Type 0 where
  front : List ℕ
  last : ℕ
  gap : List ℕ
  digits : List ℕ
  whole : octets ≡ front ++ last ∷ rest
  plain : uncommented front c ≡ Some (gap ++ digits)
  white : list_all is_white gap ≡ true
  stands : Stands s gap digits
  all : AreDigits digits
  value_is : after x digits ≡ v
  small : v < 100000
  ended : is_white last ≡ true
  few : length front < k

no_answer : (f : FormFault) (z : ℕ × List ℕ) (a : Answer) → a ≡ Err f → a ≡ Ok z → ⊥
no_answer f z a p q = cc

wrong_answer : (k : ℕ) (s : Stage) (x o : ℕ) (os rest : List ℕ) (v : ℕ)
    → number_step (part_of false s x) o ≡ Wrong
    → number_by (suc k) (part_of false s x) (o ∷ os) ≡ Ok (v, rest) → ⊥
wrong_answer k s x o os rest v step e =
    no_answer BadHeader (v, rest) (number_by (suc k) (part_of false s x) (o ∷ os))
    (one_on k (part_of false s x) Wrong o os step) e

-- what comes behind an octet, where the number goes on
gone_on : (k : ℕ) (p q : NumberPart) (o : ℕ) (os rest : List ℕ) (v : ℕ)
    → number_step p o ≡ More q → number_by (suc k) p (o ∷ os) ≡ Ok (v, rest)
    → number_by k q os ≡ Ok (v, rest)
gone_on k p q o os rest v step e = sym (one_on k p (More q) o os step) ∙ e

-- octets in front of which one more stands, with the white space and the digits that it makes
longer : (c d : Bool) (s t : Stage) (x y k o : ℕ) (os rest : List ℕ) (v : ℕ)
    (q : Found d t y k os rest v) (gap digits : List ℕ)
    → uncommented (o ∷ q.front) c ≡ Some (gap ++ digits) → list_all is_white gap ≡ true
    → Stands s gap digits → AreDigits digits → after x digits ≡ v
    → Found c s x (suc k) (o ∷ os) rest v
longer c d s t x y k o os rest v q gap digits plain white is all value = record {
  front = o ∷ q.front;
  last = q.last;
  gap = gap;
  digits = digits;
  whole = ap (λ (l : List ℕ). o ∷ l) q.whole;
  plain = plain;
  white = white;
  stands = is;
  all = all;
  value_is = value;
  small = q.small;
  ended = q.ended;
  few = omega (arith, q.few);
}

marked_plain : (o : ℕ) (front text : List ℕ) → eqb o 35 ≡ true
    → uncommented front true ≡ Some text → uncommented (o ∷ front) false ≡ Some text
marked_plain o front text m e =
    cond-true (eqb o 35) (uncommented front true)
    (option_map (λ p. o ∷ p) (uncommented front false)) m ∙ e

octet_plain : (o : ℕ) (front text : List ℕ) → eqb o 35 ≡ false
    → uncommented front false ≡ Some text → uncommented (o ∷ front) false ≡ Some (o ∷ text)
octet_plain o front text m e =
    cond-false (eqb o 35) (uncommented front true)
    (option_map (λ p. o ∷ p) (uncommented front false)) m
    ∙ ap (λ (u : Option (List ℕ)). option_map (λ p. o ∷ p) u) e

-- what is found behind the first octet, whatever it makes of the part
abbrev Finder : ℕ → List ℕ → List ℕ → ℕ → Type 0
Finder k os rest v =
    (c : Bool) (s : Stage) (x : ℕ) → x < 100000 → number_by k (part_of c s x) os ≡ Ok (v, rest)
    → Found c s x k os rest v

module _ (k : ℕ) (os rest : List ℕ) (v : ℕ) (find : Finder k os rest v)
  where
    white_more : (s : Stage) (x o : ℕ) → x < 100000 → is_white o ≡ true
        → white_step s x ≡ More (part_of false Gap x)
        → ((gap digits : List ℕ) → 0 < length digits → Stands s (o ∷ gap) digits)
        → number_by (suc k) (part_of false s x) (o ∷ os) ≡ Ok (v, rest)
        → Found false s x (suc k) (o ∷ os) rest v
    white_more s x o small w step is e =
        let q = find false Gap x small
        (gone_on k (part_of false s x) (part_of false Gap x) o os rest v
        (white_here s x o w ∙ step) e) in
        longer false false s Gap x x k o os rest v q (o ∷ q.gap) q.digits
        (octet_plain o q.front (q.gap ++ q.digits) (white_no_mark o w) q.plain)
        (and_from (is_white o) (list_all is_white q.gap) w q.white)
        (is q.gap q.digits q.stands) q.all q.value_is

    white_found : (s : Stage) (x o : ℕ) → x < 100000 → is_white o ≡ true
        → number_by (suc k) (part_of false s x) (o ∷ os) ≡ Ok (v, rest)
        → Found false s x (suc k) (o ∷ os) rest v
    white_found Front x o small w e =
        white_more Front x o small w refl (λ gap digits some. (omega arith, some)) e
    white_found Gap x o small w e =
        white_more Gap x o small w refl (λ gap digits some. some) e
    white_found Digits x o small w e =
        let both : (v ≡ x) × (rest ≡ os) =
        same_value (number_by (suc k) (part_of false Digits x) (o ∷ os)) x v os rest
        (one_on k (part_of false Digits x) (Done x) o os (white_here Digits x o w)) e in
        let value : x ≡ v = sym both.0 in
        record {
          front = [];
          last = o;
          gap = [];
          digits = [];
          whole = ap (λ (l : List ℕ). o ∷ l) (sym both.1);
          plain = refl;
          white = refl;
          stands = refl;
          all = refl;
          value_is = value;
          small = omega (arith, small, value);
          ended = w;
          few = omega arith;
        }

    digit_more : (s : Stage) (x o : ℕ) (t : Bool) → is_ascii_digit o ≡ true → ltb x 10000 ≡ t
        → digit_step s x (o - 48) ≡ value_step x (o - 48)
        → ((ds : List ℕ) → Stands s [] (o ∷ ds))
        → number_by (suc k) (part_of false s x) (o ∷ os) ≡ Ok (v, rest)
        → Found false s x (suc k) (o ∷ os) rest v
    digit_more s x o true d t step is e =
        let y : ℕ = x * 10 + (o - 48) in
        let low : x < 10000 = ltb-true x 10000 t in
        let small : y < 100000 = omega (arith, digit_low o d, low) in
        let q = find false Digits y small
        (gone_on k (part_of false s x) (part_of false Digits y) o os rest v
        (digit_here s x o d ∙ step ∙ value_more x (o - 48) t) e) in
        let alone : q.gap ++ q.digits ≡ q.digits =
        ap (λ (l : List ℕ). l ++ q.digits) q.stands in
        longer false false s Digits x y k o os rest v q [] (o ∷ q.digits)
        (octet_plain o q.front q.digits (digit_no_mark o d)
        (q.plain ∙ ap (λ (l : List ℕ). let u : Option (List ℕ) = Some l in u) alone))
        refl (is q.digits) (and_from (is_ascii_digit o) (list_all is_ascii_digit q.digits) d q.all)
        q.value_is
    digit_more s x o false d t step is e =
        absurd (wrong_answer k s x o os rest v
        (digit_here s x o d ∙ step ∙ value_over x (o - 48) t) e)

    digit_found : (s : Stage) (x o : ℕ) → is_ascii_digit o ≡ true
        → number_by (suc k) (part_of false s x) (o ∷ os) ≡ Ok (v, rest)
        → Found false s x (suc k) (o ∷ os) rest v
    digit_found Front x o d e =
        absurd (wrong_answer k Front x o os rest v (digit_here Front x o d) e)
    digit_found Gap x o d e =
        digit_more Gap x o (ltb x 10000) d refl refl (λ ds. omega arith) e
    digit_found Digits x o d e =
        digit_more Digits x o (ltb x 10000) d refl refl (λ ds. refl) e

    octet_found : (s : Stage) (x o : ℕ) (w d : Bool) → x < 100000 → eqb o 35 ≡ false
        → is_white o ≡ w → is_ascii_digit o ≡ d
        → number_by (suc k) (part_of false s x) (o ∷ os) ≡ Ok (v, rest)
        → Found false s x (suc k) (o ∷ os) rest v
    octet_found s x o true d small m w is e = white_found s x o small w e
    octet_found s x o false true small m w is e = digit_found s x o is e
    octet_found s x o false false small m w is e =
        absurd (wrong_answer k s x o os rest v (other_here s x o m w is) e)

    first_found : (s : Stage) (x o : ℕ) (t : Bool) → x < 100000 → eqb o 35 ≡ t
        → number_by (suc k) (part_of false s x) (o ∷ os) ≡ Ok (v, rest)
        → Found false s x (suc k) (o ∷ os) rest v
    first_found s x o true small m e =
        let q = find true s x small
        (gone_on k (part_of false s x) (part_of true s x) o os rest v (mark_step s x o m) e) in
        longer false true s s x x k o os rest v q q.gap q.digits
        (marked_plain o q.front (q.gap ++ q.digits) m q.plain) q.white q.stands q.all q.value_is
    first_found s x o false small m e =
        octet_found s x o (is_white o) (is_ascii_digit o) small m refl refl e

found : (k : ℕ) (octets : List ℕ) (c : Bool) (s : Stage) (x : ℕ) (rest : List ℕ) (v : ℕ)
    → x < 100000 → number_by k (part_of c s x) octets ≡ Ok (v, rest)
    → Found c s x k octets rest v
found zero octets c s x rest v small e =
    absurd (no_answer BadHeader (v, rest) (number_by 0 (part_of c s x) octets)
    (over_on (part_of c s x) octets) e)
found (suc k) [] c s x rest v small e =
    absurd (no_answer Truncated (v, rest) (number_by (suc k) (part_of c s x) [])
    (none_on k (part_of c s x)) e)
found (suc k) (o ∷ os) true s x rest v small e =
    let q = found k os (not (ends_comment o)) s x rest v small
    (gone_on k (part_of true s x) (part_of (not (ends_comment o)) s x) o os rest v refl e) in
    longer true (not (ends_comment o)) s s x x k o os rest v q q.gap q.digits q.plain q.white
    q.stands q.all q.value_is
found (suc k) (o ∷ os) false s x rest v small e =
    first_found k os rest v (λ c t y lt h. found k os c t y rest v lt h) s x o (eqb o 35) small
    refl e

-- ---- a number

stands_of : (s : Stage) (gap digits : List ℕ) → IsGapOf s gap → 0 < length digits
    → Stands s gap digits
stands_of Front gap digits is some = (is, some)
stands_of Gap gap digits is some = some
stands_of Digits gap digits is some = absurd is

pub count_says : (s : Stage) (text behind : List ℕ) (v : ℕ) → IsPixmapNumber s text v
    → count_at s (text ++ behind) ≡ Ok (v, behind)
unfolding count_at
count_says s text behind v is =
    let whole : text ++ behind ≡ is.front ++ is.last ∷ behind =
    ap (λ (t : List ℕ). t ++ behind) is.parts ∙ append_assoc is.front (is.last ∷ []) behind in
    let few : length is.front < 1024 =
    omega (arith, is.few, ap length is.parts, length_push is.front is.last) in
    ap (number_by 1024 (part_of false s 0)) whole
    ∙ says_read is.front 1024 false s 0 is.gap is.digits is.last behind v is.small is.plain is.white
    (stands_of s is.gap is.digits is.before is.numeral.0) (own.from is.digits is.numeral.1)
    (own.same is.digits is.numeral.1 ∙ is.value_is) is.ended few

-- the text of a number, and what is behind it
pub record IsCounted (s : Stage) (octets rest : List ℕ) (v : ℕ) : Type 0 where
  pub text : List ℕ
  pub is : IsPixmapNumber s text v
  pub whole : octets ≡ text ++ rest

counted : (s : Stage) (octets rest : List ℕ) (v : ℕ) (q : Found false s 0 1024 octets rest v)
    → IsGapOf s q.gap → 0 < length q.digits → IsCounted s octets rest v
counted s octets rest v q gap some = record {
  text = q.front ++ q.last ∷ [];
  is = record {
    front = q.front;
    last = q.last;
    gap = q.gap;
    digits = q.digits;
    parts = refl;
    plain = q.plain;
    white = q.white;
    before = gap;
    numeral = (some, own.to q.digits q.all);
    value_is = sym (own.same q.digits (own.to q.digits q.all)) ∙ q.value_is;
    small = q.small;
    ended = q.ended;
    few = omega (arith, q.few, length_push q.front q.last);
  };
  whole = q.whole ∙ sym (append_assoc q.front (q.last ∷ []) rest);
}

pub first_counted : (octets rest : List ℕ) (v : ℕ) → count_at Front octets ≡ Ok (v, rest)
    → IsCounted Front octets rest v
unfolding count_at
first_counted octets rest v e =
    let q = found 1024 octets false Front 0 rest v (omega arith) e in
    counted Front octets rest v q q.stands.0 q.stands.1

pub next_counted : (octets rest : List ℕ) (v : ℕ) → count_at Gap octets ≡ Ok (v, rest)
    → IsCounted Gap octets rest v
unfolding count_at
next_counted octets rest v e =
    let q = found 1024 octets false Gap 0 rest v (omega arith) e in
    counted Gap octets rest v q tt q.stands
