-- A head is read exactly as what it says.
use Rattle.std.proofs.Common.{◌≡◌, ◌≢◌, ◌⊎◌, ℕ, suc, ◌+◌, ◌<◌, ◌≤◌, Bool, true, false}
use Rattle.std.proofs.Common.{cond, ◌&&◌, eqb, ltb, List, [], ◌∷◌, ◌++◌, length, take, drop, Option}
use Rattle.std.proofs.Common.{None, Some, Result, Ok, Err, codes, inl, inr, append_assoc}
use Rattle.std.proofs.Common.{refl, sym, ap, subst, ◌∙◌, arith}
use Rattle.std.specs.Prelude.{⊤, nat_le}
use Rattle.std.specs.Char.{is_ascii_digit}
use Rattle.std.specs.List.{AllByRecursion, list_all, position_or_len}
use Rattle.std.specs.Str.{bytes_eq}
use Rattle.std.specs.Str.Parse.{digits_value}
use Rattle.std.proofs.lemmas.Bool.{and_parts, cond-false, cond-true, eq-eqb, eqb-false, eqb-true}
use Rattle.std.proofs.lemmas.Bool.{leb-true, ltb-true, ne_eqb}
use Rattle.std.proofs.lemmas.List.{length-take-le}
use Rattle.std.proofs.lemmas.Slice.Eq.{bytes_eq-Decides}
use Rattle.st_format.specs.declared.sampling.Sampling.{Sampling}
use Rattle.st_format.specs.declared.sampling.Sampling.TheVariants.{Ycc422, Ycc444, Rgb}
use Rattle.st_format.specs.declared.sampling.Depth.{Depth}
use Rattle.st_format.specs.declared.sampling.Depth.TheVariants.{D8, D10, D12, D16}
use Rattle.st_format.specs.Fields.{Fields, format_at}
use Rattle.st_format.specs.Given.{with_rest}
use Rattle.st_format.specs.Reading.{◌>>=◌}
use Rattle.st_format.specs.Text.{parted}
use Rattle.st_format.specs.Words.{IsNumber, is_number, number}
use Rattle.st_format.proofs.Decimals.{digits, passes}
use Rattle.st_format.proofs.Readings.{bind_ok}
use Rattle.picture_forms.specs.declared.fault.FormFault.{FormFault}
use Rattle.picture_forms.specs.declared.fault.FormFault.TheVariants.{BadHeader, BadMagic, Truncated}
use Rattle.picture_forms.specs.declared.fault.FormFault.TheVariants.{UnsupportedForm}
use Rattle.picture_forms.specs.Heads.{HasY4mHead, IsHead, IsLastWord, IsNumberText, IsOtherWord}
use Rattle.picture_forms.specs.Heads.{IsProgressive}
use Rattle.picture_forms.specs.Heads.{colour_at, colour_named, colour_word, head_at, head_walk}
use Rattle.picture_forms.specs.Heads.{last_of, limited, name_at, name_of, needed, number_at}
use Rattle.picture_forms.specs.Heads.{rate_at, rate_parts, scan_at, told, told_last, words}
use Rattle.picture_forms.specs.Layouts.{IsYcc}
use Rattle.picture_forms.specs.Walks.{field_at, line_at}
use Rattle.picture_forms.proofs.Lined.{Plain, line_again}
use Rattle.picture_forms.proofs.PixmapAgain.{field_found, limited_found}
use Rattle.picture_forms.proofs.Walked.{field_again, same_value}

ok_same : {A E : Type 0} (x y : A)
    → (let p : Result A E = Ok x in let q : Result A E = Ok y in p ≡ q) → x ≡ y
ok_same x y e = cc

some_same : {A : Type 0} (x y : A)
    → (let p : Option A = Some x in let q : Option A = Some y in p ≡ q) → x ≡ y
some_same x y e = cc

-- ---- what the words tell of a letter

abbrev Found : Type 0
Found = Option (List ℕ)

abbrev Others : ℕ → List (List ℕ) → Type 0
Others letter ws = AllByRecursion (IsOtherWord letter) ws

record Tells (letter : ℕ) (before : Found) (ws : List (List ℕ)) : Type 0 where
  text : List ℕ
  is : IsLastWord letter ws text
  answer : told_last letter before ws ≡ Some text

record Keeps (letter : ℕ) (before : Found) (ws : List (List ℕ)) : Type 0 where
  none : Others letter ws
  answer : told_last letter before ws ≡ before

abbrev Telling : ℕ → Found → List (List ℕ) → Type 0
Telling letter before ws = Tells letter before ws ⊎ Keeps letter before ws

first_word : (letter c : ℕ) (cs : List ℕ) (ws : List (List ℕ)) (before : Found) (t : Bool)
    → eqb c letter ≡ t → Keeps letter (told letter before (c ∷ cs)) ws
    → Telling letter before ((c ∷ cs) ∷ ws)
first_word letter c cs ws before true e h =
    let same : c ≡ letter = eqb-true c letter e in
    inl (record {
      text = cs;
      is = record {
        front = [];
        behind = ws;
        parts = ap (λ (k : ℕ). (k ∷ cs) ∷ ws) same;
        last = h.none;
      };
      answer = h.answer ∙ cond-true (eqb c letter) (Some cs) before e;
    })
first_word letter c cs ws before false e h =
    inr (record {
      none = (eqb-false c letter e, h.none);
      answer = h.answer ∙ cond-false (eqb c letter) (Some cs) before e;
    })

one_word : (letter : ℕ) (word : List ℕ) (ws : List (List ℕ)) (before : Found)
    → Telling letter (told letter before word) ws → Telling letter before (word ∷ ws)
one_word letter word ws before (inl h) =
    inl (record {
      text = h.text;
      is = record {
        front = word ∷ h.is.front;
        behind = h.is.behind;
        parts = ap (λ (l : List (List ℕ)). word ∷ l) h.is.parts;
        last = h.is.last;
      };
      answer = h.answer;
    })
one_word letter [] ws before (inr h) =
    inr (record { none = (tt, h.none); answer = h.answer })
one_word letter (c ∷ cs) ws before (inr h) =
    first_word letter c cs ws before (eqb c letter) refl h

told_cases : (letter : ℕ) (ws : List (List ℕ)) (before : Found) → Telling letter before ws
told_cases letter [] before = inr (record { none = tt; answer = refl })
told_cases letter (word ∷ ws) before =
    one_word letter word ws before (told_cases letter ws (told letter before word))

told_by : (letter : ℕ) (ws : List (List ℕ)) (text : List ℕ) → Telling letter None ws
    → told_last letter None ws ≡ Some text → IsLastWord letter ws text
told_by letter ws text (inl h) e =
    subst (λ (t : List ℕ). IsLastWord letter ws t) (some_same h.text text (sym h.answer ∙ e)) h.is
told_by letter ws text (inr h) e =
    let none : Found = None in
    let bad : none ≡ Some text = sym h.answer ∙ e in
    absurd cc

told_found : (letter : ℕ) (ws : List (List ℕ)) (text : List ℕ)
    → told_last letter None ws ≡ Some text → IsLastWord letter ws text
told_found letter ws text e = told_by letter ws text (told_cases letter ws None) e

untold_by : (letter : ℕ) (ws : List (List ℕ)) → Telling letter None ws
    → told_last letter None ws ≡ None → Others letter ws
untold_by letter ws (inl h) e =
    let none : Found = None in
    let bad : none ≡ Some h.text = sym e ∙ h.answer in
    absurd cc
untold_by letter ws (inr h) e = h.none

untold_found : (letter : ℕ) (ws : List (List ℕ)) → told_last letter None ws ≡ None
    → Others letter ws
untold_found letter ws e = untold_by letter ws (told_cases letter ws None) e

told_kept : (letter : ℕ) (ws : List (List ℕ)) (before : Found) → Others letter ws
    → told_last letter before ws ≡ before
told_kept letter [] before none = refl
told_kept letter ([] ∷ ws) before none = told_kept letter ws before none.1
told_kept letter ((c ∷ cs) ∷ ws) before none =
    ap (λ (f : Found). told_last letter f ws)
    (cond-false (eqb c letter) (Some cs) before (ne_eqb c letter none.0))
    ∙ told_kept letter ws before none.1

told_front : (letter : ℕ) (front : List (List ℕ)) (text : List ℕ) (behind : List (List ℕ))
    (before : Found) → Others letter behind
    → told_last letter before (front ++ (letter ∷ text) ∷ behind) ≡ Some text
told_front letter [] text behind before last =
    ap (λ (f : Found). told_last letter f behind)
    (cond-true (eqb letter letter) (Some text) before (eq-eqb letter letter refl))
    ∙ told_kept letter behind (Some text) last
told_front letter (w ∷ front) text behind before last =
    told_front letter front text behind (told letter before w) last

told_says : (letter : ℕ) (ws : List (List ℕ)) (text : List ℕ) → IsLastWord letter ws text
    → told_last letter None ws ≡ Some text
told_says letter ws text is =
    ap (told_last letter None) is.parts ∙ told_front letter is.front text is.behind None is.last

-- ---- numbers

passed : (text : List ℕ) → is_number text ≡ true → IsNumber text
passed text e =
    let front = nat_le 1 (length text) && nat_le (length text) 10 in
    let a =
    and_parts (front && list_all is_ascii_digit text)
    (nat_le (digits_value 10 text) 4294967295) e in
    let b = and_parts front (list_all is_ascii_digit text) a.0 in
    let c = and_parts (nat_le 1 (length text)) (nat_le (length text) 10) b.0 in
    let some : 1 ≤ length text = leb-true 1 (length text) c.0 in
    let fits : digits_value 10 text ≤ 4294967295 =
    leb-true (digits_value 10 text) 4294967295 a.1 in
    record {
      digits = digits.to text b.1;
      some = omega (arith, some);
      few = leb-true (length text) 10 c.1;
      fits = omega (arith, fits);
    }

number_case : (t : Bool) (text : List ℕ) (n : ℕ) → is_number text ≡ t
    → (let v : Option ℕ = Some (digits_value 10 text) in cond t v None) ≡ Some n
    → IsNumberText text n
number_case true text n t e =
    record { is = passed text t; value = some_same (digits_value 10 text) n e }
number_case false text n t e = absurd cc

number_found : (text : List ℕ) (n : ℕ) → number text ≡ Some n → IsNumberText text n
unfolding number
number_found text n e = number_case (is_number text) text n refl e

number_says : (text : List ℕ) (n : ℕ) → IsNumberText text n → number text ≡ Some n
unfolding number
number_says text n is =
    let v : Option ℕ = Some (digits_value 10 text) in
    ap (λ (t : Bool). cond t v None) (passes text is.is)
    ∙ ap (λ (k : ℕ). let r : Option ℕ = Some k in r) is.value

needed_found : (o : Option ℕ) (n : ℕ) → needed o ≡ Ok n → o ≡ Some n
needed_found None n e = absurd cc
needed_found (Some x) n e =
    ap (λ (k : ℕ). let r : Option ℕ = Some k in r) (ok_same x n e)

record NumberIn (o : Found) (n : ℕ) : Type 0 where
  text : List ℕ
  there : o ≡ Some text
  is : IsNumberText text n

number_in : (o : Found) (n : ℕ) → number_at o ≡ Ok n → NumberIn o n
number_in None n e = absurd cc
number_in (Some text) n e =
    record {
      text = text;
      there = refl;
      is = number_found text n (needed_found (number text) n e);
    }

at_says : (o : Found) (text : List ℕ) (n : ℕ) → o ≡ Some text → IsNumberText text n
    → number_at o ≡ Ok n
at_says o text n there is = ap number_at there ∙ ap needed (number_says text n is)

-- ---- a rate

record RateIn (o : Found) (r : ℕ × ℕ) : Type 0 where
  rate : List ℕ
  n_text : List ℕ
  d_text : List ℕ
  there : o ≡ Some rate
  parts : parted 58 rate ≡ Some (n_text, d_text)
  n_is : IsNumberText n_text r.0
  d_is : IsNumberText d_text r.1

abbrev with_n : List ℕ × List ℕ → ℕ → Result (ℕ × ℕ) FormFault
with_n q n = number_at (Some q.1) >>= λ d. Ok (n, d)

parts_in : (text : List ℕ) (p : Option (List ℕ × List ℕ)) (r : ℕ × ℕ) → parted 58 text ≡ p
    → rate_parts p ≡ Ok r → RateIn (Some text) r
parts_in text None r is e = absurd cc
parts_in text (Some q) r is e =
    let a = bind_ok (number_at (Some q.0)) (with_n q) r e in
    let pair : ℕ → Result (ℕ × ℕ) FormFault = λ d. Ok (a.0, d) in
    let b = bind_ok (number_at (Some q.1)) pair r a.2 in
    let both : ℕ × ℕ = (a.0, b.0) in
    let same : both ≡ r = ok_same both r b.2 in
    record {
      rate = text;
      n_text = q.0;
      d_text = q.1;
      there = refl;
      parts = is;
      n_is =
          subst (λ (z : ℕ × ℕ). IsNumberText q.0 z.0) same
          (number_found q.0 a.0 (needed_found (number q.0) a.0 a.1));
      d_is =
          subst (λ (z : ℕ × ℕ). IsNumberText q.1 z.1) same
          (number_found q.1 b.0 (needed_found (number q.1) b.0 b.1));
    }

rate_in : (o : Found) (r : ℕ × ℕ) → rate_at o ≡ Ok r → RateIn o r
rate_in None r e = absurd cc
rate_in (Some text) r e = parts_in text (parted 58 text) r refl e

rate_says : (o : Found) (rate a b : List ℕ) (n d : ℕ) → o ≡ Some rate
    → parted 58 rate ≡ Some (a, b) → IsNumberText a n → IsNumberText b d
    → rate_at o ≡ Ok (n, d)
rate_says o rate a b n d there parts p q =
    ap rate_at there
    ∙ ap rate_parts parts
    ∙ ap (λ (r : Result ℕ FormFault). r >>= with_n (a, b)) (ap needed (number_says a n p))
    ∙ ap (λ (r : Result ℕ FormFault). let pair : ℕ → Result (ℕ × ℕ) FormFault = λ k. Ok (n, k) in
    r >>= pair) (ap needed (number_says b d q))

-- ---- scan, sampling and depth

abbrev progressive : Result ⊤ FormFault
progressive = Ok tt

abbrev not_progressive : Result ⊤ FormFault
not_progressive = Err UnsupportedForm

scan_case : (t : Bool) (text : List ℕ) (x : ⊤) → bytes_eq text (codes "p") ≡ t
    → cond t progressive not_progressive ≡ Ok x → text ≡ codes "p"
scan_case true text x t e = (bytes_eq-Decides text (codes "p")).0 t
scan_case false text x t e = absurd cc

scan_in : (letters : List (List ℕ)) (o : Found) (x : ⊤) → told_last 73 None letters ≡ o
    → scan_at o ≡ Ok x → IsProgressive letters
scan_in letters None x is e = inr (untold_found 73 letters is)
scan_in letters (Some text) x is e =
    let said : text ≡ codes "p" = scan_case (bytes_eq text (codes "p")) text x refl e in
    inl (told_found 73 letters (codes "p")
    (is ∙ ap (λ (t : List ℕ). let u : Found = Some t in u) said))

scan_says : (letters : List (List ℕ)) → IsProgressive letters
    → scan_at (told_last 73 None letters) ≡ Ok tt
scan_says letters (inl is) = ap scan_at (told_says 73 letters (codes "p") is)
scan_says letters (inr none) = ap scan_at (told_kept 73 letters None none)

abbrev Colour : Type 0
Colour = Result (Sampling × Depth) FormFault

record ColourOf (text : List ℕ) (c : Sampling × Depth) : Type 0 where
  word : text ≡ colour_word c.0 c.1
  ycc : IsYcc c.0

abbrev coloured : Sampling → Depth → Colour
coloured s b = Ok (s, b)

abbrev choice : List ℕ → Sampling → Depth → Colour → Colour
choice text s b next = cond (bytes_eq text (colour_word s b)) (coloured s b) next

choice_case : (t : Bool) (text : List ℕ) (s : Sampling) (b : Depth) (next : Colour)
    (c : Sampling × Depth) → bytes_eq text (colour_word s b) ≡ t → IsYcc s
    → (next ≡ Ok c → ColourOf text c) → cond t (coloured s b) next ≡ Ok c → ColourOf text c
choice_case true text s b next c t ycc more e =
    let both : Sampling × Depth = (s, b) in
    let same : both ≡ c = ok_same both c e in
    subst (λ (z : Sampling × Depth). ColourOf text z) same
    (record { word = (bytes_eq-Decides text (colour_word s b)).0 t; ycc = ycc })
choice_case false text s b next c t ycc more e = more e

choice_found : (text : List ℕ) (s : Sampling) (b : Depth) (next : Colour) (c : Sampling × Depth)
    → IsYcc s → (next ≡ Ok c → ColourOf text c) → choice text s b next ≡ Ok c
    → ColourOf text c
choice_found text s b next c ycc more e =
    choice_case (bytes_eq text (colour_word s b)) text s b next c refl ycc more e

abbrev no_colour : Colour
no_colour = Err UnsupportedForm

no_colour_found : (text : List ℕ) (c : Sampling × Depth) → no_colour ≡ Ok c → ColourOf text c
no_colour_found text c e = absurd cc

abbrev from_4416 : List ℕ → Colour
from_4416 text = choice text Ycc444 D16 no_colour

abbrev from_4412 : List ℕ → Colour
from_4412 text = choice text Ycc444 D12 (from_4416 text)

abbrev from_4410 : List ℕ → Colour
from_4410 text = choice text Ycc444 D10 (from_4412 text)

abbrev from_448 : List ℕ → Colour
from_448 text = choice text Ycc444 D8 (from_4410 text)

abbrev from_2216 : List ℕ → Colour
from_2216 text = choice text Ycc422 D16 (from_448 text)

abbrev from_2212 : List ℕ → Colour
from_2212 text = choice text Ycc422 D12 (from_2216 text)

abbrev from_2210 : List ℕ → Colour
from_2210 text = choice text Ycc422 D10 (from_2212 text)

colour_found : (text : List ℕ) (c : Sampling × Depth) → colour_named text ≡ Ok c
    → ColourOf text c
unfolding colour_named
colour_found text c e =
    choice_found text Ycc422 D8 (from_2210 text) c tt
    (choice_found text Ycc422 D10 (from_2212 text) c tt
    (choice_found text Ycc422 D12 (from_2216 text) c tt
    (choice_found text Ycc422 D16 (from_448 text) c tt
    (choice_found text Ycc444 D8 (from_4410 text) c tt
    (choice_found text Ycc444 D10 (from_4412 text) c tt
    (choice_found text Ycc444 D12 (from_4416 text) c tt
    (choice_found text Ycc444 D16 no_colour c tt (no_colour_found text c)))))))) e

colour_word_says : (s : Sampling) (b : Depth) → IsYcc s → colour_named (colour_word s b) ≡ Ok (s, b)
unfolding colour_named
colour_word_says Ycc422 D8 is = refl
colour_word_says Ycc422 D10 is = refl
colour_word_says Ycc422 D12 is = refl
colour_word_says Ycc422 D16 is = refl
colour_word_says Ycc444 D8 is = refl
colour_word_says Ycc444 D10 is = refl
colour_word_says Ycc444 D12 is = refl
colour_word_says Ycc444 D16 is = refl
colour_word_says Rgb b is = absurd is

record ColourIn (o : Found) (c : Sampling × Depth) : Type 0 where
  there : o ≡ Some (colour_word c.0 c.1)
  ycc : IsYcc c.0

colour_in : (o : Found) (c : Sampling × Depth) → colour_at o ≡ Ok c → ColourIn o c
colour_in None c e = absurd cc
colour_in (Some text) c e =
    let is = colour_found text c e in
    record { there = ap (λ (t : List ℕ). let u : Found = Some t in u) is.word; ycc = is.ycc }

-- ---- the parameters

abbrev Answer : Type 0
Answer = Result Fields FormFault

abbrev after_colour : ℕ → ℕ → ℕ × ℕ → Sampling × Depth → Answer
after_colour w h r c = limited (format_at c.0 c.1 w h r.0 r.1)

abbrev after_scan : List (List ℕ) → ℕ → ℕ → ℕ × ℕ → ⊤ → Answer
after_scan ws w h r p = colour_at (told_last 67 None ws) >>= after_colour w h r

abbrev after_rate : List (List ℕ) → ℕ → ℕ → ℕ × ℕ → Answer
after_rate ws w h r = scan_at (told_last 73 None ws) >>= after_scan ws w h r

abbrev after_height : List (List ℕ) → ℕ → ℕ → Answer
after_height ws w h = rate_at (told_last 70 None ws) >>= after_rate ws w h

abbrev after_width : List (List ℕ) → ℕ → Answer
after_width ws w = number_at (told_last 72 None ws) >>= after_height ws w

pub line_says : (text : List ℕ) (f : Fields) → IsHead text f → head_at text ≡ Ok f
unfolding head_at
line_says text f is =
    let ws : List (List ℕ) = words text in
    ap (λ (r : Result ℕ FormFault). r >>= after_width ws)
    (at_says (last_of 87 text) is.width_text is.width (told_says 87 ws is.width_text is.is_width)
    is.width_is)
    ∙ ap (λ (r : Result ℕ FormFault). r >>= after_height ws is.width)
    (at_says (last_of 72 text) is.height_text is.height
    (told_says 72 ws is.height_text is.is_height) is.height_is)
    ∙ ap (λ (r : Result (ℕ × ℕ) FormFault). r >>= after_rate ws is.width is.height)
    (rate_says (last_of 70 text) is.rate is.n_text is.d_text is.n is.d
    (told_says 70 ws is.rate is.is_rate) is.rate_is is.n_is is.d_is)
    ∙ ap (λ (r : Result ⊤ FormFault). r >>= after_scan ws is.width is.height (is.n, is.d))
    (scan_says ws is.scan)
    ∙ ap (λ (r : Colour). r >>= after_colour is.width is.height (is.n, is.d))
    (ap colour_at (told_says 67 ws (colour_word is.sampling is.depth) is.is_colour)
    ∙ colour_word_says is.sampling is.depth is.ycc)
    ∙ ap limited is.format

pub line_found : (text : List ℕ) (f : Fields) → head_at text ≡ Ok f → IsHead text f
unfolding head_at
line_found text f e =
    let ws : List (List ℕ) = words text in
    let a = bind_ok (number_at (last_of 87 text)) (after_width ws) f e in
    let b = bind_ok (number_at (last_of 72 text)) (after_height ws a.0) f a.2 in
    let c = bind_ok (rate_at (last_of 70 text)) (after_rate ws a.0 b.0) f b.2 in
    let p = bind_ok (scan_at (last_of 73 text)) (after_scan ws a.0 b.0 c.0) f c.2 in
    let k = bind_ok (colour_at (last_of 67 text)) (after_colour a.0 b.0 c.0) f p.2 in
    let width = number_in (last_of 87 text) a.0 a.1 in
    let height = number_in (last_of 72 text) b.0 b.1 in
    let rate = rate_in (last_of 70 text) c.0 c.1 in
    let colour = colour_in (last_of 67 text) k.0 k.1 in
    record {
      width = a.0;
      height = b.0;
      n = c.0.0;
      d = c.0.1;
      sampling = k.0.0;
      depth = k.0.1;
      width_text = width.text;
      height_text = height.text;
      rate = rate.rate;
      n_text = rate.n_text;
      d_text = rate.d_text;
      is_width = told_found 87 ws width.text width.there;
      width_is = width.is;
      is_height = told_found 72 ws height.text height.there;
      height_is = height.is;
      is_rate = told_found 70 ws rate.rate rate.there;
      rate_is = rate.parts;
      n_is = rate.n_is;
      d_is = rate.d_is;
      scan = scan_in ws (last_of 73 text) p.0 refl p.1;
      is_colour = told_found 67 ws (colour_word k.0.0 k.0.1) colour.there;
      ycc = colour.ycc;
      format = limited_found (format_at k.0.0 k.0.1 a.0 b.0 c.0.0 c.0.1) f k.2;
    }

-- ---- the line

abbrev before : List ℕ → ℕ
before octets = position_or_len (λ octet. eqb octet 10) octets

-- octets with their first LF at a place
record CutAt (octets : List ℕ) (n : ℕ) : Type 0 where
  whole : octets ≡ take n octets ++ 10 ∷ drop (n + 1) octets
  plain : Plain (take n octets)

cut_more : (x : ℕ) (octets : List ℕ) (n m : ℕ) → x ≢ 10 → m ≡ suc n → CutAt octets n
    → CutAt (x ∷ octets) m
cut_more x octets n m other e h =
    let next : suc n + 1 ≡ suc (n + 1) = omega arith in
    subst (CutAt (x ∷ octets)) (sym e)
    (record {
      whole =
          ap (λ (t : List ℕ). x ∷ t) h.whole
          ∙ ap (λ (k : ℕ). x ∷ (take n octets ++ 10 ∷ drop k (x ∷ octets))) (sym next);
      plain = (other, h.plain);
    })

cut_case : (x : ℕ) (octets : List ℕ) (t : Bool) → eqb x 10 ≡ t
    → (before octets < length octets → CutAt octets (before octets))
    → before (x ∷ octets) < length (x ∷ octets) → CutAt (x ∷ octets) (before (x ∷ octets))
cut_case x octets true t more lt =
    let here : before (x ∷ octets) ≡ 0 = rw t refl in
    subst (CutAt (x ∷ octets)) (sym here)
    (record {
      whole = ap (λ (k : ℕ). k ∷ octets) (eqb-true x 10 t);
      plain = tt;
    })
cut_case x octets false t more lt =
    let there : before (x ∷ octets) ≡ 1 + before octets = rw t refl in
    let within : before octets < length octets = omega (arith, there, lt) in
    cut_more x octets (before octets) (before (x ∷ octets)) (eqb-false x 10 t)
    (there ∙ omega arith) (more within)

cut_at : (octets : List ℕ) → before octets < length octets → CutAt octets (before octets)
cut_at [] lt = absurd (omega (arith, lt))
cut_at (x ∷ octets) lt = cut_case x octets (eqb x 10) refl (cut_at octets) lt

abbrev Line : Type 0
Line = Result (List ℕ × List ℕ) FormFault

abbrev long_line : Line
long_line = Err BadHeader

abbrev no_line : Line
no_line = Err Truncated

record IsLine (most : ℕ) (octets text rest : List ℕ) : Type 0 where
  whole : octets ≡ text ++ 10 ∷ rest
  plain : Plain text
  short : length text < most

line_case : (most : ℕ) (octets text rest : List ℕ) (t u : Bool) → ltb (before octets) most ≡ t
    → ltb (before octets) (length octets) ≡ u
    → (let good : Line = Ok (take (before octets) octets, drop (before octets + 1) octets) in
    cond t (cond u good no_line) long_line) ≡ Ok (text, rest) → IsLine most octets text rest
line_case most octets text rest false u t v e = absurd cc
line_case most octets text rest true false t v e = absurd cc
line_case most octets text rest true true t v e =
    let n : ℕ = before octets in
    let good : Line = Ok (take n octets, drop (n + 1) octets) in
    let same : (text ≡ take n octets) × (rest ≡ drop (n + 1) octets) =
    same_value good (take n octets) text (drop (n + 1) octets) rest refl e in
    let within : n < length octets = ltb-true n (length octets) v in
    let few : n < most = ltb-true n most t in
    let h = cut_at octets within in
    record {
      whole =
          h.whole
          ∙ ap (λ (l : List ℕ). l ++ 10 ∷ drop (n + 1) octets) (sym same.0)
          ∙ ap (λ (l : List ℕ). text ++ 10 ∷ l) (sym same.1);
      plain = subst Plain (sym same.0) h.plain;
      short = omega (arith, ap length same.0, length-take-le n octets (omega (arith, within)), few);
    }

is_line : (most : ℕ) (octets text rest : List ℕ) → line_at most octets ≡ Ok (text, rest)
    → IsLine most octets text rest
unfolding line_at
is_line most octets text rest e =
    line_case most octets text rest (ltb (before octets) most)
    (ltb (before octets) (length octets)) refl refl e

-- ---- the head

abbrev named : Result ⊤ FormFault
named = Ok tt

abbrev other_name : Result ⊤ FormFault
other_name = Err BadMagic

name_case : (t : Bool) (name : List ℕ) (x : ⊤) → bytes_eq name (codes "YUV4MPEG2") ≡ t
    → cond t named other_name ≡ Ok x → name ≡ codes "YUV4MPEG2"
name_case true name x t e = (bytes_eq-Decides name (codes "YUV4MPEG2")).0 t
name_case false name x t e = absurd cc

abbrev after_field : List ℕ × List ℕ → Result (⊤ × List ℕ) FormFault
after_field y = with_rest (name_of y.0) y.1

name_found : (octets rest : List ℕ) (x : ⊤) → name_at octets ≡ Ok (x, rest)
    → octets ≡ codes "YUV4MPEG2" ++ rest
unfolding name_at
name_found octets rest x e =
    let a = bind_ok (field_at 9 octets) after_field (x, rest) e in
    let keep : ⊤ → Result (⊤ × List ℕ) FormFault = λ u. Ok (u, a.0.1) in
    let b = bind_ok (name_of a.0.0) keep (x, rest) a.2 in
    let name : a.0.0 ≡ codes "YUV4MPEG2" =
    name_case (bytes_eq a.0.0 (codes "YUV4MPEG2")) a.0.0 b.0 refl b.1 in
    let same : (rest ≡ a.0.1) = (same_value (keep b.0) b.0 x a.0.1 rest refl b.2).1 in
    field_found 9 octets a.0.0 a.0.1 a.1 ∙ ap (λ (t : List ℕ). t ++ a.0.1) name
    ∙ ap (λ (t : List ℕ). codes "YUV4MPEG2" ++ t) (sym same)

name_says : (rest : List ℕ) → name_at (codes "YUV4MPEG2" ++ rest) ≡ Ok (tt, rest)
unfolding name_at
name_says rest =
    ap (λ (r : Line). r >>= λ x. with_rest (name_of x.0) x.1)
    (field_again 9 (codes "YUV4MPEG2") rest refl)

abbrev after_line : List ℕ × List ℕ → Result (Fields × List ℕ) FormFault
after_line y = with_rest (head_at y.0) y.1

abbrev after_name : ⊤ × List ℕ → Result (Fields × List ℕ) FormFault
after_name x = line_at 256 x.1 >>= after_line

pub head_found : (octets rest : List ℕ) (f : Fields) → head_walk octets ≡ Ok (f, rest)
    → HasY4mHead octets rest f
unfolding head_walk
head_found octets rest f e =
    let a = bind_ok (name_at octets) after_name (f, rest) e in
    let b = bind_ok (line_at 256 a.0.1) after_line (f, rest) a.2 in
    let keep : Fields → Result (Fields × List ℕ) FormFault = λ g. Ok (g, b.0.1) in
    let c = bind_ok (head_at b.0.0) keep (f, rest) b.2 in
    let same : (f ≡ c.0) × (rest ≡ b.0.1) =
    same_value (keep c.0) c.0 f b.0.1 rest refl c.2 in
    let line = is_line 256 a.0.1 b.0.0 b.0.1 b.1 in
    record {
      text = b.0.0;
      whole =
          name_found octets a.0.1 a.0.0 a.1
          ∙ ap (λ (t : List ℕ). codes "YUV4MPEG2" ++ t)
          (line.whole ∙ ap (λ (t : List ℕ). b.0.0 ++ 10 ∷ t) (sym same.1));
      plain = line.plain;
      short = line.short;
      is = subst (IsHead b.0.0) (sym same.0) (line_found b.0.0 c.0 c.1);
    }

pub head_says : (octets rest : List ℕ) (f : Fields) → HasY4mHead octets rest f
    → head_walk octets ≡ Ok (f, rest)
unfolding head_walk
head_says octets rest f is =
    let line : List ℕ = is.text ++ 10 ∷ rest in
    ap (λ (o : List ℕ). name_at o >>= after_name) is.whole
    ∙ ap (λ (r : Result (⊤ × List ℕ) FormFault). r >>= after_name) (name_says line)
    ∙ ap (λ (o : List ℕ). line_at 256 o >>= after_line) (sym (append_assoc is.text (10 ∷ []) rest))
    ∙ ap (λ (r : Line). r >>= after_line) (line_again 256 is.text rest is.plain is.short)
    ∙ ap (λ (r : Answer). with_rest r rest) (line_says is.text f is.is)
