-- A pixmap's head is read exactly as what it says, and one that is written says its format.
use Rattle.std.proofs.Common.{◌≡◌, ℕ, ◌-◌, ◌^◌, ◌<◌, ◌≤◌, Bool, true, false, cond, eqb, ltb}
use Rattle.std.proofs.Common.{List, [], ◌∷◌, ◌++◌, length, take, drop, Some, Option, Result}
use Rattle.std.proofs.Common.{Ok, Err}
use Rattle.std.proofs.Common.{append_assoc, codes, decimal, refl, sym, ap, subst, ◌∙◌, lit<, arith}
use Rattle.std.specs.Prelude.{⊤}
use Rattle.std.specs.Char.{is_ascii_digit}
use Rattle.std.specs.List.{list_all}
use Rattle.std.specs.Option.{option_map}
use Rattle.std.specs.Str.{bytes_eq}
use Rattle.std.proofs.lemmas.Bool.{and_parts, cond-false, eqb-true}
use Rattle.std.proofs.lemmas.Bool.Decides.{nat_tests}
use Rattle.std.proofs.lemmas.Fmt.{decimal_nonempty, digits_decimal, digits_value-decimal}
use Rattle.std.proofs.lemmas.Fmt.{length-decimal-le}
use Rattle.std.proofs.lemmas.List.{length-append, length_push, take-append-drop}
use Rattle.std.proofs.lemmas.Slice.Eq.{bytes_eq-Decides}
use Rattle.st_format.specs.declared.sampling.Sampling.{Sampling}
use Rattle.st_format.specs.declared.sampling.Sampling.TheVariants.{Ycc422, Ycc444, Rgb}
use Rattle.st_format.specs.declared.sampling.Depth.{Depth}
use Rattle.st_format.specs.declared.sampling.Depth.TheVariants.{D8, D10, D12, D16}
use Rattle.st_format.specs.declared.format.Format.{Format}
use Rattle.st_format.specs.declared.format.FormatFault.{FormatFault}
use Rattle.st_format.specs.Fields.{Fields, fields_of, format_at}
use Rattle.st_format.specs.Given.{field_by, with_rest}
use Rattle.st_format.specs.Pgroup.{bits_of}
use Rattle.st_format.specs.Reading.{◌>>=◌}
use Rattle.st_format.proofs.Decimals.{digits}
use Rattle.st_format.proofs.Made.{format_at-fields}
use Rattle.st_format.proofs.Readings.{bind_ok}
use Rattle.picture_forms.specs.declared.fault.FormFault.{FormFault}
use Rattle.picture_forms.specs.declared.fault.FormFault.TheVariants.{BadMagic, Truncated}
use Rattle.picture_forms.specs.declared.fault.FormFault.TheVariants.{UnsupportedForm}
use Rattle.picture_forms.specs.declared.number_part.Stage.{Stage}
use Rattle.picture_forms.specs.declared.number_part.Stage.TheVariants.{Front, Gap}
use Rattle.picture_forms.specs.Heads.{limited}
use Rattle.picture_forms.specs.Layouts.{IsRgb, pixmap_head}
use Rattle.picture_forms.specs.Numbers.{IsGapOf, IsPixmapNumber, count_at, is_white, uncommented}
use Rattle.picture_forms.specs.Pixmaps.{HasPixmapHead, IsPixmapHead, depth_by, magic_at, magic_of}
use Rattle.picture_forms.specs.Pixmaps.{pixmap_format, pixmap_head_walk}
use Rattle.picture_forms.specs.Walks.{field_at}
use Rattle.picture_forms.proofs.Counted.{AreDigits, count_says, first_counted}
use Rattle.picture_forms.proofs.Counted.{next_counted}
use Rattle.picture_forms.proofs.Walked.{field_again, same_value}

abbrev Answer : Type 0
Answer = Result (Fields × List ℕ) FormFault

-- what is read behind each part
abbrev after_most : ℕ → ℕ → ℕ → ℕ → ℕ × List ℕ → Answer
after_most n d w h m = with_rest (pixmap_format n d w h m.0) m.1

abbrev after_height : ℕ → ℕ → ℕ → ℕ × List ℕ → Answer
after_height n d w h = count_at Gap h.1 >>= after_most n d w h.0

abbrev after_width : ℕ → ℕ → ℕ × List ℕ → Answer
after_width n d w = count_at Gap w.1 >>= after_height n d w.0

abbrev after_magic : ℕ → ℕ → ⊤ × List ℕ → Answer
after_magic n d x = count_at Front x.1 >>= after_width n d

-- ---- a head is read as what it says

magic_again : (rest : List ℕ) → magic_at (codes "P6" ++ rest) ≡ Ok (tt, rest)
unfolding magic_at
magic_again rest =
    ap (λ (r : Result (List ℕ × List ℕ) FormFault). r >>= λ x. with_rest (magic_of x.0) x.1)
    (field_again 2 (codes "P6") rest refl)

depth_again : (b : Depth) → depth_by (2 ^ bits_of b - 1) ≡ Ok b
depth_again D8 = refl
depth_again D10 = refl
depth_again D12 = refl
depth_again D16 = refl

format_says : (n d w h : ℕ) (b : Depth) (f : Fields) → format_at Rgb b w h n d ≡ Ok f
    → pixmap_format n d w h (2 ^ bits_of b - 1) ≡ Ok f
unfolding pixmap_format
format_says n d w h b f e =
    ap (λ (r : Result Depth FormFault). r >>= λ x. limited (format_at Rgb x w h n d))
    (depth_again b)
    ∙ ap limited e

head_text : (w h m behind : List ℕ)
    → (codes "P6" ++ (w ++ (h ++ m))) ++ behind ≡ codes "P6" ++ (w ++ (h ++ (m ++ behind)))
head_text w h m behind =
    append_assoc (codes "P6") (w ++ (h ++ m)) behind
    ∙ ap (λ (t : List ℕ). codes "P6" ++ t)
    (append_assoc w (h ++ m) behind ∙ ap (λ (t : List ℕ). w ++ t) (append_assoc h m behind))

pub head_says : (n d : ℕ) (head behind : List ℕ) (f : Fields) → IsPixmapHead n d head f
    → pixmap_head_walk n d (head ++ behind) ≡ Ok (f, behind)
unfolding pixmap_head_walk
head_says n d head behind f is =
    let most : ℕ = 2 ^ bits_of is.depth - 1 in
    let tail : List ℕ = is.height_text ++ (is.most_text ++ behind) in
    ap (λ (o : List ℕ). magic_at o >>= after_magic n d)
    (ap (λ (t : List ℕ). t ++ behind) is.parts
    ∙ head_text is.width_text is.height_text is.most_text behind)
    ∙ ap (λ (r : Result (⊤ × List ℕ) FormFault). r >>= after_magic n d)
    (magic_again (is.width_text ++ tail))
    ∙ ap (λ (r : Result (ℕ × List ℕ) FormFault). r >>= after_width n d)
    (count_says Front is.width_text tail is.width is.is_width)
    ∙ ap (λ (r : Result (ℕ × List ℕ) FormFault). r >>= after_height n d is.width)
    (count_says Gap is.height_text (is.most_text ++ behind) is.height is.is_height)
    ∙ ap (λ (r : Result (ℕ × List ℕ) FormFault). r >>= after_most n d is.width is.height)
    (count_says Gap is.most_text behind most is.is_most)
    ∙ ap (λ (r : Result Fields FormFault). with_rest r behind)
    (format_says n d is.width is.height is.depth f is.format)

-- ---- what is read is a head

abbrev cut_field : Result (List ℕ × List ℕ) FormFault
cut_field = Err Truncated

field_case : (t : Bool) (octets a b x y : List ℕ) → x ++ y ≡ octets
    → cond t cut_field (Ok (x, y)) ≡ Ok (a, b) → octets ≡ a ++ b
field_case true octets a b x y all e = absurd cc
field_case false octets a b x y all e =
    let good : Result (List ℕ × List ℕ) FormFault = Ok (x, y) in
    let same : (a ≡ x) × (b ≡ y) = same_value good x a y b refl e in
    sym all ∙ ap (λ (t : List ℕ). t ++ y) (sym same.0) ∙ ap (λ (t : List ℕ). a ++ t) (sym same.1)

pub field_found : (n : ℕ) (octets a b : List ℕ) → field_at n octets ≡ Ok (a, b) → octets ≡ a ++ b
unfolding field_by
field_found n octets a b e =
    field_case (ltb (length octets) n) octets a b (take n octets) (drop n octets)
    (take-append-drop n octets) e

abbrev named : Result ⊤ FormFault
named = Ok tt

abbrev other_name : Result ⊤ FormFault
other_name = Err BadMagic

name_case : (t : Bool) (name : List ℕ) (x : ⊤) → bytes_eq name (codes "P6") ≡ t
    → cond t named other_name ≡ Ok x → name ≡ codes "P6"
name_case true name x t e = (bytes_eq-Decides name (codes "P6")).0 t
name_case false name x t e = absurd cc

abbrev after_field : List ℕ × List ℕ → Result (⊤ × List ℕ) FormFault
after_field y = with_rest (magic_of y.0) y.1

magic_found : (octets rest : List ℕ) (x : ⊤) → magic_at octets ≡ Ok (x, rest)
    → octets ≡ codes "P6" ++ rest
unfolding magic_at
magic_found octets rest x e =
    let a = bind_ok (field_at 2 octets) after_field (x, rest) e in
    let keep : ⊤ → Result (⊤ × List ℕ) FormFault = λ u. Ok (u, a.0.1) in
    let b = bind_ok (magic_of a.0.0) keep (x, rest) a.2 in
    let name : a.0.0 ≡ codes "P6" =
    name_case (bytes_eq a.0.0 (codes "P6")) a.0.0 b.0 refl b.1 in
    let same : (rest ≡ a.0.1) = (same_value (keep b.0) b.0 x a.0.1 rest refl b.2).1 in
    field_found 2 octets a.0.0 a.0.1 a.1 ∙ ap (λ (t : List ℕ). t ++ a.0.1) name
    ∙ ap (λ (t : List ℕ). codes "P6" ++ t) (sym same)

abbrev deep : Depth → Result Depth FormFault
deep b = Ok b

abbrev not_deep : Result Depth FormFault
not_deep = Err UnsupportedForm

depth_case : (m : ℕ) (b : Depth) (t u v w : Bool) → eqb m 255 ≡ t → eqb m 1023 ≡ u
    → eqb m 4095 ≡ v → eqb m 65535 ≡ w
    → cond t (deep D8) (cond u (deep D10) (cond v (deep D12) (cond w (deep D16) not_deep)))
    ≡ Ok b → m ≡ 2 ^ bits_of b - 1
depth_case m b true u v w p q r s e =
    let same : D8 ≡ b = cc in
    eqb-true m 255 p ∙ ap (λ (x : Depth). 2 ^ bits_of x - 1) same
depth_case m b false true v w p q r s e =
    let same : D10 ≡ b = cc in
    eqb-true m 1023 q ∙ ap (λ (x : Depth). 2 ^ bits_of x - 1) same
depth_case m b false false true w p q r s e =
    let same : D12 ≡ b = cc in
    eqb-true m 4095 r ∙ ap (λ (x : Depth). 2 ^ bits_of x - 1) same
depth_case m b false false false true p q r s e =
    let same : D16 ≡ b = cc in
    eqb-true m 65535 s ∙ ap (λ (x : Depth). 2 ^ bits_of x - 1) same
depth_case m b false false false false p q r s e = absurd cc

depth_found : (m : ℕ) (b : Depth) → depth_by m ≡ Ok b → m ≡ 2 ^ bits_of b - 1
depth_found m b e =
    depth_case m b (eqb m 255) (eqb m 1023) (eqb m 4095) (eqb m 65535) refl refl refl refl e

pub limited_found : (r : Result Fields FormatFault) (f : Fields) → limited r ≡ Ok f → r ≡ Ok f
limited_found (Ok g) f e =
    let same : g ≡ f = cc in
    ap (λ (x : Fields). let s : Result Fields FormatFault = Ok x in s) same
limited_found (Err g) f e = absurd cc

-- the greatest value is a depth's, and the format is one
record IsFormat (n d w h m : ℕ) (f : Fields) : Type 0 where
  depth : Depth
  most : m ≡ 2 ^ bits_of depth - 1
  format : format_at Rgb depth w h n d ≡ Ok f

format_found : (n d w h m : ℕ) (f : Fields) → pixmap_format n d w h m ≡ Ok f
    → IsFormat n d w h m f
unfolding pixmap_format
format_found n d w h m f e =
    let a = bind_ok (depth_by m) (λ (b : Depth). limited (format_at Rgb b w h n d)) f e in
    record {
      depth = a.0;
      most = depth_found m a.0 a.1;
      format = limited_found (format_at Rgb a.0 w h n d) f a.2;
    }

pub head_found : (n d : ℕ) (octets rest : List ℕ) (f : Fields)
    → pixmap_head_walk n d octets ≡ Ok (f, rest) → HasPixmapHead n d octets rest f
unfolding pixmap_head_walk
head_found n d octets rest f e =
    let a = bind_ok (magic_at octets) (after_magic n d) (f, rest) e in
    let b = bind_ok (count_at Front a.0.1) (after_width n d) (f, rest) a.2 in
    let c = bind_ok (count_at Gap b.0.1) (after_height n d b.0.0) (f, rest) b.2 in
    let m = bind_ok (count_at Gap c.0.1) (after_most n d b.0.0 c.0.0) (f, rest) c.2 in
    let keep : Fields → Answer = λ g. Ok (g, m.0.1) in
    let z = bind_ok (pixmap_format n d b.0.0 c.0.0 m.0.0) keep (f, rest) m.2 in
    let same : (f ≡ z.0) × (rest ≡ m.0.1) =
    same_value (keep z.0) z.0 f m.0.1 rest refl z.2 in
    let width = first_counted a.0.1 b.0.1 b.0.0 b.1 in
    let height = next_counted b.0.1 c.0.1 c.0.0 c.1 in
    let most = next_counted c.0.1 m.0.1 m.0.0 m.1 in
    let is = format_found n d b.0.0 c.0.0 m.0.0 z.0 z.1 in
    record {
      head = codes "P6" ++ (width.text ++ (height.text ++ most.text));
      is = record {
        width = b.0.0;
        height = c.0.0;
        depth = is.depth;
        width_text = width.text;
        height_text = height.text;
        most_text = most.text;
        parts = refl;
        is_width = width.is;
        is_height = height.is;
        is_most = subst (λ (k : ℕ). IsPixmapNumber Gap most.text k) is.most most.is;
        format =
            is.format
            ∙ ap (λ (x : Fields). let s : Result Fields FormatFault = Ok x in s) (sym same.0);
      };
      whole =
          magic_found octets a.0.1 a.0.0 a.1
          ∙ ap (λ (t : List ℕ). codes "P6" ++ t)
          (width.whole
          ∙ ap (λ (t : List ℕ). width.text ++ t)
          (height.whole
          ∙ ap (λ (t : List ℕ). height.text ++ t)
          (most.whole ∙ ap (λ (t : List ℕ). most.text ++ t) (sym same.1))))
          ∙ sym (head_text width.text height.text most.text rest);
    }

-- ---- what is written says its format

digit_no_mark : (o : ℕ) → is_ascii_digit o ≡ true → eqb o 35 ≡ false
digit_no_mark o d = grind (arith, nat_tests)

-- digits have no comment
digits_plain : (ds : List ℕ) → AreDigits ds → uncommented ds false ≡ Some ds
digits_plain [] all = refl
digits_plain (o ∷ ds) all =
    let parts = and_parts (is_ascii_digit o) (list_all is_ascii_digit ds) all in
    cond-false (eqb o 35) (uncommented ds true)
    (option_map (λ p. o ∷ p) (uncommented ds false)) (digit_no_mark o parts.0)
    ∙ ap (λ (u : Option (List ℕ)). option_map (λ p. o ∷ p) u) (digits_plain ds parts.1)

-- a number behind white space that needs no comment
number_text : (s : Stage) (gap : List ℕ) (k last : ℕ) → k < 100000 → IsGapOf s gap
    → list_all is_white gap ≡ true → uncommented (gap ++ decimal k) false ≡ Some (gap ++ decimal k)
    → length gap ≤ 1 → is_white last ≡ true → IsPixmapNumber s (gap ++ (decimal k ++ last ∷ [])) k
number_text s gap k last small before white plain short ended =
    let wide : k < 2 ^ 64 = omega (arith, small) in
    let few : length (decimal k) ≤ 5 =
    length-decimal-le 5 k (lit< tt) (omega (arith, small)) wide in
    record {
      front = gap ++ decimal k;
      last = last;
      gap = gap;
      digits = decimal k;
      parts = sym (append_assoc gap (decimal k) (last ∷ []));
      plain = plain;
      white = white;
      before = before;
      numeral = (decimal_nonempty k wide, digits.to (decimal k) (digits_decimal digits k wide));
      value_is = digits_value-decimal digits k wide;
      small = small;
      ended = ended;
      few =
          omega (
            arith,
            few,
            short,
            length-append gap (decimal k ++ last ∷ []),
            length_push (decimal k) last,
          );
    }

decimal_plain : (k : ℕ) → k < 100000 → uncommented (decimal k) false ≡ Some (decimal k)
decimal_plain k small =
    digits_plain (decimal k) (digits_decimal digits k (omega (arith, small)))

most_small : (b : Depth) → 2 ^ bits_of b - 1 < 100000
most_small D8 = lit< tt
most_small D10 = lit< tt
most_small D12 = lit< tt
most_small D16 = lit< tt

is_rgb : (s : Sampling) → IsRgb s → s ≡ Rgb
is_rgb Ycc422 is = absurd is
is_rgb Ycc444 is = absurd is
is_rgb Rgb is = refl

abbrev width_text : Format → List ℕ
width_text f = codes "\n" ++ (decimal f.width ++ 32 ∷ [])

abbrev height_text : Format → List ℕ
height_text f = decimal f.height ++ 10 ∷ []

abbrev most_text : Format → List ℕ
most_text f = decimal (2 ^ bits_of f.depth - 1) ++ 10 ∷ []

written_parts : (f : Format)
    → pixmap_head f ≡ codes "P6" ++ (width_text f ++ (height_text f ++ most_text f))
unfolding pixmap_head
written_parts f = simp append_assoc

written_head : (f : Format) → IsRgb f.sampling
    → IsPixmapHead f.n f.d (pixmap_head f) (fields_of f)
written_head f is =
    let most : ℕ = 2 ^ bits_of f.depth - 1 in
    let wide : f.width < 100000 = omega (arith, f.whole_width.most) in
    let high : f.height < 100000 = omega (arith, f.whole_height.most) in
    let width_plain : uncommented (codes "\n" ++ decimal f.width) false
    ≡ Some (codes "\n" ++ decimal f.width) =
    ap (λ (u : Option (List ℕ)). option_map (λ p. 10 ∷ p) u) (decimal_plain f.width wide) in
    record {
      width = f.width;
      height = f.height;
      depth = f.depth;
      width_text = width_text f;
      height_text = height_text f;
      most_text = most_text f;
      parts = written_parts f;
      is_width =
          number_text Front (codes "\n") f.width 32 wide (omega arith) refl width_plain
          (omega arith) refl;
      is_height =
          number_text Gap [] f.height 10 high tt refl (decimal_plain f.height high) (omega arith)
          refl;
      is_most =
          number_text Gap [] most 10 (most_small f.depth) tt refl
          (decimal_plain most (most_small f.depth)) (omega arith) refl;
      format =
          ap (λ (s : Sampling). format_at s f.depth f.width f.height f.n f.d)
          (sym (is_rgb f.sampling is))
          ∙ format_at-fields f;
    }

pub pixmap_head_again : (f : Format) (behind : List ℕ) → IsRgb f.sampling
    → pixmap_head_walk f.n f.d (pixmap_head f ++ behind) ≡ Ok (fields_of f, behind)
pixmap_head_again f behind is =
    head_says f.n f.d (pixmap_head f) behind (fields_of f) (written_head f is)
