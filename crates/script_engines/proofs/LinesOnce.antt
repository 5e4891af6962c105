-- A line is of one kind, and a line `format` says one format.
use Rattle.std.proofs.Common.{◌≡◌, ℕ, ◌⊎◌, List, ◌++◌, Option, Some, Result, Ok}
use Rattle.std.proofs.Common.{codes, get_or, refl, sym, ap, ◌∙◌, arith, inl, inr}
use Rattle.std.specs.Prelude.{◌==◌, if◌then◌else◌}
use Rattle.std.specs.Str.Parse.{digits_value}
use Rattle.std.proofs.lemmas.Option.{some_pair_parts}
use Rattle.st_format.specs.declared.format.Format.{Format}
use Rattle.st_format.specs.declared.format.FormatFault.{FormatFault}
use Rattle.st_format.specs.declared.path.Path.{Path}
use Rattle.st_format.specs.declared.path.Path.TheVariants as path
use Rattle.st_format.specs.declared.sampling.Sampling.{Sampling}
use Rattle.st_format.specs.declared.sampling.Sampling.TheVariants.{Ycc422, Ycc444, Rgb}
use Rattle.st_format.specs.declared.sampling.Depth.{Depth}
use Rattle.st_format.specs.declared.sampling.Depth.TheVariants.{D8, D10, D12, D16}
use Rattle.st_format.specs.Fields.{Fields, fields_of, format_at}
use Rattle.st_format.specs.Pgroup.{bits_of}
use Rattle.st_format.specs.Text.{parted}
use Rattle.st_format.specs.Words.{sampling_text}
use Rattle.st_format.proofs.SameFields.{same_format}
use Rattle.path_receiver.specs.Frames.{State}
use Rattle.path_receiver.specs.Numbers.{Numbers}
use Rattle.run_outcome.specs.Timestamps.{IsNumberOf}
use Rattle.run_outcome.specs.declared.line.Line.{Line}
use Rattle.script_engines.specs.declared.line.FormatLine.{FormatLine}
use Rattle.script_engines.specs.declared.line.TraceLine.{TraceLine}
use Rattle.script_engines.specs.declared.line.TraceLine.TheVariants as line
use Rattle.script_engines.specs.FirstLines.{ReadsFormat}
use Rattle.script_engines.specs.Forms.{IsFormatLine, IsOctetsText}
use Rattle.script_engines.specs.Forms.{IsTraceLine}
use Rattle.script_engines.specs.Session.{AnswersDatagram, Follows}
use Rattle.script_engines.proofs.FormLemmas.{same_rest}

pub one_number : (a b : List ℕ) (m n : ℕ) → a ≡ b → IsNumberOf a m → IsNumberOf b n → m ≡ n
one_number a b m n same p q =
    p.value ∙ ap (λ (text : List ℕ). digits_value 10 text) same ∙ sym q.value

-- ---- a line `format`

same_word : (a b : Sampling) → sampling_text a ≡ sampling_text b → a ≡ b
same_word Ycc422 Ycc422 e = refl
same_word Ycc422 Ycc444 e =
    let n : 50 ≡ 52 = ap (λ (l : List ℕ). get_or l 8 0) e in absurd (omega (arith, n))
same_word Ycc422 Rgb e =
    let n : 50 ≡ 0 = ap (λ (l : List ℕ). get_or l 8 0) e in absurd (omega (arith, n))
same_word Ycc444 Ycc422 e =
    let n : 52 ≡ 50 = ap (λ (l : List ℕ). get_or l 8 0) e in absurd (omega (arith, n))
same_word Ycc444 Ycc444 e = refl
same_word Ycc444 Rgb e =
    let n : 52 ≡ 0 = ap (λ (l : List ℕ). get_or l 8 0) e in absurd (omega (arith, n))
same_word Rgb Ycc422 e =
    let n : 0 ≡ 50 = ap (λ (l : List ℕ). get_or l 8 0) e in absurd (omega (arith, n))
same_word Rgb Ycc444 e =
    let n : 0 ≡ 52 = ap (λ (l : List ℕ). get_or l 8 0) e in absurd (omega (arith, n))
same_word Rgb Rgb e = refl

-- the depth of so many bits, where there is one
abbrev depth_by : ℕ → Depth
depth_by n = if n == 8 then D8 else (if n == 10 then D10 else (if n == 12 then D12 else D16))

depth_back : (d : Depth) → depth_by (bits_of d) ≡ d
depth_back D8 = refl
depth_back D10 = refl
depth_back D12 = refl
depth_back D16 = refl

same_bits : (a b : Depth) → bits_of a ≡ bits_of b → a ≡ b
same_bits a b e = sym (depth_back a) ∙ ap depth_by e ∙ depth_back b

-- what a line makes
abbrev pub made_by : FormatLine → Result Fields FormatFault
made_by f = format_at f.sampling f.depth f.width f.height f.n f.d

pub record SameLine (f g : FormatLine) : Type 0 where
  sampling : f.sampling ≡ g.sampling
  depth : f.depth ≡ g.depth
  width : f.width ≡ g.width
  height : f.height ≡ g.height
  n : f.n ≡ g.n
  d : f.d ≡ g.d

pub same_made : (f g : FormatLine) → SameLine f g → made_by f ≡ made_by g
same_made f g s = rw (s.sampling, s.depth, s.width, s.height, s.n, s.d) refl

abbrev Part : Type 0
Part = Option (List ℕ × List ℕ)

-- the two parts of one text
pub parts : (mark : ℕ) (text other a b x y : List ℕ) → text ≡ other → parted mark text ≡ Some (a, b)
    → parted mark other ≡ Some (x, y) → (a ≡ x) × (b ≡ y)
parts mark text other a b x y same p q =
    some_pair_parts a x b y
    (sym p ∙ ap (λ (l : List ℕ). let r : Part = parted mark l in r) same ∙ q)

pub same_line : (text other : List ℕ) (f g : FormatLine) → text ≡ other → IsFormatLine text f
    → IsFormatLine other g → SameLine f g
same_line text other f g same p q =
    let rest = same_rest (codes "format ") p.rest q.rest (sym p.text_is ∙ same ∙ q.text_is) in
    let a = p.fields in
    let b = q.fields in
    let one =
    parts 32 p.rest q.rest (sampling_text f.sampling) a.behind (sampling_text g.sampling) b.behind
    rest a.parts b.parts in
    let two = parts 32 a.behind b.behind a.depth a.more b.depth b.more one.1 a.parts_behind
    b.parts_behind in
    let three = parts 32 a.more b.more a.width a.last b.width b.last two.1 a.parts_more
    b.parts_more in
    let h = a.last_are in
    let i = b.last_are in
    let four = parts 32 a.last b.last h.first h.rate i.first i.rate three.1 h.parts i.parts in
    let r = h.rate_is in
    let s = i.rate_is in
    let five = parts 47 h.rate i.rate r.over r.under s.over s.under four.1 r.parts s.parts in
    record {
      sampling = same_word f.sampling g.sampling one.0;
      depth =
          same_bits f.depth g.depth
          (one_number a.depth b.depth (bits_of f.depth) (bits_of g.depth) two.0 a.depth_is
          b.depth_is);
      width = one_number a.width b.width f.width g.width three.0 a.width_is b.width_is;
      height = one_number h.first i.first f.height g.height four.0 h.height_is i.height_is;
      n = one_number r.over s.over f.n g.n five.0 r.over_is s.over_is;
      d = one_number r.under s.under f.d g.d five.1 r.under_is s.under_is;
    }

same_ok : (x y : Fields) → (let r : Result Fields FormatFault = Ok x in r ≡ Ok y) → x ≡ y
same_ok x y h = cc

pub one_format : (lines behind others after : List (ℕ × List ℕ)) (f g : Format)
    (p : ReadsFormat lines behind (Ok (fields_of f)))
    (q : ReadsFormat others after (Ok (fields_of g))) → p.text ≡ q.text → f ≡ g
one_format lines behind others after f g p q same =
    let made = same_made p.said q.said
    (same_line p.text q.text p.said q.said same p.line_is q.line_is) in
    same_format f g
    (same_ok (fields_of f) (fields_of g) (p.made_is ∙ made ∙ sym q.made_is))

-- ---- a line behind the first two

-- a datagram came, and this was done with it
pub record BringsDatagram (text : List ℕ) (old new : State) (before after : Option Numbers)
    (answer : Option Line) : Type 0 where
  pub path : Path
  pub digits : List ℕ
  pub octets : List ℕ
  pub text_is : (text ≡ codes "A " ++ digits) ⊎ (text ≡ codes "B " ++ digits)
  pub said : IsOctetsText digits octets
  pub answers : AnswersDatagram path octets old new before after answer

-- the receiver stays as it is
pub record LeavesReceiver (text : List ℕ) (old new : State) : Type 0 where
  pub rest : List ℕ
  pub text_is : (text ≡ codes "numbers " ++ rest) ⊎ (text ≡ codes "cell " ++ rest)
  pub same : new ≡ old

pub line_kinds : (text : List ℕ) (said : TraceLine) (old new : State)
    (before after : Option Numbers) (answer : Option Line) → IsTraceLine text said
    → Follows said old new before after answer
    → BringsDatagram text old new before after answer
    ⊎ (((rest : List ℕ) × (text ≡ codes "slide " ++ rest)) ⊎ LeavesReceiver text old new)
line_kinds text (line.Datagram path.A digits) old new before after answer is does =
    inl (record {
      path = path.A;
      digits = digits.now;
      octets = does.0;
      text_is = inl is;
      said = does.2;
      answers = does.3;
    })
line_kinds text (line.Datagram path.B digits) old new before after answer is does =
    inl (record {
      path = path.B;
      digits = digits.now;
      octets = does.0;
      text_is = inr is;
      said = does.2;
      answers = does.3;
    })
line_kinds text (line.Slide timestamp) old new before after answer is does =
    inr (inl (is.0, is.1))
line_kinds text (line.Numbers first count) old new before after answer is does =
    inr (inr (record { rest = is.0; text_is = inl is.1; same = does.receiver }))
line_kinds text (line.Cell place) old new before after answer is does =
    inr (inr (record { rest = is.0; text_is = inr is.1; same = does.receiver }))
