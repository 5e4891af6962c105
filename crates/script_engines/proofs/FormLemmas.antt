-- Texts that are no line of a form.
use Rattle.std.proofs.Common.{◌≡◌, ◌≢◌, ℕ, false, ◌==◌, List, [], ◌∷◌, ◌++◌, codes, drop, get_or}
use Rattle.std.proofs.Common.{Option, None, Some, IfNone, IfSome, ◌≤◌, refl, ap, sym, subst, ◌∙◌}
use Rattle.std.proofs.lemmas.Bool.{eqb-false}
use Rattle.std.proofs.lemmas.Option.{some_pair_parts}
use Rattle.st_format.specs.declared.path.Path.TheVariants as path
use Rattle.st_format.specs.declared.sampling.Sampling.{Sampling}
use Rattle.st_format.specs.declared.sampling.Depth.{Depth}
use Rattle.st_format.specs.Pgroup.{bits_of}
use Rattle.script_engines.specs.declared.line.FormatLine.{FormatLine}
use Rattle.script_engines.specs.declared.line.SamplePlace.{SamplePlace}
use Rattle.script_engines.specs.declared.line.TraceLine.{TraceLine}
use Rattle.script_engines.specs.declared.line.TraceLine.TheVariants.{Datagram, Slide, Numbers, Cell}
use Rattle.st_format.specs.Text.{parted}
use Rattle.script_engines.specs.Forms.{AreFormat, AreFour, AreHeightAndRate, AreOpening, AreTwo}
use Rattle.script_engines.specs.Forms.{IsFormatLine, IsOpenLine, IsRateText, IsTraceLine}
use Rattle.st_format.specs.Words.{sampling_text}
use Rattle.run_outcome.specs.Sources.{IsSourceText}
use Rattle.run_outcome.specs.Timestamps.{IsNumberOf}

pub if_none : {X P : Type 0} (r : Option X) → r ≡ None → P → IfNone r P
if_none None e p = p
if_none (Some x) e p = absurd cc

-- texts of different first letters differ
pub differ : (text u v : List ℕ) → (get_or u 0 0 == get_or v 0 0) ≡ false → text ≡ u → text ≡ v → ⊥
differ text u v none e f =
    eqb-false (get_or u 0 0) (get_or v 0 0) none (ap (λ (l : List ℕ). get_or l 0 0) (sym e ∙ f))

pub same_rest : (w a b : List ℕ) → w ++ a ≡ w ++ b → a ≡ b
same_rest [] a b e = e
same_rest (x ∷ w) a b e = same_rest w a b (ap (λ (l : List ℕ). drop 1 l) e)

-- where the last two of four are no two numbers, they are not four
pub four_none : (text timestamp behind row last : List ℕ)
    → parted 32 text ≡ Some (timestamp, behind) → parted 32 behind ≡ Some (row, last)
    → ((m n : ℕ) → AreTwo last m n → ⊥) → (place : SamplePlace) → AreFour text place → ⊥
four_none text timestamp behind row last e f none place four =
    let a : behind ≡ four.behind =
    (some_pair_parts timestamp four.timestamp behind four.behind (sym e ∙ four.parts)).1 in
    let b : last ≡ four.last =
    (some_pair_parts row four.row last four.last (sym f ∙ ap (λ (l : List ℕ). parted 32 l) a
    ∙ four.parts_behind)).1 in
    none place.column place.component (subst (λ (l : List ℕ). AreTwo l place.column place.component)
    (sym b) four.last_are)

-- a line `numbers` whose rest is no two numbers
pub numbers_none : (text rest : List ℕ) → text ≡ codes "numbers " ++ rest
    → ((m n : ℕ) → AreTwo rest m n → ⊥) → (line : TraceLine) → IsTraceLine text line → ⊥
numbers_none text rest e none (Datagram path.A digits) is =
    differ text (codes "A " ++ digits.now) (codes "numbers " ++ rest) refl is e
numbers_none text rest e none (Datagram path.B digits) is =
    differ text (codes "B " ++ digits.now) (codes "numbers " ++ rest) refl is e
numbers_none text rest e none (Slide timestamp) is =
    differ text (codes "slide " ++ is.0) (codes "numbers " ++ rest) refl is.1 e
numbers_none text rest e none (Numbers first count) is =
    none first count (subst (λ (l : List ℕ). AreTwo l first count)
    (same_rest (codes "numbers ") is.0 rest (sym is.1 ∙ e)) is.2)
numbers_none text rest e none (Cell place) is =
    differ text (codes "cell " ++ is.0) (codes "numbers " ++ rest) refl is.1 e

-- a line `cell` whose rest is no four numbers
pub cell_none : (text rest : List ℕ) → text ≡ codes "cell " ++ rest
    → ((place : SamplePlace) → AreFour rest place → ⊥) → (line : TraceLine)
    → IsTraceLine text line → ⊥
cell_none text rest e none (Datagram path.A digits) is =
    differ text (codes "A " ++ digits.now) (codes "cell " ++ rest) refl is e
cell_none text rest e none (Datagram path.B digits) is =
    differ text (codes "B " ++ digits.now) (codes "cell " ++ rest) refl is e
cell_none text rest e none (Slide timestamp) is =
    differ text (codes "slide " ++ is.0) (codes "cell " ++ rest) refl is.1 e
cell_none text rest e none (Numbers first count) is =
    differ text (codes "numbers " ++ is.0) (codes "cell " ++ rest) refl is.1 e
cell_none text rest e none (Cell place) is =
    none place (subst (λ (l : List ℕ). AreFour l place)
    (same_rest (codes "cell ") is.0 rest (sym is.1 ∙ e)) is.2)

pub if_none_map : {X P Q : Type 0} (r : Option X) → (P → Q) → IfNone r P → IfNone r Q
if_none_map None f p = f p
if_none_map (Some x) f p = p

pub if_some_map : {X : Type 0} {P Q : X → Type 0} (r : Option X) → ((x : X) → P x → Q x)
    → IfSome r P → IfSome r Q
if_some_map None f p = p
if_some_map (Some x) f p = f x p

-- ---- what is no line `format`

pub rate_none : (text first rate : List ℕ) → parted 32 text ≡ Some (first, rate)
    → ((n d : ℕ) → IsRateText rate n d → ⊥)
    → (height n d : ℕ) → AreHeightAndRate text height n d → ⊥
rate_none text first rate e none height n d all =
    let a : rate ≡ all.rate = (some_pair_parts first all.first rate all.rate
    (sym e ∙ all.parts)).1 in
    none n d (subst (λ (l : List ℕ). IsRateText l n d) (sym a) all.rate_is)

pub sampling_none : (text word behind : List ℕ) → parted 32 text ≡ Some (word, behind)
    → ((s : Sampling) → word ≢ sampling_text s)
    → (f : FormatLine) → AreFormat text f → ⊥
sampling_none text word behind e none f all =
    none f.sampling (some_pair_parts word (sampling_text f.sampling) behind all.behind
    (sym e ∙ all.parts)).0

pub second_same : (text a b c d : List ℕ) → parted 32 text ≡ Some (a, b)
    → parted 32 text ≡ Some (c, d) → (a ≡ c) × (b ≡ d)
second_same text a b c d e f = some_pair_parts a c b d (sym e ∙ f)

pub later : (x y : List ℕ) (p : Option (List ℕ × List ℕ)) → x ≡ y → parted 32 y ≡ p
    → parted 32 x ≡ p
later x y p same e = ap (λ (l : List ℕ). parted 32 l) same ∙ e

pub depth_none : (text word behind depth more : List ℕ) → parted 32 text ≡ Some (word, behind)
    → parted 32 behind ≡ Some (depth, more)
    → ((d : Depth) → IsNumberOf depth (bits_of d) → ⊥) → (f : FormatLine) → AreFormat text f → ⊥
depth_none text word behind depth more e g none f all =
    let a = second_same text word behind (sampling_text f.sampling) all.behind e all.parts in
    let b = second_same behind depth more all.depth all.more g
    (later behind all.behind (Some (all.depth, all.more)) a.1 all.parts_behind) in
    none f.depth (subst (λ (l : List ℕ). IsNumberOf l (bits_of f.depth)) (sym b.0) all.depth_is)

pub height_none : (text word behind depth more width last : List ℕ)
    → parted 32 text ≡ Some (word, behind) → parted 32 behind ≡ Some (depth, more)
    → parted 32 more ≡ Some (width, last) → ((height n d : ℕ) → AreHeightAndRate last height n d
    → ⊥) → (f : FormatLine) → AreFormat text f → ⊥
height_none text word behind depth more width last e g h none f all =
    let a = second_same text word behind (sampling_text f.sampling) all.behind e all.parts in
    let b = second_same behind depth more all.depth all.more g
    (later behind all.behind (Some (all.depth, all.more)) a.1 all.parts_behind) in
    let c = second_same more width last all.width all.last h
    (later more all.more (Some (all.width, all.last)) b.1 all.parts_more) in
    none f.height f.n f.d (subst (λ (l : List ℕ). AreHeightAndRate l f.height f.n f.d)
    (sym c.1) all.last_are)

pub format_none : (text rest : List ℕ) → text ≡ codes "format " ++ rest
    → ((f : FormatLine) → AreFormat rest f → ⊥) → (f : FormatLine) → IsFormatLine text f → ⊥
format_none text rest e none f all =
    none f (subst (λ (l : List ℕ). AreFormat l f)
    (same_rest (codes "format ") all.rest rest (sym all.text_is ∙ e)) all.fields)

-- ---- what is no line `open`

pub type_none : (text number behind : List ℕ) → parted 32 text ≡ Some (number, behind)
    → ((n : ℕ) → n ≤ 127 → IsNumberOf number n → ⊥)
    → (payload_type : ℕ) (ssrc : Option ℕ) (window : List ℕ)
    → AreOpening text payload_type ssrc window → ⊥
type_none text number behind e none payload_type ssrc window all =
    let a = second_same text number behind all.number all.behind e all.parts in
    none payload_type all.seven_bits (subst (λ (l : List ℕ). IsNumberOf l payload_type)
    (sym a.0) all.number_is)

pub source_none : (text number behind source said : List ℕ) → parted 32 text ≡ Some (number, behind)
    → parted 32 behind ≡ Some (source, said)
    → ((s : Option ℕ) → IsSourceText source s → ⊥)
    → (payload_type : ℕ) (ssrc : Option ℕ) (window : List ℕ)
    → AreOpening text payload_type ssrc window → ⊥
source_none text number behind source said e g none payload_type ssrc window all =
    let a = second_same text number behind all.number all.behind e all.parts in
    let b = second_same behind source said all.source window g
    (later behind all.behind (Some (all.source, window)) a.1 all.parts_behind) in
    none ssrc (subst (λ (l : List ℕ). IsSourceText l ssrc) (sym b.0) all.source_is)

pub open_none : (text rest : List ℕ) → text ≡ codes "open " ++ rest
    → ((payload_type : ℕ) (ssrc : Option ℕ) (window : List ℕ)
    → AreOpening rest payload_type ssrc window → ⊥)
    → (payload_type : ℕ) (ssrc : Option ℕ) (window : List ℕ)
    → IsOpenLine text payload_type ssrc window → ⊥
open_none text rest e none payload_type ssrc window all =
    none payload_type ssrc window (subst (λ (l : List ℕ). AreOpening l payload_type ssrc window)
    (same_rest (codes "open ") all.rest rest (sym all.text_is ∙ e)) all.fields)
