-- The first two lines of a script open a receiver in one way.
use Rattle.std.proofs.Common.{◌≡◌, ℕ, List, [], ◌∷◌, Option, None}
use Rattle.std.proofs.Common.{codes, length, get_or, refl, sym, ap, ◌∙◌, subst, arith}
use Rattle.std.proofs.lemmas.Str.Parse.{digit_at}
use Rattle.st_format.specs.declared.format.Format.{Format}
use Rattle.st_format.specs.Text.{parted}
use Rattle.path_receiver.specs.Opening.{Opening}
use Rattle.run_outcome.specs.Sources.{IsSourceText}
use Rattle.run_outcome.specs.Timestamps.{AreTimestamps}
use Rattle.script_engines.specs.FirstLines.{ReadsOpening}
use Rattle.script_engines.specs.Forms.{IsWindowText}
use Rattle.script_engines.proofs.LinesOnce.{one_number, parts}
use Rattle.script_engines.proofs.FormLemmas.{same_rest}
use Rattle.run_laws.proofs.Opened.{Part, none_some, one_source, one_window}

-- `-` is no list of timestamps
dash_none : (text : List ℕ) (t : ℕ) (ts : List ℕ) → text ≡ codes "-"
    → AreTimestamps text (t ∷ ts) → ⊥
dash_none text t [] e p =
    let first : get_or text 0 0 ≡ 45 = ap (λ (l : List ℕ). get_or l 0 0) e in
    let long : length text ≡ 1 = ap (λ (l : List ℕ). length l) e in
    let digit = digit_at text 0 p.1.is.digits (omega (arith, long)) in
    omega (arith, digit, first)
dash_none text t (u ∷ ts) e p =
    let none : parted 44 text ≡ None = ap (λ (l : List ℕ). let r : Part = parted 44 l in r) e in
    none_some (parted 44 text) p.0 p.1 none p.2

pub same_window : (text : List ℕ) (ts us : List ℕ) → IsWindowText text ts → IsWindowText text us
    → ts ≡ us
same_window text [] [] p q = refl
same_window text [] (u ∷ us) p q = absurd (dash_none text u us p q)
same_window text (t ∷ ts) [] p q = absurd (dash_none text t ts q p)
same_window text (t ∷ ts) (u ∷ us) p q = one_window text (t ∷ ts) (u ∷ us) p q

abbrev opening_by : Format → ℕ → Option ℕ → List ℕ → Opening
opening_by f p ssrc w = record { format = f; payload_type = p; ssrc = ssrc; window = w }

pub one_opening : (lines rest others after : List (ℕ × List ℕ)) (f g : Format) (o p : Opening)
    (a : ReadsOpening lines rest f o) (b : ReadsOpening others after g p) → a.text ≡ b.text
    → f ≡ g → o ≡ p
one_opening lines rest others after f g o p a b same formats =
    let x = a.line_is in
    let y = b.line_is in
    let behind = same_rest (codes "open ") x.rest y.rest (sym x.text_is ∙ same ∙ y.text_is) in
    let h = x.fields in
    let i = y.fields in
    let one = parts 32 x.rest y.rest h.number h.behind i.number i.behind behind h.parts i.parts in
    let two = parts 32 h.behind i.behind h.source a.window i.source b.window one.1 h.parts_behind
    i.parts_behind in
    let format : o.format ≡ p.format = a.format_is ∙ formats ∙ sym b.format_is in
    let type =
    one_number h.number i.number o.payload_type p.payload_type one.0 h.number_is i.number_is in
    let source = one_source i.source o.ssrc p.ssrc
    (subst (λ (l : List ℕ). IsSourceText l o.ssrc) two.0 h.source_is) i.source_is in
    let window = same_window b.window o.window p.window
    (subst (λ (l : List ℕ). IsWindowText l o.window) two.1 a.window_is) b.window_is in
    ap (λ (v : Format). opening_by v o.payload_type o.ssrc o.window) format
    ∙ ap (λ (v : ℕ). opening_by p.format v o.ssrc o.window) type
    ∙ ap (λ (v : Option ℕ). opening_by p.format p.payload_type v o.window) source
    ∙ ap (opening_by p.format p.payload_type p.ssrc) window
