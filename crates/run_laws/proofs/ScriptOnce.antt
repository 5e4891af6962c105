-- A source gives one script, and its lines are read in one way.
use Rattle.std.proofs.Common.{◌≡◌, ℕ, Bool, true, false, List, [], ◌∷◌, drop, get_or, length}
use Rattle.std.proofs.Common.{Result, Ok, Err, inl, inr}
use Rattle.std.proofs.Common.{refl, sym, ap, ◌∙◌, subst, arith}
use Rattle.st_format.specs.declared.format.FormatFault.{FormatFault}
use Rattle.st_format.specs.Fields.{Fields}
use Rattle.st_format.proofs.Histories.{since_is}
use Rattle.run_outcome.specs.LowerFaults.{IsMisformed}
use Rattle.run_outcome.specs.declared.fault.Fault.{Fault}
use Rattle.script_engines.specs.FirstLines.{IsFaultyFormat, IsFaultyNext, ReadsFormat, ReadsOne}
use Rattle.script_engines.specs.FirstLines.{SaysFormatLine}
use Rattle.script_engines.specs.Script.{IsReadFrom}
use Rattle.script_engines.proofs.LinesOnce.{same_line, same_made}

-- ---- the script

-- Where a whole script was read, no other was, and none that passes the limit.
pub one_script : (before now : List ℕ) (ended : Type 0) (script other : List ℕ) (is_cut : Bool)
    → IsReadFrom before now ended script false → IsReadFrom before now ended other is_cut
    → (is_cut ≡ false) × (other ≡ script)
one_script before now ended script other true p q =
    let given : q.0 ≡ p.0 = sym (since_is before now q.0 q.1) ∙ since_is before now p.0 p.1 in
    absurd (omega (arith, q.2.0, ap (λ (l : List ℕ). length l) given, p.2.1))
one_script before now ended script other false p q =
    let given : q.0 ≡ p.0 = sym (since_is before now q.0 q.1) ∙ since_is before now p.0 p.1 in
    (refl, q.2.0 ∙ given ∙ sym p.2.0)

-- ---- the next line

-- lines, each with its number
abbrev pub Numbered : Type 0
Numbered = List (ℕ × List ℕ)

abbrev pub no_line : ℕ × List ℕ
no_line = (0, [])

-- lines have one next line, and one rest
pub same_next : (lines behind other : Numbered) (n m : ℕ) (a b : List ℕ)
    → lines ≡ (n, a) ∷ behind → lines ≡ (m, b) ∷ other → (a ≡ b) × (behind ≡ other)
same_next lines behind other n m a b p q =
    let one : ℕ × List ℕ = (n, a) in
    let two : ℕ × List ℕ = (m, b) in
    let same : one ∷ behind ≡ two ∷ other = sym p ∙ q in
    (ap (λ (l : Numbered). (get_or l 0 no_line).1) same, ap (λ (l : Numbered). drop 1 l) same)

-- a next line that is of a form is not at fault
pub not_next : (form : List ℕ → Type 0) (lines behind : Numbered) (number : ℕ) (text : List ℕ)
    (end : ℕ) (f : Fault) → lines ≡ (number, text) ∷ behind → form text
    → IsFaultyNext form lines end f → ⊥
not_next form lines behind number text end f next is bad =
    let here : IsMisformed number f × (form text → ⊥) =
    subst (λ (l : Numbered). IsFaultyNext form l end f) next bad in
    here.1 is

pub not_one : (form : List ℕ → Type 0) (lines behind : Numbered) (end : ℕ) (f : Fault)
    → ReadsOne form lines behind → IsFaultyNext form lines end f → ⊥
not_one form lines behind end f r bad =
    not_next form lines behind r.number r.text end f r.next r.is bad

-- ---- a line `format`

-- the next line makes one format, or has one reason why it makes none
one_made : (lines behind left : Numbered) (x y : Result Fields FormatFault)
    → ReadsFormat lines behind x → ReadsFormat lines left y → x ≡ y
one_made lines behind left x y read also =
    let texts = same_next lines behind left read.number also.number read.text also.text read.next
    also.next in
    read.made_is
    ∙ same_made read.said also.said
    (same_line read.text also.text read.said also.said texts.0 read.line_is also.line_is)
    ∙ sym also.made_is

abbrev is_made : Fields → Result Fields FormatFault
is_made x = Ok x

abbrev is_none : FormatFault → Result Fields FormatFault
is_none why = Err why

made_or_none : (x : Fields) (why : FormatFault) → is_made x ≡ is_none why → ⊥
made_or_none x why e = absurd cc

-- a line of which a format was made is not at fault
pub not_format : (lines behind : Numbered) (x : Fields) (end : ℕ) (f : Fault)
    → ReadsFormat lines behind (Ok x) → IsFaultyFormat lines end f → ⊥
not_format lines behind x end f r (inl bad) =
    not_next SaysFormatLine lines behind r.number r.text end f r.next (r.said, r.line_is) bad
not_format lines behind x end f r (inr bad) =
    made_or_none x bad.0 (one_made lines behind bad.1 (Ok x) (Err bad.0) r bad.2)
