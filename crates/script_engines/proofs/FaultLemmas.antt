-- Lines of `trace` at which a script is at fault: a text is a line in one way, as far as it may be
-- unfit.
use Rattle.std.proofs.Common.{◌≡◌, ◌↔◌, inl, inr, ℕ, List, ◌++◌, codes, length, ◌≤◌, Option}
use Rattle.std.proofs.Common.{Some, None, IfNone, Result, Ok, Err, OnOk, refl, ap, subst, sym, ◌∙◌}
use Rattle.std.proofs.Common.{arith, take, length-take-le}
use Rattle.path_receiver.specs.Numbers.{Numbers}
use Rattle.st_format.specs.declared.path.Path.TheVariants as path
use Rattle.run_outcome.specs.declared.fault.Fault.{Fault}
use Rattle.run_outcome.specs.declared.script_line.Form.{Form}
use Rattle.run_outcome.specs.LowerFaults.{EndsMisformed, of_script}
use Rattle.run_outcome.specs.declared.fault.Fault.TheVariants.{Refused, Memory}
use Rattle.run_outcome.specs.declared.refusal.Refusal.TheVariants.{Script}
use Rattle.script_engines.specs.declared.line.TraceLine.{TraceLine}
use Rattle.script_engines.specs.declared.line.TraceLine.TheVariants.{Datagram, Slide, Cell}
use Rattle.script_engines.specs.declared.line.TraceLine.TheVariants as line
use Rattle.script_engines.specs.Forms.{IsOctetsText, IsTraceLine}
use Rattle.script_engines.specs.Session.{IsAtFault, IsUnfitLine}
use Rattle.script_engines.proofs.FormLemmas.{differ, same_rest}

-- no octets for which there is room have these digits
abbrev NoOctets : List ℕ → ℕ → Type 0
NoOctets digits room = (octets : List ℕ) → length octets ≤ room → IsOctetsText digits octets → ⊥

same_digits : (word a b text : List ℕ) (room : ℕ) → text ≡ word ++ a → text ≡ word ++ b
    → NoOctets a room → NoOctets b room
same_digits word a b text room at is none =
    subst (λ (d : List ℕ). NoOctets d room) (same_rest word a b (sym at ∙ is)) none

-- a line that is no datagram and no `numbers` is never unfit, so the text that it has is of no
-- other form
unfit_again : (text : List ℕ) (room : ℕ) (noted : Option Numbers) (a b : TraceLine)
    → IsTraceLine text a → IsTraceLine text b → IsUnfitLine a room noted → IsUnfitLine b room noted
unfit_again text room noted (Datagram path.A d) (Datagram path.A e) at is none =
    same_digits (codes "A ") d.now e.now text room at is none
unfit_again text room noted (Datagram path.A d) (Datagram path.B e) at is none =
    absurd (differ text (codes "A " ++ d.now) (codes "B " ++ e.now) refl at is)
unfit_again text room noted (Datagram path.A d) (Slide next) at is none =
    absurd (differ text (codes "A " ++ d.now) (codes "slide " ++ is.0) refl at is.1)
unfit_again text room noted (Datagram path.A d) (line.Numbers first count) at is none =
    absurd (differ text (codes "A " ++ d.now) (codes "numbers " ++ is.0) refl at is.1)
unfit_again text room noted (Datagram path.A d) (Cell place) at is none =
    absurd (differ text (codes "A " ++ d.now) (codes "cell " ++ is.0) refl at is.1)
unfit_again text room noted (Datagram path.B d) (Datagram path.A e) at is none =
    absurd (differ text (codes "B " ++ d.now) (codes "A " ++ e.now) refl at is)
unfit_again text room noted (Datagram path.B d) (Datagram path.B e) at is none =
    same_digits (codes "B ") d.now e.now text room at is none
unfit_again text room noted (Datagram path.B d) (Slide next) at is none =
    absurd (differ text (codes "B " ++ d.now) (codes "slide " ++ is.0) refl at is.1)
unfit_again text room noted (Datagram path.B d) (line.Numbers first count) at is none =
    absurd (differ text (codes "B " ++ d.now) (codes "numbers " ++ is.0) refl at is.1)
unfit_again text room noted (Datagram path.B d) (Cell place) at is none =
    absurd (differ text (codes "B " ++ d.now) (codes "cell " ++ is.0) refl at is.1)
unfit_again text room noted (Slide next) b at is none = absurd none
unfit_again text room noted (line.Numbers first count) (Datagram path.A e) at is none =
    absurd (differ text (codes "numbers " ++ at.0) (codes "A " ++ e.now) refl at.1 is)
unfit_again text room noted (line.Numbers first count) (Datagram path.B e) at is none =
    absurd (differ text (codes "numbers " ++ at.0) (codes "B " ++ e.now) refl at.1 is)
unfit_again text room noted (line.Numbers first count) (Slide next) at is none =
    absurd (differ text (codes "numbers " ++ at.0) (codes "slide " ++ is.0) refl at.1 is.1)
unfit_again text room noted (line.Numbers first count) (line.Numbers first' count') at is none =
    none
unfit_again text room noted (line.Numbers first count) (Cell place) at is none =
    absurd (differ text (codes "numbers " ++ at.0) (codes "cell " ++ is.0) refl at.1 is.1)
unfit_again text room noted (Cell place) b at is none = absurd none

unfit_of : (text : List ℕ) (room : ℕ) (noted : Option Numbers) (b : TraceLine) → IsTraceLine text b
    → IsAtFault text room noted → IsUnfitLine b room noted
unfit_of text room noted b is (inl none) = absurd (none b is)
unfit_of text room noted b is (inr said) = unfit_again text room noted said.0 b said.1 is said.2

-- a fault of a script names one line
abbrev line_of : {V : Type 0} → Result V Fault → ℕ
line_of (Err (Refused (Script n f))) = n
line_of other = 0

-- where a line is told to be at fault, it is
pub told : {V P : Type 0} (number : ℕ) (form : Form) (f : Fault) → f ≡ of_script number form → P
    → (n : ℕ) → EndsMisformed {V = V} (Err f) n ↔ ((n ≡ number) × P)
told {V} number form f is p n = (
  λ e.
      let same : ◌≡◌ {A = Result V Fault} (Err (of_script number form)) (Err f) =
      ap (λ (g : Fault). Err g) (sym is) in
      (sym (ap line_of (same ∙ e.1)), p),
  λ u. (form, ap (λ (g : Fault). Err g) (is ∙ ap (λ (k : ℕ). of_script k form) (sym u.0))),
)

-- a line that succeeds is not at fault
pub never : {V : Type 0} (text : List ℕ) (number room : ℕ) (noted : Option Numbers) (b : TraceLine)
    (v : V) → IsTraceLine text b → (IsUnfitLine b room noted → ⊥) → (n : ℕ)
    → EndsMisformed {V = V} (Ok v) n ↔ ((n ≡ number) × IsAtFault text room noted)
never text number room noted b v is fit n =
    (λ e. let q = e.1 in absurd cc, λ u. absurd (fit (unfit_of text room noted b is u.1)))

-- nor is one at which memory is wanted
pub wanted : {V : Type 0} (text : List ℕ) (number room : ℕ) (noted : Option Numbers) (b : TraceLine)
    (r : Result V Fault) (f : Fault) → IsTraceLine text b → (IsUnfitLine b room noted → ⊥)
    → r ≡ Err f → f ≡ Memory → (n : ℕ)
    → EndsMisformed r n ↔ ((n ≡ number) × IsAtFault text room noted)
wanted text number room noted b r f is fit err memory n =
    (λ e. let q = e.1 in absurd cc, λ u. absurd (fit (unfit_of text room noted b is u.1)))

-- the fault of a run that ended by one
abbrev fault_in : {V : Type 0} → Fault → Result V Fault → Fault
fault_in f (Ok v) = f
fault_in f (Err g) = g

same_fault : {V : Type 0} (f g : Fault) → ◌≡◌ {A = Result V Fault} (Err f) (Err g) → f ≡ g
same_fault f g e = ap (fault_in f) e

-- where a fault is a script's exactly where the line is unfit, it is so where the text is at fault
pub told_by : {V W : Type 0} (text : List ℕ) (number room : ℕ) (noted : Option Numbers)
    (b : TraceLine) (form : Form) (f : Fault) → IsTraceLine text b
    → ((◌≡◌ {A = Result W Fault} (Err f) (Err (of_script number form)))
    ↔ IsUnfitLine b room noted)
    → ((n : ℕ) (wanted : Form) → ◌≡◌ {A = Result W Fault} (Err f) (Err (of_script n wanted))
    → (n ≡ number) × (wanted ≡ form))
    → (n : ℕ) → EndsMisformed {V = V} (Err f) n ↔ ((n ≡ number) × IsAtFault text room noted)
told_by text number room noted b form f is unfit one n = (
  λ e.
      let script : f ≡ of_script n e.0 = same_fault f (of_script n e.0) e.1 in
      let same = one n e.0 (ap (λ (g : Fault). Err g) script) in
      let this : f ≡ of_script number form =
      script ∙ ap (λ (k : ℕ). of_script k e.0) same.0
      ∙ ap (λ (wanted : Form). of_script number wanted) same.1 in
      (same.0, inr (b, is, unfit.0 (ap (λ (g : Fault). Err g) this))),
  λ u.
      let this : f ≡ of_script number form =
      same_fault f (of_script number form) (unfit.1 (unfit_of text room noted b is u.1)) in
      (form, ap (λ (g : Fault). Err g) (this ∙ ap (λ (k : ℕ). of_script k form) (sym u.0))),
)

-- no octets for which there is room have the digits of octets that were read
pub some_fit : (digits read : List ℕ) (n room : ℕ) → n ≤ length read → length read ≡ room
    → IsOctetsText digits (take n read) → NoOctets digits room → ⊥
some_fit digits read n room within same is none =
    let long : length (take n read) ≤ room =
    omega (arith, length-take-le n read within, within, same) in
    none (take n read) long is

-- what is known where nothing was read
pub nothing_read : {X P : Type 0} (r : Option X) → ((x : X) → r ≡ Some x → ⊥) → IfNone r P → P
nothing_read None none p = p
nothing_read (Some x) none p = absurd (none x refl)

-- what holds holds where a run succeeds
pub on_ok : {V E P : Type 0} (r : Result V E) → P → OnOk r P
on_ok (Ok v) p = p
on_ok (Err e) p = tt
