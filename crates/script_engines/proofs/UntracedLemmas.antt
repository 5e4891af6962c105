-- Why a script of `trace` is refused, and what was printed.
use Rattle.std.proofs.Common.{◌≡◌, inl, inr, Bool, true, ℕ, List, [], ◌∷◌, ◌++◌, length}
use Rattle.std.proofs.Common.{Option, None, Ok, Result, Err, ap, sym, subst, ◌∙◌}
use Rattle.std.proofs.Common.{append-nil, ◌↔◌, IsErrOf, refl}
use Rattle.path_receiver.specs.Frames.{State}
use Rattle.path_receiver.specs.Numbers.{Numbers}
use Rattle.path_receiver.specs.Opening.{AreDifferent, IsWindowSize, Opening}
use Rattle.path_receiver.specs.declared.fault.OpenFault.{OpenFault}
use Rattle.path_receiver.specs.declared.fault.OpenFault.TheVariants as open_fault
use Rattle.st_format.specs.declared.format.Format.{Format}
use Rattle.st_format.specs.Fields.{fields_of}
use Rattle.run_outcome.specs.LowerFaults.{of_line, of_script}
use Rattle.run_outcome.specs.Refusing.{OfRefusal}
use Rattle.run_outcome.specs.declared.fault.Fault.{Fault}
use Rattle.run_outcome.specs.declared.fault.Fault.TheVariants.{Refused, Device, Memory}
use Rattle.run_outcome.specs.declared.refusal.Refusal.{Refusal}
use Rattle.run_outcome.specs.declared.script_line.Form.TheVariants.{End}
use Rattle.run_outcome.specs.declared.script_line.LineFault.TheVariants as fault
use Rattle.script_engines.specs.FirstLines.{ReadsFormat, ReadsOpening}
use Rattle.script_engines.specs.Script.{line_behind, numbered_lines}
use Rattle.script_engines.specs.Traced.{Answers, AnswersToFault, IsFaultyOpening, IsFaultyStart}
use Rattle.script_engines.specs.Traced.{IsUnfollowed, IsUntraced, OpensBy, TracesToFault}
use Rattle.script_engines.proofs.TraceLemmas.{FollowedTo}

-- what is so of a fault is so of the refusal that it is
pub as_refusal : (X : Fault → Type 0) (f : Fault) → X f → OfRefusal f (λ r. X (Refused r))
as_refusal X (Refused r) x = x
as_refusal X Device x = tt
as_refusal X Memory x = tt

-- what holds of a fault's refusal gives what holds of the same one's
pub then_refusal : {P Q : Refusal → Type 0} (f y : Fault) → y ≡ f → ((r : Refusal) → P r → Q r)
    → OfRefusal f P → OfRefusal y Q
then_refusal {P} {Q} f y same then is =
    subst (λ (g : Fault). OfRefusal g Q) (sym same) (mapped f is)
  where
    mapped : (g : Fault) → OfRefusal g P → OfRefusal g Q
    mapped (Refused r) p = then r p
    mapped Device p = tt
    mapped Memory p = tt

-- the second of the lines that open a receiver is at fault
pub start_at_opening : (lines behind : List (ℕ × List ℕ)) (end last : ℕ) (format : Format)
    → ReadsFormat lines behind (Ok (fields_of format)) → last ≡ end → (f : Fault)
    → IsFaultyOpening format behind last f → IsFaultyStart lines end f
start_at_opening lines behind end last format read is f bad =
    inr (
      format,
      behind,
      read,
      subst (λ (e : ℕ). IsFaultyOpening format behind e f) is bad,
    )

-- the next line says an opening, by which no receiver is opened
pub opening_refused : {V : Type 0} (r : Result V OpenFault) (why : OpenFault) (f : Fault)
    (format : Format) (lines behind : List (ℕ × List ℕ)) (end : ℕ) (opening : Opening)
    → (read : ReadsOpening lines behind format opening) → r ≡ Err why
    → IsErrOf r open_fault.BadWindow ↔ (IsWindowSize (length opening.window) → ⊥)
    → IsErrOf r open_fault.DoubleTimestamp
    ↔ (IsWindowSize (length opening.window) × (AreDifferent opening.window → ⊥))
    → f ≡ of_line read.number (fault.Open why)
    → OfRefusal f (λ q. IsFaultyOpening format lines end (Refused q))
opening_refused r open_fault.NoMemory f format lines behind end opening read err size double is =
    subst (λ (g : Fault). OfRefusal g (λ q. IsFaultyOpening format lines end (Refused q)))
    (sym is) tt
opening_refused r open_fault.BadWindow f format lines behind end opening read err size double is =
    as_refusal (λ (g : Fault). IsFaultyOpening format lines end g) f
    (inr (open_fault.BadWindow, behind, opening, read, size.0 err, is))
opening_refused r open_fault.DoubleTimestamp f format lines behind end opening read err size double
    is =
    as_refusal (λ (g : Fault). IsFaultyOpening format lines end g) f
    (inr (open_fault.DoubleTimestamp, behind, opening, read, double.0 err, is))

-- the next line isn't followed, and printed nothing
pub stops_at_line : (lines left behind : List (ℕ × List ℕ)) (next : ℕ × List ℕ)
    (old mid : State) (before between : Option Numbers) (took took' new : List ℕ)
    → left ≡ next ∷ behind → FollowedTo lines left old mid before between took took'
    → (is_cut : Bool) (end : ℕ) (f : Fault) → IsUnfollowed next between f × (new ≡ took')
    → AnswersToFault lines old before is_cut end f took new
stops_at_line lines left behind next old mid before between took took' new is so_far is_cut end f
    bad =
    record {
      done = so_far.done;
      left = next ∷ behind;
      parts = so_far.parts ∙ ap (λ (l : List (ℕ × List ℕ)). so_far.done ++ l) is;
      last = mid;
      numbers = between;
      answers = subst (λ (t : List ℕ). Answers so_far.done old mid before between took t)
          (sym bad.1) so_far.answers;
      stopped = bad.0;
    }

-- all lines were followed, and the script passes the limit
pub stops_at_end : (lines : List (ℕ × List ℕ)) (old last : State) (before numbers : Option Numbers)
    (took took' : List ℕ) (is_cut : Bool) (n end : ℕ) (f : Fault)
    → Answers lines old last before numbers took took' → is_cut ≡ true → f ≡ of_script n End
    → n ≡ end → AnswersToFault lines old before is_cut end f took took'
stops_at_end lines old last before numbers took took' is_cut n end f said cut is at = record {
  done = lines;
  left = [];
  parts = sym (append-nil lines);
  last = last;
  numbers = numbers;
  answers = said;
  stopped = (cut, is ∙ ap (λ (k : ℕ). of_script k End) at);
}

-- ---- a whole script

pub untraced_start : (took script : List ℕ) (is_cut : Bool) (lines : List (ℕ × List ℕ)) (end : ℕ)
    → lines ≡ numbered_lines 0 script → end ≡ line_behind 0 script → (f : Fault)
    → IsFaultyStart lines end f → TracesToFault took took script is_cut f
untraced_start took script is_cut lines end same last f bad = inl (
  subst (λ (e : ℕ). IsFaultyStart (numbered_lines 0 script) e f) last
      (subst (λ (l : List (ℕ × List ℕ)). IsFaultyStart l end f) same bad),
  refl,
)

pub untraced_behind : (took took' script : List ℕ) (is_cut : Bool)
    (lines rest : List (ℕ × List ℕ)) (end : ℕ) (opened : State) (numbers : Option Numbers)
    → lines ≡ numbered_lines 0 script → end ≡ line_behind 0 script → OpensBy lines rest opened
    → numbers ≡ None → (f : Fault)
    → AnswersToFault rest opened numbers is_cut end f took took'
    → TracesToFault took took' script is_cut f
untraced_behind took took' script is_cut lines rest end opened numbers same last opens none f bad =
    inr (
      opened,
      rest,
      subst (λ (l : List (ℕ × List ℕ)). OpensBy l rest opened) same opens,
      subst (λ (n : Option Numbers).
          AnswersToFault rest opened n is_cut (line_behind 0 script) f took took') none
          (subst (λ (e : ℕ). AnswersToFault rest opened numbers is_cut e f took took') last bad),
    )

-- why a script is refused, whatever was printed
pub untraced : (took took' script : List ℕ) (is_cut : Bool) (f : Fault)
    → TracesToFault took took' script is_cut f → IsUntraced script is_cut f
untraced took took' script is_cut f (inl start) = inl start.0
untraced took took' script is_cut f (inr behind) =
    let at = behind.3 in
    inr (record {
      opened = behind.0;
      rest = behind.1;
      opens = behind.2;
      stops = record {
        done = at.done;
        left = at.left;
        parts = at.parts;
        last = at.last;
        numbers = at.numbers;
        text = at.answers.text;
        followed = at.answers.followed;
        stopped = at.stopped;
      };
    })
