-- Against a script that was traced to its end no refusal speaks.
use Rattle.std.proofs.Common.{◌≡◌, ℕ, Bool, true, false, List, [], ◌∷◌, ◌++◌, Option, None, Ok}
use Rattle.std.proofs.Common.{inl, inr, refl, sym, ap, ◌∙◌, subst}
use Rattle.st_format.specs.declared.format.Format.{Format}
use Rattle.st_format.specs.Fields.{fields_of}
use Rattle.path_receiver.specs.Frames.{State}
use Rattle.path_receiver.specs.Numbers.{Numbers}
use Rattle.path_receiver.specs.Opening.{IsWindow, Opening}
use Rattle.path_receiver.specs.declared.fault.OpenFault.{OpenFault}
use Rattle.path_receiver.specs.declared.fault.OpenFault.TheVariants as open_fault
use Rattle.run_outcome.specs.declared.fault.Fault.{Fault}
use Rattle.run_outcome.specs.declared.fault.Fault.TheVariants.{Refused}
use Rattle.run_outcome.specs.declared.refusal.Refusal.{Refusal}
use Rattle.script_engines.specs.FirstLines.{IsFaultyNext, ReadsFormat, ReadsOpening}
use Rattle.script_engines.specs.Reading.{DoesScript, IsRefusedFor}
use Rattle.script_engines.specs.Script.{line_behind, numbered_lines}
use Rattle.script_engines.specs.Traced.{FollowsLines, IsFaultyOpening, IsFaultyStart}
use Rattle.script_engines.specs.Traced.{IsStopped, IsUnopened, IsUntraced, OpensBy}
use Rattle.script_engines.specs.Traced.{SaysOpening, Traces}
use Rattle.script_engines.proofs.LinesFollowed.{followed_notes, not_unfollowed, noted, noted_by}
use Rattle.script_engines.proofs.LinesOnce.{one_format}
use Rattle.run_laws.proofs.ScriptLines.{one_opening}
use Rattle.run_laws.proofs.ScriptOnce.{Numbered, not_format, not_next, one_script, same_next}

-- ---- the two lines that open a receiver

not_unopened : (why : OpenFault) (window : List ℕ) → IsWindow window → IsUnopened why window → ⊥
not_unopened open_fault.NoMemory window is wrong = absurd wrong
not_unopened open_fault.BadWindow window is wrong = wrong is.size
not_unopened open_fault.DoubleTimestamp window is wrong = wrong.1 is.different

not_opening : (all lines behind others : Numbered) (f g : Format) (o : Opening) (end : ℕ)
    (e : Fault) → (a : ReadsFormat all lines (Ok (fields_of f)))
    → (b : ReadsFormat all others (Ok (fields_of g)))
    → ReadsOpening lines behind f o → IsWindow o.window → IsFaultyOpening g others end e → ⊥
not_opening all lines behind others f g o end e a b read is (inl bad) =
    let left = same_next all lines others a.number b.number a.text b.text a.next b.next in
    not_next SaysOpening lines behind read.number read.text end e read.next
    (o.payload_type, o.ssrc, read.window, o.window, read.line_is, read.window_is)
    (subst (λ (l : Numbered). IsFaultyNext SaysOpening l end e) (sym left.1) bad)
not_opening all lines behind others f g o end e a b read is (inr bad) =
    let left = same_next all lines others a.number b.number a.text b.text a.next b.next in
    let formats : f ≡ g = one_format all lines all others f g a b left.0 in
    let other = bad.3 in
    let there : lines ≡ (other.number, other.text) ∷ bad.1 = left.1 ∙ other.next in
    let texts = same_next lines behind bad.1 read.number other.number read.text other.text
    read.next there in
    let opening : o ≡ bad.2 =
    one_opening lines behind others bad.1 f g o bad.2 read other texts.0 formats in
    not_unopened bad.0 bad.2.window
    (subst (λ (w : List ℕ). IsWindow w) (ap (λ (p : Opening). p.window) opening) is) bad.4

not_start : (lines rest : Numbered) (opened : State) (end : ℕ) (e : Fault)
    → OpensBy lines rest opened → IsFaultyStart lines end e → ⊥
not_start lines rest opened end e o (inl bad) =
    not_format lines o.behind (fields_of o.format) end e o.format_read bad
not_start lines rest opened end e o (inr bad) =
    not_opening lines o.behind rest bad.1 o.format bad.0 opened.opening end e o.format_read bad.2
    o.opening_read o.window bad.3

-- the lines behind them
same_rest_of : (lines rest other : Numbered) (opened began : State) → OpensBy lines rest opened
    → OpensBy lines other began → rest ≡ other
same_rest_of lines rest other opened began o p =
    let a = o.format_read in
    let b = p.format_read in
    let left = same_next lines o.behind p.behind a.number b.number a.text b.text a.next b.next in
    let c = o.opening_read in
    let d = p.opening_read in
    (same_next o.behind rest other c.number d.number c.text d.text c.next (left.1 ∙ d.next)).1

-- ---- all lines

-- lines that were all followed are not stopped at
not_stopped : (done left : Numbered) (old new other mid : State)
    (before after also at : Option Numbers) (text said : List ℕ) (end : ℕ) (e : Fault)
    → FollowsLines (done ++ left) old new before after text
    → FollowsLines done other mid also at said → noted before ≡ noted also
    → IsStopped left false end at e → ⊥
not_stopped [] [] old new other mid before after also at text said end e f g same bad =
    let clash : false ≡ true = bad.0 in absurd cc
not_stopped [] (next ∷ left) old new other mid before after also at text said end e f g same bad =
    not_unfollowed next.1 old f.0 before f.1 f.2 f.4 at (same ∙ sym (ap noted g.1)) next.0 e bad
not_stopped (next ∷ done) left old new other mid before after also at text said end e f g same bad =
    let here : noted f.1 ≡ noted g.1 =
    followed_notes next.1 old f.0 before f.1 f.2 f.4
    ∙ ap (λ (b : Bool). noted_by b next.1) same
    ∙ sym (followed_notes next.1 other g.0 also g.1 g.2 g.4) in
    not_stopped done left f.0 new g.0 mid f.1 after g.1 at f.3 g.3 end e f.5 g.5 here bad

not_untraced : (script old new : List ℕ) (e : Fault) → Traces script old new
    → IsUntraced script false e → ⊥
not_untraced script old new e t (inl bad) =
    not_start (numbered_lines 0 script) t.rest t.opened (line_behind 0 script) e t.opens bad
not_untraced script old new e t (inr bad) =
    let s = bad.stops in
    let rest : t.rest ≡ s.done ++ s.left =
    same_rest_of (numbered_lines 0 script) t.rest bad.rest t.opened bad.opened t.opens bad.opens
    ∙ s.parts in
    not_stopped s.done s.left t.opened t.plays.last bad.opened s.last None t.plays.numbers None
    s.numbers t.plays.text s.text (line_behind 0 script) e
    (subst (λ (l : Numbered).
    FollowsLines l t.opened t.plays.last None t.plays.numbers t.plays.text) rest t.plays.followed)
    s.followed refl s.stopped

pub trace_not : {S : Type 0} (gave : S → List ℕ) (ended : S → Type 0) (source later : S)
    (old new : List ℕ) (r : Refusal)
    → DoesScript Traces (gave source) (gave later) (ended later) old new
    → IsRefusedFor IsUntraced (gave source) (gave later) (ended later) r → ⊥
trace_not gave ended source later old new r does wrong =
    let one =
    one_script (gave source) (gave later) (ended later) does.0 wrong.0 wrong.1 does.1 wrong.2 in
    not_untraced does.0 old new (Refused r) does.2
    (subst (λ (script : List ℕ). IsUntraced script false (Refused r)) one.1
    (subst (λ (is_cut : Bool). IsUntraced wrong.0 is_cut (Refused r)) one.0 wrong.3))
