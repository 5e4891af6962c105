-- The text that is written says what was to be said.
use Rattle.std.proofs.Common.{◌≡◌, List, ℕ, Option, Result, Ok, Err, sym, subst, ◌∙◌, ap}
use Rattle.std.specs.Prelude.{IfOk, IfSome, OnOk}
use Rattle.std.specs.declared.alloc.AllocError.{AllocError}
use Rattle.sdp_format.specs.Back.{ReadsBack}
use Rattle.sdp_format.specs.Canonical.{canonical_line}
use Rattle.sdp_format.specs.Views.{description}
use Rattle.sdp_format.specs.declared.sdp.Sdp.{Sdp}
use Rattle.flow.specs.declared.flows.Flow.{Flow}
use Rattle.sdp_writing.specs.Written.{IsTold}
use Rattle.sdp_writing.specs.Lines.{text_of}
use Rattle.sdp_writing.specs.Written.{IsTextOf, ports, sdp_lines, told_legs}
use Rattle.sdp_writing.proofs.ReadAgain.{described_again, sent_again}
use Rattle.sdp_writing.proofs.write.write_sdp.Goals as goal

says : {X : Type 0} (r : Result X AllocError) (view : X → List ℕ) (s : Sdp) (a : Flow)
    (b : Option Flow) (line : List ℕ) → line ≡ canonical_line (description s).leg
    → ReadsBack (canonical_line (description s).leg) (description s).leg
    → s.ports.items ≡ ports a b
    → IfOk r (λ t. view t ≡ text_of (sdp_lines s.payload_type line a b))
    → OnOk r (IsTold a) → OnOk r (IfSome b IsTold)
    → IfOk r (λ t. IsTextOf (view t) (description s) (told_legs a b))
says (Ok t) view s a b line e back same text first second =
    let whole : view t
    ≡ text_of (sdp_lines s.payload_type (canonical_line (description s).leg) a b) =
    text ∙ ap (λ (l : List ℕ). text_of (sdp_lines s.payload_type l a b)) e in
    subst (λ (x : List ℕ). IsTextOf x (description s) (told_legs a b)) (sym whole)
    (described_again s a b first second same back, sent_again s a b first second)
says (Err x) view s a b line e back same text first second = tt

pub returns-in-Ok-clause-says : goal.returns-in-Ok-clause-says
returns-in-Ok-clause-says g c =
    let line : c.in-Ok.line.items ≡ canonical_line (description c.args.sdp.now).leg =
    c.in-Ok.ensures.line in
    says c.written.result (λ t. t.items) c.args.sdp.now c.args.a c.args.b c.deref.result.now
    (c.deref.ensures.value ∙ line)
    (subst (λ (l : List ℕ). ReadsBack l (description c.args.sdp.now).leg) line c.in-Ok.ensures.back)
    c.requires c.written.ensures.lines c.written.ensures.a c.written.ensures.b
