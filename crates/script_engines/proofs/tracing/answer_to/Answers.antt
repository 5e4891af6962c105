use Rattle.std.proofs.Common.{◌≡◌, Option, Some, Result, Ok, inl, inr, length, refl, subst}
use Rattle.std.proofs.lemmas.Result.{err_from_is_err_and}
use Rattle.run_outcome.specs.declared.line.Line.{Line}
use Rattle.run_outcome.specs.declared.script_line.Form.TheVariants as form
use Rattle.script_engines.specs.declared.line.TraceLine.{TraceLine}
use Rattle.script_engines.specs.declared.line.TraceLine.TheVariants.{Cell, Datagram, Numbers, Slide}
use Rattle.script_engines.specs.Forms.{IsTraceLine}
use Rattle.script_engines.specs.Session.{IsAtFault}
use Rattle.script_engines.proofs.FaultLemmas.{never, nothing_read, some_fit, told, told_by}
use Rattle.script_engines.proofs.FaultLemmas.{wanted}
use Rattle.script_engines.proofs.tracing.answer_to.Goals as goal

-- answers that a call gives are told alike
same_answer : {E : Type 0} (a b : Line) → ◌≡◌ {A = Result Line E} (Ok a) (Ok b)
    → ◌≡◌ {A = Option Line} (Some a) (Some b)
same_answer a b e = cc

pub returns-in_ok-slide-in-Slide-clause-follows : goal.returns-in_ok-slide-in-Slide-clause-follows
returns-in_ok-slide-in-Slide-clause-follows g c = (
  Slide c.in-Slide.next,
  subst (λ (said : TraceLine). IsTraceLine c.args.line.text.now said) c.in-Slide.is
      c.in-Some.ensures.is,
  record {
    refused = λ m.
        let r = c.in_ok-slide-in-Slide.ensures.refused m in
        (same_answer c.in_ok-slide-in-Slide.field-0 _ r.0, r.1);
    slid = λ out.
        let r = c.in_ok-slide-in-Slide.ensures.slid out in
        (r.0, c.in_ok-slide-in-Slide.field-0, refl, r.2);
    numbers = c.slide.ensures.numbers;
  },
)

pub returns-in_err-slide-in-Slide-clause-script : goal.returns-in_err-slide-in-Slide-clause-script
returns-in_err-slide-in-Slide-clause-script g c =
    let p = err_from_is_err_and c.from_residual.result c.from_residual.ensures.1 in
    wanted c.args.line.text.now c.args.line.number (length c.args.octets.now)
    c.args.session.now.numbers (Slide c.in-Slide.next) c.from_residual.result p.0
    (subst (λ (said : TraceLine). IsTraceLine c.args.line.text.now said) c.in-Slide.is
    c.in-Some.ensures.is)
    (λ unfit. unfit) p.1 p.2

pub returns-in_default-clause-script : goal.returns-in_default-clause-script
returns-in_default-clause-script g c =
    told
    {P = IsAtFault c.args.line.text.now (length c.args.octets.now) c.args.session.now.numbers}
    c.args.line.number c.traced_form.result c.refused_at.result c.refused_at.ensures
    (inl (nothing_read c.read_trace_line.result c.in_default.not-Some
    c.read_trace_line.ensures.none))

pub returns-in-None-clause-script : goal.returns-in-None-clause-script
returns-in-None-clause-script g c =
    told
    {P = IsAtFault c.args.line.text.now (length c.args.octets.now) c.args.session.now.numbers}
    c.args.line.number form.Datagram c.refused_at-in-None.result c.refused_at-in-None.ensures (inr (
      Datagram c.in-Datagram.path c.in-Datagram.digits,
      subst (λ (said : TraceLine). IsTraceLine c.args.line.text.now said) c.in-Datagram.is
          c.in-Some.ensures.is,
      c.in-None.ensures.none,
    ))

pub returns-in-Some-read_octets-clause-script : goal.returns-in-Some-read_octets-clause-script
returns-in-Some-read_octets-clause-script g c =
    never c.args.line.text.now c.args.line.number (length c.args.octets.now)
    c.args.session.now.numbers (Datagram c.in-Datagram.path c.in-Datagram.digits) _
    (subst (λ (said : TraceLine). IsTraceLine c.args.line.text.now said) c.in-Datagram.is
    c.in-Some.ensures.is)
    (some_fit c.in-Datagram.digits.now c.read_octets.new.octets c.in-Some-read_octets.n
    (length c.args.octets.now) c.in-Some-read_octets.ensures.within
    c.in-Some-read_octets.ensures.room c.in-Some-read_octets.ensures.is)

pub returns-in_ok-slide-in-Slide-clause-script : goal.returns-in_ok-slide-in-Slide-clause-script
returns-in_ok-slide-in-Slide-clause-script g c =
    never c.args.line.text.now c.args.line.number (length c.args.octets.now)
    c.args.session.now.numbers (Slide c.in-Slide.next) _
    (subst (λ (said : TraceLine). IsTraceLine c.args.line.text.now said) c.in-Slide.is
    c.in-Some.ensures.is)
    (λ unfit. unfit)

pub returns-in-Ok-clause-script : goal.returns-in-Ok-clause-script
returns-in-Ok-clause-script g c =
    never c.args.line.text.now c.args.line.number (length c.args.octets.now)
    c.args.session.now.numbers (Numbers c.in-Numbers.first c.in-Numbers.count) _
    (subst (λ (said : TraceLine). IsTraceLine c.args.line.text.now said) c.in-Numbers.is
    c.in-Some.ensures.is)
    (λ unfit. let twice = c.in-Ok.ensures.twice.1 unfit in absurd cc)

pub returns-in-Err-clause-script : goal.returns-in-Err-clause-script
returns-in-Err-clause-script g c =
    told_by c.args.line.text.now c.args.line.number (length c.args.octets.now)
    c.args.session.now.numbers (Numbers c.in-Numbers.first c.in-Numbers.count) form.Numbers
    c.in-Err.fault
    (subst (λ (said : TraceLine). IsTraceLine c.args.line.text.now said) c.in-Numbers.is
    c.in-Some.ensures.is)
    c.in-Err.ensures.twice c.in-Err.ensures.line

pub returns-in-Cell-clause-script : goal.returns-in-Cell-clause-script
returns-in-Cell-clause-script g c =
    never c.args.line.text.now c.args.line.number (length c.args.octets.now)
    c.args.session.now.numbers (Cell c.in-Cell.place) _
    (subst (λ (said : TraceLine). IsTraceLine c.args.line.text.now said) c.in-Cell.is
    c.in-Some.ensures.is)
    (λ unfit. unfit)
