use Rattle.std.proofs.Common.{◌∷◌, ◌++◌, [], Option, Some, inr, refl, subst}
use Rattle.std.proofs.lemmas.Result.{err_from_is_err_and}
use Rattle.run_outcome.specs.declared.line.Line.{Line}
use Rattle.run_outcome.specs.Line.{line_text}
use Rattle.run_outcome.proofs.Refusals.{if_none_refused}
use Rattle.script_engines.specs.Traced.{FollowsLine}
use Rattle.script_engines.proofs.RehearsedLemmas.{on_err_map}
use Rattle.script_engines.proofs.TraceLemmas.{part_of}
use Rattle.script_engines.proofs.UntracedLemmas.{then_refusal}
use Rattle.script_engines.proofs.tracing.play_line.Goals as goal

pub returns-in-Some-clause-part : goal.returns-in-Some-clause-part
returns-in-Some-clause-part g c =
    let before = c.args.session.now in
    let after = c.answer_to.new.session in
    on_err_map c.print.result
    (λ cut. inr (
      after.receiver,
      after.numbers,
      Some c.in-Some.answer,
      subst (λ (answer : Option Line). FollowsLine c.args.line.text.now before.receiver
          after.receiver before.numbers after.numbers answer) c.in-Some.is
          c.in_ok-answer.ensures.follows,
      part_of (g.O.ByteSink.took c.args.output.now) (g.O.ByteSink.took c.print.new.output)
          (line_text c.in-Some.answer ++ 10 ∷ []) cut,
    ))
    c.print.ensures.cut

pub returns-in_err-answer-clause-stops : goal.returns-in_err-answer-clause-stops
returns-in_err-answer-clause-stops g c =
    let p = err_from_is_err_and c.from_residual.result c.from_residual.ensures.1 in
    rw (p.1)
    (then_refusal c.in_err-answer.field-0.0 p.0 p.2 (λ r bad. (bad, refl))
    c.in_err-answer.ensures.refusal)

pub returns-in-Some-clause-stops : goal.returns-in-Some-clause-stops
returns-in-Some-clause-stops g c = if_none_refused _ c.print.result c.print.ensures.unrefused
