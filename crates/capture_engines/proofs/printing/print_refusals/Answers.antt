use Rattle.std.proofs.Common.{append-nil, ◌∙◌, refl, sym}
use Rattle.std.proofs.lemmas.Result.{err_from_is_err_and}
use Rattle.path_receiver.specs.Answers.{all_refusals}
use Rattle.capture_engines.specs.Printed.{refusal_line}
use Rattle.capture_engines.proofs.Printed.{refusals_cut, refusals_more}
use Rattle.run_outcome.proofs.Printed.{texts_all}
use Rattle.capture_engines.proofs.printing.print_refusals.Goals as goal

pub loop-place-init : goal.loop-place-init
loop-place-init g c = record { printed = sym (append-nil _); failures = refl }

pub loop-place-preserved : goal.loop-place-preserved
loop-place-preserved g c =
    let l = c.loop-place in
    record {
      printed =
          refusals_more c.args.refused.now c.refusal_at.result l.place _ _ _
          c.refusal_at.ensures c.loop-place-test.true l.invariant.printed
          c.in_ok-print_counted.ensures.printed;
      failures = c.in_ok-print_counted.ensures.failures ∙ l.invariant.failures;
    }

pub returns-in_err-print_counted-clause-cut : goal.returns-in_err-print_counted-clause-cut
returns-in_err-print_counted-clause-cut g c =
    let l = c.loop-place in
    let p = err_from_is_err_and c.from_residual.result c.from_residual.ensures.1 in
    rw (p.1)
    (refusals_cut c.args.refused.now c.refusal_at.result l.place _ _ _ c.refusal_at.ensures
    c.loop-place-test.true l.invariant.printed c.in_err-print_counted.ensures.cut)

pub returns-clause-printed : goal.returns-clause-printed
returns-clause-printed g c =
    let l = c.loop-place in
    texts_all (refusal_line c.args.refused.now) all_refusals l.place _ _ c.loop-place-test.false
    l.invariant.printed
