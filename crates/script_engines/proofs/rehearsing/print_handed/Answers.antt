use Rattle.std.proofs.Common.{◌∙◌, append-nil, refl, sym}
use Rattle.std.proofs.lemmas.Result.{err_from_is_err_and}
use Rattle.run_outcome.proofs.Printed.{texts_all, texts_cut, texts_more}
use Rattle.script_engines.specs.Rehearsed.{handed_line}
use Rattle.script_engines.proofs.rehearsing.print_handed.Goals as goal

pub loop-out-init : goal.loop-out-init
loop-out-init g c = record { printed = sym (append-nil _); failures = refl }

pub loop-out-preserved : goal.loop-out-preserved
loop-out-preserved g c = record {
  printed =
      texts_more handed_line c.args.handed.now c.loop-out.out-index c.out-item.result
      c.out-item.result _ _ _ c.loop-out-test.true c.out-item.is c.loop-out.invariant.printed
      c.in_ok-print_out.ensures.printed;
  failures = c.in_ok-print_out.ensures.failures ∙ c.loop-out.invariant.failures;
}

pub returns-in_err-print_out-clause-cut : goal.returns-in_err-print_out-clause-cut
returns-in_err-print_out-clause-cut g c =
    let p = err_from_is_err_and c.from_residual.result c.from_residual.ensures.1 in
    rw (p.1)
    (texts_cut handed_line c.args.handed.now c.loop-out.out-index c.out-item.result
    c.out-item.result _ _ _ c.loop-out-test.true c.out-item.is c.loop-out.invariant.printed
    c.in_err-print_out.ensures.cut)

pub returns-clause-printed : goal.returns-clause-printed
returns-clause-printed g c =
    texts_all handed_line c.args.handed.now c.loop-out.out-index _ _ c.loop-out-test.false
    c.loop-out.invariant.printed
