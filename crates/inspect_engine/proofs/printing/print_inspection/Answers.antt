use Rattle.std.proofs.Common.{◌∙◌}
use Rattle.run_outcome.proofs.Printed.{texts_more}
use Rattle.inspect_engine.specs.Inspected.{count_lines}
use Rattle.inspect_engine.proofs.printing.print_inspection.Goals as goal

pub loop-count-preserved : goal.loop-count-preserved
loop-count-preserved g c = record {
  printed = texts_more (count_lines c.args.form) c.flows-flows.result.now c.loop-count.count-index
      c.count-item.result c.count-item.result _ _ _ c.loop-count-test.true c.count-item.is
      c.loop-count.invariant.printed (rw c.count_text.ensures at c.in_ok-print.ensures.printed);
  failures = c.in_ok-print.ensures.failures ∙ c.loop-count.invariant.failures;
}
