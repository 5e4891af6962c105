use Rattle.std.proofs.Common.{◌≡◌, ◌++◌}
use Rattle.run_outcome.proofs.Printed.{texts_before}
use Rattle.inspect_engine.specs.Inspected.{count_lines}
use Rattle.inspect_engine.proofs.printing.print_inspection.Given as goal

pub record Printing (so_far count : Type 0) : Type 0 where
  pub printed : so_far
  pub failures : count

abbrev pub invariant-loop-count : goal.invariant-loop-count
invariant-loop-count g l = Printing
    (g.O.ByteSink.took l.output ≡ g.O.ByteSink.took l.initial.output
    ++ texts_before (count_lines l.form) l.flows l.count-index)
    (g.O.ByteSink.failures l.output ≡ g.O.ByteSink.failures l.initial.output)
