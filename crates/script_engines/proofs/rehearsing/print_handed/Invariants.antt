use Rattle.std.proofs.Common.{◌≡◌, ◌++◌}
use Rattle.run_outcome.proofs.Printed.{texts_before}
use Rattle.script_engines.specs.Rehearsed.{handed_line}
use Rattle.script_engines.proofs.rehearsing.print_handed.Given as goal

pub record Printing (so_far count : Type 0) : Type 0 where
  pub printed : so_far
  pub failures : count

abbrev pub invariant-loop-out : goal.invariant-loop-out
invariant-loop-out g l = Printing
    (g.O.ByteSink.took l.output ≡ g.O.ByteSink.took l.initial.output
    ++ texts_before handed_line l.handed l.out-index)
    (g.O.ByteSink.failures l.output ≡ g.O.ByteSink.failures l.initial.output)
