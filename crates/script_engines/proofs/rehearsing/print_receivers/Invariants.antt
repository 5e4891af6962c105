use Rattle.std.proofs.Common.{◌≡◌, ◌++◌}
use Rattle.std.specs.List.{enumerate_from}
use Rattle.run_outcome.proofs.Printed.{texts_before}
use Rattle.script_engines.specs.Rehearsed.{receiver_lines}
use Rattle.script_engines.proofs.rehearsing.print_receivers.Given as goal

pub record Printing (so_far count : Type 0) : Type 0 where
  pub printed : so_far
  pub failures : count

abbrev pub invariant-loop-number : goal.invariant-loop-number
invariant-loop-number g l = Printing
    (g.O.ByteSink.took l.output ≡ g.O.ByteSink.took l.initial.output
    ++ texts_before receiver_lines (enumerate_from 0 l.receivers) l.number)
    (g.O.ByteSink.failures l.output ≡ g.O.ByteSink.failures l.initial.output)
