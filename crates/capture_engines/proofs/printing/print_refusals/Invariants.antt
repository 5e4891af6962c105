use Rattle.std.proofs.Common.{◌≡◌, ◌++◌}
use Rattle.path_receiver.specs.Answers.{all_refusals}
use Rattle.capture_engines.specs.Printed.{refusal_line}
use Rattle.run_outcome.proofs.Printed.{texts_before}
use Rattle.capture_engines.proofs.printing.print_refusals.Given as goal

pub record Printing (so_far count : Type 0) : Type 0 where
  pub printed : so_far
  pub failures : count

abbrev pub invariant-loop-place : goal.invariant-loop-place
invariant-loop-place g l = Printing
    (g.O.ByteSink.took l.output ≡ g.O.ByteSink.took l.initial.output
    ++ texts_before (refusal_line l.refused) all_refusals l.place)
    (g.O.ByteSink.failures l.output ≡ g.O.ByteSink.failures l.initial.output)
