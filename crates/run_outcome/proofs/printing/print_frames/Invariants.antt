use Rattle.std.proofs.Common.{◌≡◌, ◌++◌}
use Rattle.run_outcome.specs.Frames.{frame_line_at}
use Rattle.run_outcome.proofs.Printed.{texts_before}
use Rattle.run_outcome.proofs.printing.print_frames.Given as goal

pub record Printing (so_far count : Type 0) : Type 0 where
  pub printed : so_far
  pub failures : count

abbrev pub invariant-loop-timestamp : goal.invariant-loop-timestamp
invariant-loop-timestamp g l = Printing
    (g.O.ByteSink.took l.output ≡ g.O.ByteSink.took l.initial.output
    ++ texts_before (frame_line_at l.receiver) l.receiver.opening.window l.timestamp-index)
    (g.O.ByteSink.failures l.output ≡ g.O.ByteSink.failures l.initial.output)
