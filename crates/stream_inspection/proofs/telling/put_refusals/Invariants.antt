use Rattle.std.proofs.Common.{◌≡◌, ◌++◌}
use Rattle.path_receiver.specs.Answers.{all_refusals}
use Rattle.run_outcome.proofs.Printed.{texts_before}
use Rattle.stream_inspection.specs.Told.{refused_line}
use Rattle.stream_inspection.proofs.telling.put_refusals.Given as goal

abbrev pub invariant-loop-place : goal.invariant-loop-place
invariant-loop-place g l =
    l.text.items ≡ l.initial.text.items
    ++ texts_before (refused_line l.fn.form l.refused) all_refusals l.place
