use Rattle.std.proofs.Common.{◌≡◌, [], All}
use Rattle.devices.specs.Passed.{file_gave}
use Rattle.recording_runs.proofs.telling.named_but_input.Given as goal

abbrev pub invariant-loop-name : goal.invariant-loop-name
invariant-loop-name l = All (λ f. file_gave f ≡ []) l.files.items
