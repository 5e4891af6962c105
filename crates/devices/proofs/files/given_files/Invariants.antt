use Rattle.std.proofs.Common.{◌≡◌, [], All, vec_len}
use Rattle.devices.specs.Passed.{file_gave}
use Rattle.devices.proofs.files.given_files.Given as goal

abbrev pub invariant-loop-name : goal.invariant-loop-name
invariant-loop-name l = (vec_len l.files ≡ l.name-index) × All (λ f. file_gave f ≡ []) l.files.items
