use Rattle.std.proofs.Common.{◌≡◌, take}
use Rattle.key_mix.specs.Sending.{settled_inputs}
use Rattle.key_mix.proofs.preparing.settle_inputs.Given as goal

abbrev pub invariant-loop-input : goal.invariant-loop-input
invariant-loop-input g l = l.pictures.items ≡ settled_inputs (take l.input-index l.inputs)
