use Rattle.std.proofs.Common.{◌≡◌, map, take}
use Rattle.receiver_engines.specs.Inputs.{filled_input}
use Rattle.receiver_engines.proofs.inputs.filled_inputs.Given as goal

abbrev pub invariant-loop-frame : goal.invariant-loop-frame
invariant-loop-frame g l = l.inputs.items ≡ map (filled_input l.fill) (take l.frame-index l.frames)
