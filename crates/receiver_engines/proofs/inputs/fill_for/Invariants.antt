use Rattle.std.proofs.Common.{take}
use Rattle.std.specs.List.{AllByRecursion}
use Rattle.st_format.specs.Picture.{FitsDepth}
use Rattle.receiver_engines.proofs.inputs.fill_for.Given as goal

abbrev pub invariant-loop-frame : goal.invariant-loop-frame
invariant-loop-frame g l =
    AllByRecursion (λ f. AllByRecursion (FitsDepth f.now.format) l.fill)
    (take l.frame-index l.frames)
