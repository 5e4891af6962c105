use Rattle.std.proofs.Common.{take}
use Rattle.std.specs.List.{AllByRecursion}
use Rattle.receiver_file.specs.Saved.{IsFilled}
use Rattle.receiver_file.proofs.telling.tell_all.Given as goal

abbrev pub invariant-loop-timestamp : goal.invariant-loop-timestamp
invariant-loop-timestamp g l = AllByRecursion IsFilled (take l.timestamp-index l.receiver.frames)
