use Rattle.std.proofs.Common.{◌≡◌, ◌≤◌, ◌-◌, ◌++◌, length, take}
use Rattle.std.specs.Io.KnownBytes.{Appends}
use Rattle.st_format.specs.Device.{StaysUntold}
use Rattle.st_format.proofs.device.write_whole.Given as goal

abbrev pub decreases-loop-done : goal.decreases-loop-done
decreases-loop-done g l = length l.octets - l.done

abbrev pub invariant-loop-done : goal.invariant-loop-done
invariant-loop-done g l =
    (l.done ≤ length l.octets)
    × Appends (g.K.ByteSink.held l.initial.sink) (g.K.ByteSink.held l.sink) (take l.done l.octets)
    × (g.K.ByteSink.failures l.sink ≡ g.K.ByteSink.failures l.initial.sink)
    × StaysUntold (g.K.ByteSink.held l.initial.sink) (g.K.ByteSink.held l.sink)
    × (g.K.ByteSink.took l.sink ≡ g.K.ByteSink.took l.initial.sink ++ take l.done l.octets)
    × (g.K.ByteSink.names l.sink ≡ g.K.ByteSink.names l.initial.sink)
