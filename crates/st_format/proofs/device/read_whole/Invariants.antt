use Rattle.std.proofs.Common.{◌≡◌, ◌≤◌, ◌<◌, ◌-◌, ◌++◌, length, take}
use Rattle.std.specs.Io.KnownBytes.{Consumes}
use Rattle.st_format.specs.Device.{TellsOctets}
use Rattle.st_format.proofs.device.read_whole.Given as goal

abbrev pub decreases-loop-filled : goal.decreases-loop-filled
decreases-loop-filled g l = length l.initial.buf - l.filled

abbrev pub invariant-loop-filled : goal.invariant-loop-filled
invariant-loop-filled g l =
    (l.filled ≤ length l.buf)
    × Consumes (g.S.ByteSource.to_give l.initial.source) (g.S.ByteSource.to_give l.source)
    (take l.filled l.buf)
    × (g.S.ByteSource.failures l.source ≡ g.S.ByteSource.failures l.initial.source)
    × (0 < l.filled → TellsOctets (g.S.ByteSource.to_give l.initial.source))
    × (g.S.ByteSource.gave l.source ≡ g.S.ByteSource.gave l.initial.source ++ take l.filled l.buf)
    × (g.S.ByteSource.names l.source ≡ g.S.ByteSource.names l.initial.source)
