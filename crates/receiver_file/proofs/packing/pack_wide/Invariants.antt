use Rattle.std.proofs.Common.{◌-◌, length}
use Rattle.receiver_file.proofs.PackedRuns.{Packed}
use Rattle.receiver_file.proofs.packing.pack_wide.Given as goal

abbrev pub invariant-loop-count : goal.invariant-loop-count
invariant-loop-count l =
    Packed l.format l.most (length l.initial.packed) l.size l.count l.at l.end l.octets l.packed

abbrev pub decreases-loop-count : goal.decreases-loop-count
decreases-loop-count l = l.most - l.count
