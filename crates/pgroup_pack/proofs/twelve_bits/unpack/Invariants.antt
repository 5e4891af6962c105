use Rattle.std.proofs.Common.{◌*◌, take}
use Rattle.st_format.specs.Samples.{Spells}
use Rattle.pgroup_pack.proofs.twelve_bits.unpack.Given as goal

abbrev pub invariant-loop-i : goal.invariant-loop-i
invariant-loop-i l = Spells 12 (take (12 * l.i) l.octets) (take (8 * l.i) l.samples)
