use Rattle.std.proofs.Common.{◌*◌, take}
use Rattle.st_format.specs.Samples.{Spells}
use Rattle.pgroup_pack.proofs.sixteen_bits.unpack.Given as goal

abbrev pub invariant-loop-i : goal.invariant-loop-i
invariant-loop-i l = Spells 16 (take (16 * l.i) l.octets) (take (8 * l.i) l.samples)
