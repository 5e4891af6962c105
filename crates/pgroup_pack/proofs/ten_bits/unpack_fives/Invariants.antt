use Rattle.std.proofs.Common.{◌*◌, take}
use Rattle.st_format.specs.Samples.{Spells}
use Rattle.pgroup_pack.proofs.ten_bits.unpack_fives.Given as goal

abbrev pub invariant-loop-i : goal.invariant-loop-i
invariant-loop-i l = Spells 10 (take (5 * l.i) l.octets) (take (4 * l.i) l.samples)
