use Rattle.std.proofs.Common.{◌*◌, take}
use Rattle.st_format.specs.Samples.{Spells}
use Rattle.pgroup_pack.proofs.twelve_bits.pack_twos.Given as goal

abbrev pub invariant-loop-i : goal.invariant-loop-i
invariant-loop-i l = Spells 12 (take (3 * l.i) l.octets) (take (2 * l.i) l.samples)
